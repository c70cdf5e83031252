use Rattle.std.proofs.Common.{◌∙◌, sym, ap, ℕ, List}
use Rattle.zw_tree.specs.Trees.{Forest}
use Rattle.zw_tree.specs.Growth.{grown}
use Rattle.zw_tree.specs.Slots.{forest_of}
use Rattle.zw_tree.specs.declared.ast.Entry.{Entry}
use Rattle.zw_tree.specs.declared.ast.Slot.{Slot}
use Rattle.zw_tree.proofs.SlotLemmas.{forest_of-joined, one-more}
use Rattle.zw_tree.proofs.ast.Ast.add.Goals as goal

pub invariant_of-self-2 : goal.invariant_of-self-2
invariant_of-self-2 c = one-more _ _ _ c.args.self.now (sym c.self.view_is) c.self.invariant.0 c.requires.room c.requires.place c.new-children.ensures c.in_ok-join.ensures.ok

pub returns-clause-ok : goal.returns-clause-ok
returns-clause-ok c =
    let entry : Entry = record { node = c.args.node; name = c.from_vec.result; number = c.args.number } in
    let slot : Slot = record { entry = entry; parent = c.args.parent; children = c.new-children.result } in
    ap forest_of c.in_ok-join.ensures.ok
    ∙ forest_of-joined c.self.inside.slots.items slot
    ∙ ap (λ (forest : Forest Entry). grown forest c.args.parent entry) c.self.view_is
    ∙ ap (λ (name : List ℕ). grown c.args.self.now c.args.parent (record { node = c.args.node; name = name; number = c.args.number })) c.from_vec.ensures
