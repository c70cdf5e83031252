use Rattle.std.proofs.Common.{refl, sym, ◌∙◌, None}
use Rattle.zw_tree.specs.declared.kind.NodeKind.TheVariants.{Root}
use Rattle.zw_parse.specs.declared.order.Next.{Next}
use Rattle.zw_parse.specs.Entries.{entry_at, entry_of, span_of, IsWithin}
use Rattle.zw_parse.proofs.TreeLemmas.{within_here, place_here, room_here, kept_here, all_grown, none_grown}
use Rattle.zw_parse.proofs.tree.tree_of.Goals as goal

pub loop-next-init : goal.loop-next-init
loop-next-init c = λ forest t. c.new-ast.ensures ∙ sym (none_grown (entry_at c.args.file c.args.text.now c.args.tokens.now) forest)

pub describe-requires-clause-within : goal.describe-requires-clause-within
describe-requires-clause-within c =
    let t = c.requires.tree in
    within_here (IsWithin c.args.tokens.now) (entry_at c.args.file c.args.text.now c.args.tokens.now) span_of (λ s size. refl) _ t.0 _ _ _ _ c.loop-next.ast c.requires.within t.1 c.deref-next-items.ensures.value (c.in_ok-order.ensures t.0 t.1) c.loop-next-test.true

pub add-requires-clause-place : goal.add-requires-clause-place
add-requires-clause-place c =
    let t = c.requires.tree in
    place_here (IsWithin c.args.tokens.now) (entry_at c.args.file c.args.text.now c.args.tokens.now) span_of (λ s size. refl) _ t.0 _ _ _ _ c.loop-next.ast c.requires.within t.1 c.deref-next-items.ensures.value (c.in_ok-order.ensures t.0 t.1) c.loop-next-test.true (c.loop-next.invariant t.0 t.1)

pub add-requires-clause-room : goal.add-requires-clause-room
add-requires-clause-room c =
    let t = c.requires.tree in
    let entries = entry_at c.args.file c.args.text.now c.args.tokens.now in
    let other : Next = record { node = record { kind = Root; first = 0; last = 0; size = 0 }; parent = None } in
    room_here (IsWithin c.args.tokens.now) entries span_of (λ s size. refl) _ t.0 _ _ _ other _ c.requires.within t.1 c.deref-next-items.ensures.value (c.in_ok-order.ensures t.0 t.1) c.loop-next-test.true (c.loop-next.invariant t.0 t.1) c.requires.nodes

pub loop-next-preserved : goal.loop-next-preserved
loop-next-preserved c = λ forest t.
    let entries = entry_at c.args.file c.args.text.now c.args.tokens.now in
    let said = c.in_ok-said.ensures c.args.file (c.deref.ensures.value ∙ c.in_ok-places.ensures) in
    kept_here (IsWithin c.args.tokens.now) entries span_of (λ s size. refl) _ forest _ _ _ _ _ c.requires.within t c.deref-next-items.ensures.value (c.in_ok-order.ensures forest t) c.loop-next-test.true (c.loop-next.invariant forest t) _ (entry_of c.in_ok-said.said) c.in_ok-add.ensures.ok said

pub returns : goal.returns
returns c = λ forest t. c.loop-next.invariant forest t ∙ all_grown (entry_at c.args.file c.args.text.now c.args.tokens.now) forest c.deref-next-items.result.now c.loop-next.next-index (c.deref-next-items.ensures.value ∙ c.in_ok-order.ensures forest t) c.loop-next-test.false
