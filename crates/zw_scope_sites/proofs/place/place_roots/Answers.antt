use Rattle.std.proofs.Common.{refl, sym, ◌∙◌, subst, arith}
use Rattle.std.proofs.lemmas.List.{length-set}
use Rattle.zw_tree.specs.Trees.{none}
use Rattle.zw_scope_sites.specs.Sites.{Surrounds}
use Rattle.zw_scope_sites.proofs.PlaceLemmas.{roots-child, roots-next, roots-whole}
use Rattle.zw_scope_sites.proofs.RootLemmas.{around_root, around_root-child, around_root-next, around_root-none, has-parent, no-parent, root-site}
use Rattle.zw_scope_sites.proofs.place.place_roots.Goals as goal

pub loop-n-init : goal.loop-n-init
loop-n-init c = record {
  sized = c.requires;
  around = subst (Surrounds c.args.lists.now c.outermost-around.result) (sym (around_root-none c.args.ast.now)) (c.outermost-around.ensures c.args.lists.now);
  placed = λ m s lt. absurd (omega arith);
}

pub loop-n-preserved-then-is_some : goal.loop-n-preserved-then-is_some
loop-n-preserved-then-is_some c =
    let file = c.args.ast.now in
    let n = c.loop-n.n in
    let some = has-parent c.parent.result (sym c.is_some.ensures ∙ c.if-is_some.true) in
    let up = sym c.parent.ensures ∙ some.1 in
    record {
      sized = c.loop-n.invariant.sized;
      around = subst (Surrounds c.loop-n.lists c.loop-n.around) (sym (around_root-child file n some.0 (omega arith) up)) c.loop-n.invariant.around;
      placed = roots-child file n some.0 up c.loop-n.lists c.loop-n.sites c.loop-n.invariant.placed;
    }

pub loop-n-preserved : goal.loop-n-preserved
loop-n-preserved c =
    let file = c.args.ast.now in
    let n = c.loop-n.n in
    let up = sym c.parent.ensures ∙ no-parent c.parent.result (sym c.is_some.ensures ∙ c.if-is_some.false) in
    record {
      sized = length-set c.loop-n.sites n c.site_of.result ∙ c.loop-n.invariant.sized;
      around = subst (Surrounds c.pass.new.lists c.in_ok-around.around) (sym (around_root-next file n (omega arith) up))
          (c.in_ok-around.ensures.surrounds (around_root file n) c.loop-n.invariant.around);
      placed = roots-next file n (omega arith) c.loop-n.lists c.pass.new.lists c.in_ok-around.ensures.grows c.loop-n.sites c.loop-n.invariant.sized c.site_of.result
          (root-site file n (omega arith) up c.loop-n.lists c.site_of.result
          (λ root inside kind. c.site_of.ensures c.loop-n.lists (around_root file n) n root inside none c.loop-n.invariant.around (kind ∙ sym c.kind.ensures) refl))
          c.loop-n.invariant.placed;
    }

pub returns : goal.returns
returns c = roots-whole c.args.ast.now c.loop-n.n (omega arith) c.loop-n.lists c.loop-n.sites c.loop-n.invariant.placed
