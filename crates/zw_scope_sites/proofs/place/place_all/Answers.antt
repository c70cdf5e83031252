use Rattle.std.proofs.Common.{◌∙◌, arith}
use Rattle.zw_scope_sites.proofs.PlaceLemmas.{placed-next, placed-whole}
use Rattle.zw_scope_sites.proofs.place.place_all.Goals as goal

pub loop-n-preserved : goal.loop-n-preserved
loop-n-preserved c = record {
  sized = c.place_children.auto.sites ∙ c.loop-n.invariant.sized;
  placed = placed-next c.args.ast.now c.loop-n.n (omega arith) c.loop-n.lists c.place_children.new.lists c.in_ok-place_children.ensures.grows c.loop-n.sites c.place_children.new.sites c.loop-n.invariant.placed c.in_ok-place_children.ensures.placed c.in_ok-place_children.ensures.others;
}

pub returns : goal.returns
returns c = placed-whole c.args.ast.now c.loop-n.n (omega arith) c.loop-n.lists c.loop-n.sites c.loop-n.invariant.placed
