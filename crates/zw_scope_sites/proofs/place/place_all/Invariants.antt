use Rattle.std.proofs.Common.{◌≡◌, length}
use Rattle.zw_tree.specs.Trees.{count}
use Rattle.zw_scope_sites.specs.Placing.{ArePlaced}
use Rattle.zw_scope_sites.proofs.place.place_all.Given as goal

abbrev pub invariant-loop-n : goal.invariant-loop-n
invariant-loop-n l = record {
  sized : length l.sites ≡ count l.ast;
  placed : ArePlaced l.lists l.sites l.ast l.n;
}
