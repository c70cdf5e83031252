use Rattle.std.proofs.Common.{◌≡◌, length}
use Rattle.zw_tree.specs.Trees.{count}
use Rattle.zw_scope_sites.specs.Sites.{Surrounds}
use Rattle.zw_scope_sites.proofs.PlaceLemmas.{RootsPlaced}
use Rattle.zw_scope_sites.proofs.RootLemmas.{around_root}
use Rattle.zw_scope_sites.proofs.place.place_roots.Given as goal

abbrev pub invariant-loop-n : goal.invariant-loop-n
invariant-loop-n l = record {
  sized : length l.sites ≡ count l.ast;
  around : Surrounds l.lists l.around (around_root l.ast l.n);
  placed : RootsPlaced l.lists l.sites l.ast l.n;
}
