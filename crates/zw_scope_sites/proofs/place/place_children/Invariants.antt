use Rattle.std.proofs.Common.{◌≡◌, ℕ, suc, ◌<◌, length, slice_get, Some}
use Rattle.zw_tree.specs.Numbering.{below, children}
use Rattle.zw_tree.specs.Trees.{count}
use Rattle.zw_scope_sites.specs.Lists.{Grows}
use Rattle.zw_scope_sites.specs.Placing.{HasSite, walked}
use Rattle.zw_scope_sites.specs.Scopes.{Standing, all_standing}
use Rattle.zw_scope_sites.specs.Sites.{Surrounds, around_at}
use Rattle.zw_scope_sites.proofs.place.place_children.Given as goal

abbrev pub invariant-loop-k : goal.invariant-loop-k
invariant-loop-k l = record {
  sized : length l.sites ≡ count l.ast;
  grows : Grows l.fn.lists l.lists;
  around : (s : Standing) → slice_get (all_standing l.ast) l.n ≡ Some s → HasSite l.fn.lists l.fn.sites l.n s → Surrounds l.lists l.around (walked (around_at l.ast l.n s.scope) (suc l.n) (below l.ast l.n) l.k);
  placed : (s : Standing) → slice_get (all_standing l.ast) l.n ≡ Some s → HasSite l.fn.lists l.fn.sites l.n s → (i c : ℕ) (t : Standing) → i < l.k → slice_get (children l.ast l.n) i ≡ Some c → slice_get (all_standing l.ast) c ≡ Some t → HasSite l.lists l.sites c t;
  others : (m : ℕ) → ((i : ℕ) → slice_get (children l.ast l.n) i ≡ Some m → ⊥) → slice_get l.sites m ≡ slice_get l.fn.sites m;
}
