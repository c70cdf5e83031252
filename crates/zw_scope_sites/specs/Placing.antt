-- Placing: the sites of the nodes of a tree, and what surrounds the children of a node behind some of them.
use Rattle.std.specs.Prelude.{◌≡◌, ℕ, zero, suc, ◌+◌, ◌<◌, List, Some, None, ◌⊎◌, slice_get}
use Rattle.zw_tree.specs.Numbering.{parent}
use Rattle.zw_tree.specs.Trees.{Forest, none, tree, count}
use Rattle.zw_tree.specs.declared.ast.Entry.{Entry}
use Rattle.zw_scope_sites.specs.Scopes.{Around, Standing, all_standing, behind_child, kind_of}
use Rattle.zw_scope_sites.specs.Sites.{IsSite}
use Rattle.zw_scope_sites.specs.declared.lists.Lists.{Lists}
use Rattle.zw_scope_sites.specs.declared.sites.Site.{Site}

-- what surrounds the roots of trees behind the first ones, where the first has this number
abbrev pub walked : Around → ℕ → Forest Entry → ℕ → Around
walked a k forest zero = a
walked a k none (suc i) = a
walked a k (tree root inside behind) (suc i) = walked (behind_child a k (kind_of root) inside) (suc k + count inside) behind i

-- the site of the node with this number
pub record HasSite (lists : Lists) (sites : List Site) (n : ℕ) (s : Standing) : Type 0 where
  pub site : Site
  pub there : slice_get sites n ≡ Some site
  pub is : IsSite lists site s

-- the nodes with a parent before this number, and the roots, have their sites
abbrev pub ArePlaced : Lists → List Site → Forest Entry → ℕ → Type 0
ArePlaced lists sites file n =
    (m : ℕ) (s : Standing) → slice_get (all_standing file) m ≡ Some s → (parent file m ≡ None) ⊎ ((p : ℕ) × (parent file m ≡ Some p) × (p < n)) → HasSite lists sites m s

-- each node has its site
abbrev pub AllPlaced : Lists → List Site → Forest Entry → Type 0
AllPlaced lists sites file = (m : ℕ) (s : Standing) → slice_get (all_standing file) m ≡ Some s → HasSite lists sites m s
