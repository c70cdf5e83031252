-- Telling: the violation at a node, and the first of some violations.
use Rattle.std.specs.Prelude.{◌≡◌, ◌<◌, length, slice_get, ℕ, List, [], All, Contains, Option, Some, None, Bool, true}
use Rattle.zw_tree.specs.Numbering.{first_root, from, parent}
use Rattle.zw_tree.specs.Trees.{Forest, tree, count}
use Rattle.zw_tree.specs.declared.ast.Entry.{Entry}
use Rattle.zw_scope.specs.NameRules.{Violation, NotBehind, is_mentioned, told_at_name}
use Rattle.zw_scope_sites.specs.Scopes.{Standing}
use Rattle.zw_scope_sites.specs.Sites.{IsSite}
use Rattle.zw_scope_sites.specs.declared.lists.Lists.{Lists}
use Rattle.zw_scope_sites.specs.declared.sites.Site.{Site}
use Rattle.zw_scope.specs.declared.told.Told.{Told}

-- the violation of an error at a node, if any
abbrev pub tells : Forest Entry → ℕ → Option ℕ → List Violation
tells file error None = []
tells file error (Some n) = told_at_name true error (first_root (from file n))

-- the node with this number stands so, and this is its site
pub record IsRead (file : Forest Entry) (lists : Lists) (site : Site) (n : ℕ) (s : Standing) : Type 0 where
  pub here : from file n ≡ tree s.entry s.below s.behind
  pub number : s.node ≡ n
  pub placed : IsSite lists site s
  pub outside : parent file n ≡ None → s.parent ≡ None

-- the first of some violations: none is before it
pub record IsLeast (vs : List Violation) (v : Violation) : Type 0 where
  pub there : Contains vs v
  pub least : All (NotBehind v) vs

pub record IsToldFirst (file : Forest Entry) (vs : List Violation) (t : Told) : Type 0 where
  pub entry : Entry
  pub at : first_root (from file t.node) ≡ Some entry
  pub least : IsLeast vs (record { error = t.error; at = entry })

-- what is told first of some violations
abbrev pub IsFirstOf : Forest Entry → List Violation → Option Told → Type 0
IsFirstOf file vs None = vs ≡ []
IsFirstOf file vs (Some t) = IsToldFirst file vs t

-- for each node, whether it is among these
pub record AreMarks (file : Forest Entry) (marks : List Bool) (nodes : List ℕ) : Type 0 where
  pub sized : length marks ≡ count file
  pub each : (m : ℕ) → m < count file → slice_get marks m ≡ Some (is_mentioned nodes m)
