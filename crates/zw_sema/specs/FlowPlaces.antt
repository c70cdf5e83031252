-- Where a node of the text stands while it is walked: its number, its tree, and the names that are visible there, by the rules on names. A child is found
-- from its parent, and never by its number in the whole file.
use Rattle.std.specs.Prelude.{ℕ, zero, suc, ◌+◌, List, [], ◌∷◌, Option, Some, None}
use Rattle.zw_tree.specs.Trees.{Forest, none, tree, count}
use Rattle.zw_tree.specs.declared.ast.Entry.{Entry}
use Rattle.zw_scope_sites.specs.declared.lists.Binding.{Binding}
use Rattle.zw_scope_sites.specs.Scopes.{Scope, Around, around_of, scope_of, behind_child, taken_scope, kind_of, nowhere, innermost}
use Rattle.zw_env.specs.Children.{tree_at}

pub record Spot : Type 0 where
  pub node : ℕ
  pub here : Forest Entry
  pub scope : Scope

-- the child with this position among trees that stand below a form, where the first one has this number
abbrev pub child_among : Around → ℕ → Forest Entry → ℕ → Option Spot
child_among around n none k = None
child_among around n (tree root inside behind) zero =
    Some (record { node = n; here = tree root inside behind; scope = scope_of around (kind_of root) behind })
child_among around n (tree root inside behind) (suc k) =
    child_among (behind_child around n (kind_of root) inside) (suc n + count inside) behind k

abbrev pub child_of : ℕ → Forest Entry → Scope → ℕ → Option Spot
child_of n none scope k = None
child_of n (tree root inside behind) scope k = child_among (around_of n root inside scope) (suc n) inside k

abbrev pub child_in : Spot → ℕ → Option Spot
child_in spot k = child_of spot.node spot.here spot.scope k

-- the node below a form to which these positions lead
abbrev pub found_in : Option Spot → List ℕ → Option Spot
found_in spot [] = spot
found_in None (k ∷ ks) = None
found_in (Some spot) (k ∷ ks) = found_in (child_in spot k) ks

-- ---- members of a file

abbrev pub file_scope : Forest Entry → Scope
file_scope none = nowhere
file_scope (tree root inside behind) = taken_scope (kind_of root) 0 inside nowhere

abbrev pub member_spot : Forest Entry → ℕ → Spot
member_spot file n = record { node = n; here = tree_at file n; scope = file_scope file }

-- the innermost binding of a name
abbrev pub binding_of : Scope → List ℕ → Option Binding
binding_of scope name = innermost scope.visible name
