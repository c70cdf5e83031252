-- What leaving scopes runs (Zig Language Reference 0.13.0, defer and errdefer): the deferred statements of each scope, the last one
-- first, and of inner scopes before outer ones.
use Rattle.std.specs.Prelude.{ℕ, Bool, ◌||◌, not, if◌then◌else◌, List, [], ◌∷◌, ◌++◌, drop}
use Rattle.zw_defer.specs.declared.exits.Scope.{Scope}

-- A deferred statement runs at each exit, one of `errdefer` only where an error is returned.
abbrev pub runs : Bool → ℕ × Bool → Bool
runs error item = error || not item.1

-- what leaving a scope with these statements runs
abbrev pub left_scope : Bool → List (ℕ × Bool) → List ℕ
left_scope error [] = []
left_scope error (item ∷ later) = left_scope error later ++ (if runs error item then item.0 ∷ [] else [])

-- what leaving these scopes runs, of which the first is the outermost
abbrev pub left_scopes : Bool → List Scope → List ℕ
left_scopes error [] = []
left_scopes error (scope ∷ inner) = left_scopes error inner ++ left_scope error scope.items

-- what leaving all scopes but the first ones runs
abbrev pub exit_list : List Scope → ℕ → Bool → List ℕ
exit_list scopes keep error = left_scopes error (drop keep scopes)
