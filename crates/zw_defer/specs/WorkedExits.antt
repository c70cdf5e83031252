-- What exits run, worked out by hand (Zig Language Reference 0.13.0, defer and errdefer).
use Rattle.std.specs.Prelude.{◌≡◌, ℕ, Bool, true, false, List, [], ◌∷◌}
use Rattle.zw_defer.specs.declared.exits.Scope.{Scope}
use Rattle.zw_defer.specs.ScopeExit.{exit_list}

abbrev pub scope_of : List (ℕ × Bool) → Scope
scope_of items = record { items = items }

-- `{ defer 1; errdefer 2; defer 3; { errdefer 4; defer 5; {} } }`
abbrev pub scopes : List Scope
scopes = scope_of ((1, false) ∷ (2, true) ∷ (3, false) ∷ []) ∷ scope_of ((4, true) ∷ (5, false) ∷ []) ∷ scope_of [] ∷ []

pub record WorkedExits : Type 0 where
  -- `return error.X` and `return` leave all
  pub error : exit_list scopes 0 true ≡ 5 ∷ 4 ∷ 3 ∷ 2 ∷ 1 ∷ []
  pub value : exit_list scopes 0 false ≡ 5 ∷ 3 ∷ 1 ∷ []
  -- `break` leaves the two inner ones
  pub leaving : exit_list scopes 1 false ≡ 5 ∷ []
  -- `try` that fails there, in a function whose body is the second scope
  pub inner_error : exit_list scopes 1 true ≡ 5 ∷ 4 ∷ []
  -- leaving none, or the innermost alone, runs nothing
  pub nothing : exit_list scopes 3 true ≡ []
  pub empty : exit_list scopes 2 true ≡ []
