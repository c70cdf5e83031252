-- The first row applies whether the types are the same or not.
use Rattle.std.proofs.Common.{◌≡◌, refl, ℕ, Bool, true, false, Result, Ok, Err, [], ◌∷◌, ◌+◌, if◌then◌else◌}
use Rattle.std.specs.Prelude.{◌||◌, Option}
use Rattle.zw_types.specs.TypeTrees.{TypeTree, ValueTree, UndefinedType, NoReturnType}
use Rattle.zw_values.specs.Sameness.{is_same}
use Rattle.zw_values.specs.Coercions.{Applies, Refuses, IsForOthers, integer_row, by_rows}
use Rattle.zw_coerce.proofs.laws.valueless_types.Goals as goal

either_way : (b : Bool) (from : TypeTree) (known : Option ValueTree) (to : TypeTree) →
    (let r : Result ℕ ℕ = elim (if b || true then Applies else IsForOthers) [ Applies ↦ Ok 1 | Refuses e ↦ Err e | IsForOthers ↦ by_rows (integer_row ∷ []) (1 + 1) from known to ] in r) ≡ Ok 1
either_way true from known to = refl
either_way false from known to = refl

pub returns-clause-undefined : goal.returns-clause-undefined
returns-clause-undefined c = λ known to. either_way (is_same UndefinedType to) UndefinedType known to

pub returns-clause-no_return : goal.returns-clause-no_return
returns-clause-no_return c = λ known to. either_way (is_same NoReturnType to) NoReturnType known to
