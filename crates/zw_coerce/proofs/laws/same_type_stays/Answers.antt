-- The first row applies to a type and itself.
use Rattle.std.proofs.Common.{ℕ, Bool, Result, Ok, Err, [], ◌∷◌, ap, if◌then◌else◌, ◌+◌}
use Rattle.std.specs.Prelude.{◌||◌}
use Rattle.zw_values.specs.Coercions.{Applies, Refuses, IsForOthers, has_no_value, integer_row, by_rows}
use Rattle.zw_values.proofs.SameLemmas.{is_same-refl}
use Rattle.zw_coerce.proofs.laws.same_type_stays.Goals as goal

pub returns : goal.returns
returns c = λ ty known.
    ap (λ (b : Bool). let r : Result ℕ ℕ = elim (if b || has_no_value ty then Applies else IsForOthers) [ Applies ↦ Ok 1 | Refuses e ↦ Err e | IsForOthers ↦ by_rows (integer_row ∷ []) (1 + 1) ty known ty ] in r) (is_same-refl ty)
