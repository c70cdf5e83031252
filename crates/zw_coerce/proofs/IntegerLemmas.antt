-- Ranges of integer types, and what the rows say of them.
use Rattle.std.specs.Prelude.{◌≡◌, ℕ, ◌+◌, ℤ, pos, negsuc, Bool, true, false, ◌&&◌, ◌||◌, int_le, if◌then◌else◌, [], ◌∷◌, Option, Some, Result, Ok, Err, refl}
use Rattle.std.proofs.Common.{rules, ◌∙◌, ap}
use Rattle.zw_num.specs.declared.int_ty.IntTy.{IntTy}
use Rattle.zw_num.specs.Arithmetic.{least, greatest}
use Rattle.zw_types.specs.TypeTrees.{TypeTree, ValueTree}
use Rattle.zw_values.specs.Coercions.{Row, Applies, Refuses, IsForOthers, has_no_value, has_all, integer_of, known_row, integers_row, integer_row, by_rows, coercion}
use Rattle.zw_values.specs.Sameness.{is_same}
use Rattle.zw_coerce.specs.Answers.{row_answer}

nat_le-refl : (n : ℕ) → int_le (pos n) (pos n) ≡ true
nat_le-refl n = search rules

negsuc_le-refl : (n : ℕ) → int_le (negsuc n) (negsuc n) ≡ true
negsuc_le-refl n = search rules

int_le-refl : (x : ℤ) → int_le x x ≡ true
int_le-refl (pos n) = nat_le-refl n
int_le-refl (negsuc n) = negsuc_le-refl n

pub has_all-refl : (a : IntTy) → has_all a a ≡ true
has_all-refl a = λ i. int_le-refl (least a) i && int_le-refl (greatest a) i

second : (r : Row) → (let due : Result ℕ ℕ = elim r [ Applies ↦ Ok (1 + 1) | Refuses e ↦ Err e | IsForOthers ↦ Err 14 ] in due) ≡ row_answer r
second Applies = refl
second (Refuses e) = refl
second IsForOthers = refl

-- where the first row is for other types, the second one tells
coercion-second : (from : TypeTree) (known : Option ValueTree) (to : TypeTree) → is_same from to ≡ false → has_no_value from ≡ false → coercion from known to ≡ row_answer (integer_row from known to)
coercion-second from known to s n =
    ap (λ (b : Bool). let due : Result ℕ ℕ = elim (if b || has_no_value from then Applies else IsForOthers) [ Applies ↦ Ok 1 | Refuses e ↦ Err e | IsForOthers ↦ by_rows (integer_row ∷ []) (1 + 1) from known to ] in due) s
    ∙ ap (λ (b : Bool). let due : Result ℕ ℕ = elim (if b then Applies else IsForOthers) [ Applies ↦ Ok 1 | Refuses e ↦ Err e | IsForOthers ↦ by_rows (integer_row ∷ []) (1 + 1) from known to ] in due) n
    ∙ second (integer_row from known to)

-- an integer type that hasn't all values of the other takes what is known as one of its numbers
pub coercion-known : (from : TypeTree) (known : Option ValueTree) (to : TypeTree) (a b : IntTy) → is_same from to ≡ false → has_no_value from ≡ false → integer_of from ≡ Some a → integer_of to ≡ Some b → has_all b a ≡ false → coercion from known to ≡ row_answer (known_row known b)
coercion-known from known to a b s n ha hb hall =
    coercion-second from known to s n
    ∙ ap (λ (o : Option IntTy). row_answer (integers_row o known (integer_of to))) ha
    ∙ ap (λ (o : Option IntTy). row_answer (integers_row (Some a) known o)) hb
    ∙ ap (λ (t : Bool). row_answer (if t then Applies else known_row known b)) hall
