-- Digits alone, without a leading zero, are a number of base 10.
use Rattle.std.proofs.Common.{◌≡◌, ℕ, ◌+◌, ◌-◌, ◌*◌, Bool, true, false, cond, eqb, List, [], ◌∷◌, sym, refl, ap, ◌∙◌, arith}
use Rattle.std.specs.Prelude.{not, ◌&&◌, nat_lt}
use Rattle.std.specs.Char.{is_ascii_digit, is_digit, digit_value}
use Rattle.std.specs.List.{list_all, fold}
use Rattle.std.proofs.lemmas.Bool.{false≢true, and_parts, and_from, cond-true, cond-false, eqb-true}
use Rattle.std.proofs.lemmas.Bool.Decides.{nat_tests}
use Rattle.zw_token.specs.Numbers.{is_empty, is_decimal, decimal_value, base_of, base_of_mark, digits_of, are_digits_behind, are_digits, has_leading_zero, is_number, with_digit, digits_value, number_of}

digit_apart : (d : ℕ) → is_ascii_digit d ≡ true → eqb d 95 ≡ false
digit_apart d h = grind (arith, nat_tests)

digit_is : (d : ℕ) → is_ascii_digit d ≡ true → digit_value d ≡ d - 48
digit_is d h = grind (arith, nat_tests)

digit_small : (d : ℕ) → is_ascii_digit d ≡ true → nat_lt (d - 48) 10 ≡ true
digit_small d h = grind (arith, nat_tests)

digit_in : (d : ℕ) → is_ascii_digit d ≡ true → is_digit d 10 ≡ true
digit_in d h = ap (λ v. nat_lt v 10) (digit_is d h) ∙ digit_small d h

digits_in : (ds : List ℕ) → list_all is_ascii_digit ds ≡ true → are_digits_behind 10 true ds ≡ true
digits_in [] h = refl
digits_in (d ∷ ds) h =
    let parts = and_parts _ _ h in
    cond-false (eqb d 95) (true && are_digits_behind 10 false ds) (is_digit d 10 && are_digits_behind 10 true ds) (digit_apart d parts.0) ∙ and_from _ _ (digit_in d parts.0) (digits_in ds parts.1)

-- a decimal number is a digit that isn't 0 and then digits, or `0`
first_digits : (d : ℕ) (ds : List ℕ) → is_decimal (d ∷ ds) ≡ true → (is_ascii_digit d ≡ true) × (list_all is_ascii_digit ds ≡ true) × (has_leading_zero (d ∷ ds) ≡ false)
first_digits d ds h = by_zero (eqb d 48) refl
  where
    none : (ds : List ℕ) → is_empty ds ≡ true → (list_all is_ascii_digit ds ≡ true) × (not (is_empty ds) ≡ false)
    none [] e = (refl, refl)
    none (x ∷ ds) e = absurd (false≢true e)

    and_false : (b : Bool) → (b && false) ≡ false
    and_false true = refl
    and_false false = refl

    by_zero : (b : Bool) → b ≡ eqb d 48 → (is_ascii_digit d ≡ true) × (list_all is_ascii_digit ds ≡ true) × (has_leading_zero (d ∷ ds) ≡ false)
    by_zero true e =
        let empty = none ds (sym (cond-true (eqb d 48) (is_empty ds) (list_all is_ascii_digit (d ∷ ds)) (sym e)) ∙ h) in
        (ap is_ascii_digit (eqb-true d 48 (sym e)), empty.0, ap (λ b. eqb d 48 && b) empty.1 ∙ and_false (eqb d 48))
    by_zero false e =
        let parts = and_parts _ _ (sym (cond-false (eqb d 48) (is_empty ds) (list_all is_ascii_digit (d ∷ ds)) (sym e)) ∙ h) in
        (parts.0, parts.1, ap (λ b. b && not (is_empty ds)) (sym e))

base_ten : (ds : List ℕ) → is_decimal ds ≡ true → base_of ds ≡ 10
base_ten [] h = absurd (false≢true h)
base_ten (d ∷ []) h = refl
base_ten (d ∷ x ∷ ds) h = by_zero (eqb d 48) refl (first_digits d (x ∷ ds) h).2
  where
    by_zero : (b : Bool) → b ≡ eqb d 48 → (eqb d 48 && true) ≡ false → cond (eqb d 48) (base_of_mark x) 10 ≡ 10
    by_zero true e differs = absurd (false≢true (sym differs ∙ ap (λ b. b && true) (sym e)))
    by_zero false e differs = ap (λ b. cond b (base_of_mark x) 10) (sym e)

digits_all : (ds : List ℕ) → is_decimal ds ≡ true → digits_of ds ≡ ds
digits_all ds h = cond-true _ _ _ (ap (λ b. eqb b 10) (base_ten ds h))

are_decimal : (ds : List ℕ) → is_decimal ds ≡ true → are_digits 10 ds ≡ true
are_decimal [] h = absurd (false≢true h)
are_decimal (d ∷ ds) h =
    let parts = first_digits d ds h in
    cond-false (eqb d 95) (false && are_digits_behind 10 false ds) (is_digit d 10 && are_digits_behind 10 true ds) (digit_apart d parts.0) ∙ and_from _ _ (digit_in d parts.0) (digits_in ds parts.1)

no_leading_zero : (ds : List ℕ) → is_decimal ds ≡ true → has_leading_zero ds ≡ false
no_leading_zero [] h = refl
no_leading_zero (d ∷ ds) h = (first_digits d ds h).2

pub decimal_number : (ds : List ℕ) → is_decimal ds ≡ true → is_number ds ≡ true
unfolding is_number
decimal_number ds h =
    let base = base_ten ds h in
    and_from _ _ (ap (λ b. are_digits b (digits_of ds)) base ∙ ap (are_digits 10) (digits_all ds h) ∙ are_decimal ds h)
    (ap (λ b. not (eqb b 10 && has_leading_zero ds)) base ∙ ap (λ z. not (eqb 10 10 && z)) (no_leading_zero ds h))

same_fold : (n : ℕ) (ds : List ℕ) → list_all is_ascii_digit ds ≡ true → fold (with_digit 10) n ds ≡ fold (λ before digit. 10 * before + (digit - 48)) n ds
same_fold n [] h = refl
same_fold n (d ∷ ds) h =
    let parts = and_parts _ _ h in
    ap (λ m. fold (with_digit 10) m ds) (cond-false (eqb d 95) n (10 * n + digit_value d) (digit_apart d parts.0) ∙ ap (λ v. 10 * n + v) (digit_is d parts.0)) ∙ same_fold (10 * n + (d - 48)) ds parts.1

all_digits : (ds : List ℕ) → is_decimal ds ≡ true → list_all is_ascii_digit ds ≡ true
all_digits [] h = refl
all_digits (d ∷ ds) h = let parts = first_digits d ds h in and_from _ _ parts.0 parts.1

pub decimal_number_of : (ds : List ℕ) → is_decimal ds ≡ true → number_of ds ≡ decimal_value ds
decimal_number_of ds h = ap (λ b. digits_value b (digits_of ds)) (base_ten ds h) ∙ ap (digits_value 10) (digits_all ds h) ∙ same_fold 0 ds (all_digits ds h)
