-- The number that digits spell, one after the other.
use Rattle.std.proofs.Common.{◌≡◌, ℕ, zero, suc, ◌+◌, ◌*◌, ◌<◌, ◌≤◌, Bool, true, false, cond, eqb, List, [], ◌∷◌, length, get_or, take, refl, ap, ◌∙◌, subst, arith}
use Rattle.std.specs.Prelude.{not}
use Rattle.std.specs.Char.{digit_value}
use Rattle.std.specs.List.{fold, filter}
use Rattle.std.proofs.lemmas.Bool.{cond-true, cond-false, eqb-true, false_from_ne_true}
use Rattle.std.proofs.lemmas.List.Sums.{fold_more}
use Rattle.std.proofs.Math.Nat.{le-mul_of_pos_right}
use Rattle.zw_token.specs.Numbers.{with_digit, digits_value}
use Rattle.zw_token.proofs.Fronts.{choose}

grows : (base n d : ℕ) → 1 ≤ base → n ≤ with_digit base n d
grows base n d some =
    let product = le-mul_of_pos_right {m = base} n some in
    choose (eqb d 95) n (base * n + digit_value d) (λ m. n ≤ m) (λ _. omega arith) (λ _. omega (arith, product))

fold-ge : (base n : ℕ) (ds : List ℕ) → 1 ≤ base → n ≤ fold (with_digit base) n ds
fold-ge base n [] some = omega arith
fold-ge base n (d ∷ ds) some = let more = fold-ge base (with_digit base n d) ds some in let first = grows base n d some in omega (arith, more, first)

fold-take-le : (base n : ℕ) (ds : List ℕ) (i : ℕ) → 1 ≤ base → fold (with_digit base) n (take i ds) ≤ fold (with_digit base) n ds
fold-take-le base n ds zero some = fold-ge base n ds some
fold-take-le base n [] (suc i) some = omega arith
fold-take-le base n (d ∷ ds) (suc i) some = fold-take-le base (with_digit base n d) ds i some

no_mark : (d : ℕ) → (d ≡ 95 → ⊥) → eqb d 95 ≡ false
no_mark d none = false_from_ne_true (eqb d 95) (λ mark. none (eqb-true d 95 mark))

-- one digit more
pub digits_value_more : (base : ℕ) (ds : List ℕ) (i : ℕ) → i < length ds → digits_value base (take (i + 1) ds) ≡ with_digit base (digits_value base (take i ds)) (get_or ds i 0)
digits_value_more base ds i h = fold_more (with_digit base) 0 ds i 0 h

-- a `_` changes nothing
pub digits_value_skip : (base : ℕ) (ds : List ℕ) (i : ℕ) → i < length ds → eqb (get_or ds i 0) 95 ≡ true → digits_value base (take (i + 1) ds) ≡ digits_value base (take i ds)
digits_value_skip base ds i h skip = digits_value_more base ds i h ∙ cond-true _ _ _ skip

pub digits_value_digit : (base : ℕ) (ds : List ℕ) (i : ℕ) → i < length ds → eqb (get_or ds i 0) 95 ≡ false → digits_value base (take (i + 1) ds) ≡ base * digits_value base (take i ds) + digit_value (get_or ds i 0)
digits_value_digit base ds i h digit = digits_value_more base ds i h ∙ cond-false _ _ _ digit

-- what the digits so far spell, with one more, is no greater than what all do
pub digit_small : (base : ℕ) (ds : List ℕ) (i : ℕ) → 1 ≤ base → i < length ds → (get_or ds i 0 ≡ 95 → ⊥) → base * digits_value base (take i ds) + digit_value (get_or ds i 0) ≤ digits_value base ds
digit_small base ds i some h digit = subst (λ n. n ≤ digits_value base ds) (digits_value_digit base ds i h (no_mark _ digit)) (fold-take-le base 0 ds (i + 1) some)

-- then the product and the sum that add the digit fit where the whole does
pub product_small : (base : ℕ) (ds : List ℕ) (i value from most : ℕ) → 1 ≤ base → i < length ds → (get_or ds i 0 ≡ 95 → ⊥) → value ≡ digits_value base (take i ds) → from ≡ base → digits_value base ds < most → value * from < most
product_small base ds i value from most some h digit is_value is_base small =
    let product : value * from ≡ digits_value base (take i ds) * base = ap (λ v. v * from) is_value ∙ ap (λ b. digits_value base (take i ds) * b) is_base in
    omega (arith, product, digit_small base ds i some h digit)

pub digit_added : (base : ℕ) (ds : List ℕ) (i value from product digit : ℕ) → i < length ds → (get_or ds i 0 ≡ 95 → ⊥) → value ≡ digits_value base (take i ds) → from ≡ base → product ≡ value * from → digit ≡ digit_value (get_or ds i 0)
    → product + digit ≡ digits_value base (take (i + 1) ds)
digit_added base ds i value from product digit h none is_value is_base is_product is_digit =
    let whole : product ≡ digits_value base (take i ds) * base = is_product ∙ ap (λ v. v * from) is_value ∙ ap (λ b. digits_value base (take i ds) * b) is_base in
    omega (arith, whole, is_digit, digits_value_digit base ds i h (no_mark _ none))

pub sum_small : (base : ℕ) (ds : List ℕ) (i value from product digit most : ℕ) → 1 ≤ base → i < length ds → (get_or ds i 0 ≡ 95 → ⊥) → value ≡ digits_value base (take i ds) → from ≡ base → product ≡ value * from → digit ≡ digit_value (get_or ds i 0)
    → digits_value base ds < most → product + digit < most
sum_small base ds i value from product digit most some h none is_value is_base is_product is_digit small =
    omega (arith, digit_added base ds i value from product digit h none is_value is_base is_product is_digit, fold-take-le base 0 ds (i + 1) some)

without_step : (base n d : ℕ) (ds : List ℕ) (b : Bool) → b ≡ eqb d 95 → ((m : ℕ) → fold (with_digit base) m ds ≡ fold (with_digit base) m (filter (λ d. not (eqb d 95)) ds))
    → fold (with_digit base) (cond b n (base * n + digit_value d)) ds ≡ fold (with_digit base) n (cond (not b) (d ∷ filter (λ d. not (eqb d 95)) ds) (filter (λ d. not (eqb d 95)) ds))
without_step base n d ds true e more = more n
without_step base n d ds false e more = more (base * n + digit_value d) ∙ ap (λ b. fold (with_digit base) (cond b n (base * n + digit_value d)) (filter (λ d. not (eqb d 95)) ds)) e

without : (base n : ℕ) (ds : List ℕ) → fold (with_digit base) n ds ≡ fold (with_digit base) n (filter (λ d. not (eqb d 95)) ds)
without base n [] = refl
without base n (d ∷ ds) = without_step base n d ds (eqb d 95) refl (λ m. without base m ds)

pub digits_value-filter : (base : ℕ) (ds : List ℕ) → digits_value base ds ≡ digits_value base (filter (λ d. not (eqb d 95)) ds)
digits_value-filter base ds = without base 0 ds
