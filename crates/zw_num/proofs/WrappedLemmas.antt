-- The value of a type that a number is wrapped to: that it is congruent to the number, and that no other value is.
use Rattle.std.proofs.Common.{◌≡◌, ℕ, suc, ◌+◌, ◌-◌, ◌*◌, ◌/◌, ◌^◌, ◌<◌, ◌≤◌, ℤ, pos, negsuc, ◌+ℤ◌, ◌-ℤ◌, ◌*ℤ◌, ◌≤ℤ◌, ◌<ℤ◌, Bool, true, false, inl, inr, neg_ℤ, refl, ap, sym, subst, ◌∙◌, arith, FitsSigned}
use Rattle.std.proofs.lemmas.Int.{ints, to_z-of_z, wrapping_add_is, wrapping_sub_is, wrapping_mul_is}
use Rattle.std.proofs.lemmas.Nat.{pow_pos, pow-add}
use Rattle.std.proofs.lemmas.Bool.{cases_order}
use Rattle.std.proofs.Math.Nat.{mul-le-mul_right, pow-le-pow_right}
use Rattle.std.proofs.lemmas.Bool.{cases_lt}
use Rattle.std.specs.Int.{w128, cast_signed, cast_unsigned, int_wrap, int_div_euclid, int_rem_euclid, int_wrapping_add, int_wrapping_sub, int_wrapping_mul}
use lib.Signed.{mag}
use mir.Facts.{to_z-neg}
use borrow.Author.Differences.{up, down, product_is}
use Rattle.zw_num.specs.declared.int_ty.IntTy.{IntTy}
use Rattle.zw_num.specs.declared.int_ty.IntTy.TheVariants.{Sized, Comptime}
use Rattle.zw_num.specs.Arithmetic.{IsType, IsSized, IsIn, IsCongruent, least, width, is_in, wrapped, pattern, bits_not}

-- the test of a value
pub in_from_test : (ty : IntTy) (z : ℤ) → is_in ty z ≡ true → IsIn ty z
in_from_test ty z e = record { at_least = grind (arith, ints); at_most = grind (arith, ints) }

pub test_from_in : (ty : IntTy) (z : ℤ) → IsIn ty z → is_in ty z ≡ true
test_from_in ty z is_value = grind (arith, ints)

pub out_from_test : (ty : IntTy) (z : ℤ) → is_in ty z ≡ false → ¬ IsIn ty z
out_from_test ty z e is_value = grind (arith, ints)

pub test_from_out : (ty : IntTy) (z : ℤ) → (IsIn ty z → ⊥) → is_in ty z ≡ false
test_from_out ty z out = grind (arith, ints)

-- a number is its remainder and so many times the divisor
division : (z : ℤ) (n : ℕ) → 0 < n → z ≡ int_rem_euclid z (pos n) +ℤ int_div_euclid z (pos n) *ℤ pos n
division (pos a) n h = omega (arith, ints)
division (negsuc a) n h = omega (arith, ints)

pub wrapped_congruent : (signed : Bool) (bits : ℕ) (z : ℤ) → IsCongruent bits z (wrapped (Sized signed bits) z)
wrapped_congruent signed bits z =
    let rest = division (z -ℤ least (Sized signed bits)) (2 ^ bits) (pow_pos bits) in
    (int_div_euclid (z -ℤ least (Sized signed bits)) (pos (2 ^ bits)), omega (arith, ints))

-- two numbers less than n apart are no multiple of n apart
same_turn : (r s : ℤ) (n a b : ℕ) → r +ℤ pos (a * n) ≡ s +ℤ pos (b * n) → r <ℤ (s +ℤ pos n) → s <ℤ (r +ℤ pos n) → r ≡ s
same_turn r s n a b e p q =
    elim (cases_order a b) [
      | inl same ↦ let even : a * n ≡ b * n = ap (λ x. x * n) same in omega (arith, ints)
      | inr (inl less) ↦ let more : suc a * n ≤ b * n = mul-le-mul_right n (omega arith) in absurd (omega (arith, ints))
      | inr (inr above) ↦ let more : suc b * n ≤ a * n = mul-le-mul_right n (omega arith) in absurd (omega (arith, ints))
    ]

same_residue : (r s k l : ℤ) (n : ℕ) → r +ℤ k *ℤ pos n ≡ s +ℤ l *ℤ pos n → r <ℤ (s +ℤ pos n) → s <ℤ (r +ℤ pos n) → r ≡ s
same_residue r s (pos a) (pos b) n e p q = same_turn r s n a b e p q
same_residue r s (pos a) (negsuc b) n e p q = same_turn r s n (a + b + 1) 0 (omega (arith, ints)) p q
same_residue r s (negsuc a) (pos b) n e p q = same_turn r s n 0 (a + b + 1) (omega (arith, ints)) p q
same_residue r s (negsuc a) (negsuc b) n e p q = same_turn r s n b a (omega (arith, ints)) p q

-- a remainder is below the divisor
rest_below : (z : ℤ) (n : ℕ) → 0 < n → int_rem_euclid z (pos n) <ℤ pos n
rest_below (pos a) n h = omega (arith, ints)
rest_below (negsuc a) n h = omega (arith, ints)

rest_from_zero : (z : ℤ) (n : ℕ) → pos 0 ≤ℤ int_rem_euclid z (pos n)
rest_from_zero (pos a) n = omega (arith, ints)
rest_from_zero (negsuc a) n = omega (arith, ints)

-- a value of a type lies less than 2 ^ bits above its least
below_end : (signed : Bool) (bits : ℕ) (z : ℤ) → IsIn (Sized signed bits) z → z <ℤ (least (Sized signed bits) +ℤ pos (2 ^ bits))
below_end false bits z is_in = let some = pow_pos bits in omega (arith, ints)
below_end true bits z is_in = let some = pow_pos bits in omega (arith, ints)

pub wrapped_unique : (signed : Bool) (bits : ℕ) (z r : ℤ) → IsIn (Sized signed bits) r → IsCongruent bits z r → r ≡ wrapped (Sized signed bits) z
wrapped_unique signed bits z r is_in (k, e) =
    let from = least (Sized signed bits) in
    let there = wrapped_congruent signed bits z in
    let low = rest_from_zero (z -ℤ from) (2 ^ bits) in
    let high = rest_below (z -ℤ from) (2 ^ bits) (pow_pos bits) in
    let end = below_end signed bits r is_in in
    same_residue r (wrapped (Sized signed bits) z) k there.0 (2 ^ bits) (sym e ∙ there.1) (omega (arith, ints)) (omega (arith, ints))

pub wrapped_in : (signed : Bool) (bits : ℕ) (z : ℤ) → IsIn (Sized signed bits) (wrapped (Sized signed bits) z)
wrapped_in false bits z =
    let some = pow_pos bits in
    let low = rest_from_zero (z -ℤ pos 0) (2 ^ bits) in
    let high = rest_below (z -ℤ pos 0) (2 ^ bits) some in
    record { at_least = omega (arith, ints); at_most = omega (arith, ints) }
wrapped_in true bits z =
    let some = pow_pos bits in
    let low = rest_from_zero (z -ℤ least (Sized true bits)) (2 ^ bits) in
    let high = rest_below (z -ℤ least (Sized true bits)) (2 ^ bits) some in
    record { at_least = omega (arith, ints); at_most = omega (arith, ints) }

-- multiples of a number add up
multiples : (k l : ℤ) (n : ℕ) → (k +ℤ l) *ℤ pos n ≡ k *ℤ pos n +ℤ l *ℤ pos n
multiples k l n =
    let parts : up (k +ℤ l) + down k + down l ≡ down (k +ℤ l) + up k + up l = omega (arith, ints) in
    let times = ap (λ (x : ℕ). x * n) parts in
    omega (arith, ints)

congruent_trans : (bits : ℕ) (x y z : ℤ) → IsCongruent bits x y → IsCongruent bits y z → IsCongruent bits x z
congruent_trans bits x y z (k, e) (l, f) = let sum = multiples k l (2 ^ bits) in (k +ℤ l, omega (arith, ints, e, f))

-- congruent numbers have one value
pub wrapped_alike : (signed : Bool) (bits : ℕ) (y z : ℤ) → IsCongruent bits z y → wrapped (Sized signed bits) z ≡ wrapped (Sized signed bits) y
wrapped_alike signed bits y z alike =
    let joined = congruent_trans bits z y (wrapped (Sized signed bits) y) alike (wrapped_congruent signed bits y) in
    sym (wrapped_unique signed bits z (wrapped (Sized signed bits) y) (wrapped_in signed bits y) joined)

-- a multiple of a higher power of two is one of a lower
lower : (k : ℤ) (bits more : ℕ) → k *ℤ pos (2 ^ (bits + more)) ≡ k *ℤ pos (2 ^ more) *ℤ pos (2 ^ bits)
lower k bits more =
    let powers = pow-add 2 bits more in
    let above = ap (λ (x : ℕ). up k * x) powers in
    let below = ap (λ (x : ℕ). down k * x) powers in
    let inner_above = ap (λ (x : ℕ). x * 2 ^ bits) (product_is k (pos (2 ^ more))).0 in
    let inner_below = ap (λ (x : ℕ). x * 2 ^ bits) (product_is k (pos (2 ^ more))).1 in
    omega (arith, ints)

congruent_lower : (bits more : ℕ) (z r : ℤ) → IsCongruent (bits + more) z r → IsCongruent bits z r
congruent_lower bits more z r (k, e) = let same = lower k bits more in (k *ℤ pos (2 ^ more), omega (arith, ints, e))

-- a number and its bits
bits_congruent : (bits : ℕ) (z : ℤ) → IsCongruent bits z (pos (pattern bits z))
bits_congruent bits (pos a) = (int_div_euclid (pos a) (pos (2 ^ bits)), division (pos a) (2 ^ bits) (pow_pos bits))
bits_congruent bits (negsuc a) = (int_div_euclid (negsuc a) (pos (2 ^ bits)), division (negsuc a) (2 ^ bits) (pow_pos bits))

pub pattern_below : (bits : ℕ) (z : ℤ) → pattern bits z < 2 ^ bits
pattern_below bits (pos a) = let some = pow_pos bits in omega arith
pattern_below bits (negsuc a) = let some = pow_pos bits in omega arith

-- the bits of an `i128` and its value
signed_congruent : (n : ℕ) → n < 2 ^ 128 → IsCongruent 128 (pos n) (cast_signed w128 n)
signed_congruent n below =
    elim (cases_lt n (2 ^ 127)) [
      | inl low ↦ (pos 0, omega (arith, ints))
      | inr high ↦
          let same : n ≡ 2 ^ 128 - suc (2 ^ 128 - suc n) = omega arith in
          let is = ap (cast_signed w128) same ∙ to_z-neg w128 (2 ^ 128 - suc n) (omega arith) in
          (pos 1, omega (arith, ints, is))
    ]

-- a number and what an `i128` keeps of it
wrap_congruent : (z : ℤ) → IsCongruent 128 z (int_wrap w128 z)
unfolding int_wrap
wrap_congruent z = congruent_trans 128 z (pos (pattern 128 z)) (cast_signed w128 (pattern 128 z)) (bits_congruent 128 z) (signed_congruent (pattern 128 z) (pattern_below 128 z))

pub wrapped_again : (ty : IntTy) → IsType ty → IsSized ty → (z : ℤ) → wrapped ty (int_wrap w128 z) ≡ wrapped ty z
wrapped_again (Sized signed bits) h s z =
    let width : bits + (128 - bits) ≡ 128 = omega arith in
    sym (wrapped_alike signed bits (int_wrap w128 z) z (congruent_lower bits (128 - bits) z (int_wrap w128 z) (subst (λ (n : ℕ). IsCongruent n z (int_wrap w128 z)) (sym width) (wrap_congruent z))))
wrapped_again Comptime h s z = absurd s

-- sums, differences and products that wrap around in an `i128` first
pub wrapped_sum : (ty : IntTy) → IsType ty → IsSized ty → (a b : ℤ) → FitsSigned w128 a → FitsSigned w128 b → wrapped ty (int_wrapping_add w128 a b) ≡ wrapped ty (a +ℤ b)
wrapped_sum ty h s a b f g = ap (wrapped ty) (wrapping_add_is w128 a b f g) ∙ wrapped_again ty h s (a +ℤ b)

pub wrapped_difference : (ty : IntTy) → IsType ty → IsSized ty → (a b : ℤ) → FitsSigned w128 a → FitsSigned w128 b → wrapped ty (int_wrapping_sub w128 a b) ≡ wrapped ty (a -ℤ b)
wrapped_difference ty h s a b f g = ap (wrapped ty) (wrapping_sub_is w128 a b f g) ∙ wrapped_again ty h s (a -ℤ b)

pub wrapped_product : (ty : IntTy) → IsType ty → IsSized ty → (a b : ℤ) → FitsSigned w128 a → FitsSigned w128 b → wrapped ty (int_wrapping_mul w128 a b) ≡ wrapped ty (a *ℤ b)
wrapped_product ty h s a b f g = ap (wrapped ty) (wrapping_mul_is w128 a b f g) ∙ wrapped_again ty h s (a *ℤ b)

-- The value that has the bits of a number: the bits themselves, or so many values of the type less.
pub from_bits : (ty : IntTy) → IsSized ty → (z : ℤ) → is_in ty (pos (pattern (width ty) z)) ≡ true → pos (pattern (width ty) z) ≡ wrapped ty z
from_bits (Sized signed bits) s z there = wrapped_unique signed bits z (pos (pattern bits z)) (in_from_test (Sized signed bits) (pos (pattern bits z)) there) (bits_congruent bits z)
from_bits Comptime s z there = absurd s

turn_less : (bits : ℕ) (p : ℤ) → IsCongruent bits p (p -ℤ pos (2 ^ bits))
turn_less bits p = (pos 1, omega (arith, ints))

pub from_bits_less : (ty : IntTy) → IsSized ty → (z : ℤ) → is_in ty (pos (pattern (width ty) z)) ≡ false → pos (pattern (width ty) z) -ℤ pos (2 ^ width ty) ≡ wrapped ty z
from_bits_less (Sized false bits) s z out = absurd (out_from_test (Sized false bits) (pos (pattern bits z)) out (let below = pattern_below bits z in record { at_least = omega (arith, ints); at_most = omega (arith, ints) }))
from_bits_less (Sized true bits) s z out =
    let p = pos (pattern bits z) in
    let below = pattern_below bits z in
    let above : (2 ^ bits - 1) / 2 < pattern bits z =
    elim (cases_lt ((2 ^ bits - 1) / 2) (pattern bits z)) [
      | inl more ↦ more
      | inr less ↦ absurd (out_from_test (Sized true bits) p out (record { at_least = omega (arith, ints); at_most = omega (arith, ints) }))
    ] in
    wrapped_unique true bits z (p -ℤ pos (2 ^ bits)) (record { at_least = omega (arith, ints); at_most = omega (arith, ints) }) (congruent_trans bits z p (p -ℤ pos (2 ^ bits)) (bits_congruent bits z) (turn_less bits p))
from_bits_less Comptime s z out = absurd s

-- a number of an `i128`, as goals write it
pub read_back : (z : ℤ) → mag z < 2 ^ 127 → cast_signed w128 (cast_unsigned w128 z) ≡ z
read_back z fits = to_z-of_z w128 z (record { sfits = fits })

pub low_width : (ty : IntTy) → IsType ty → 2 ^ width ty ≤ 2 ^ 64
low_width (Sized signed bits) h = pow-le-pow_right {n = 2} (omega arith) h
low_width Comptime h = omega arith

pub from_pattern : (ty : IntTy) → IsSized ty → (z : ℤ) (p : ℕ) → p ≡ pattern (width ty) z → is_in ty (pos p) ≡ true → pos p ≡ wrapped ty z
from_pattern ty s z p e there = ap pos e ∙ from_bits ty s z (sym (ap (λ (n : ℕ). is_in ty (pos n)) e) ∙ there)

pub from_pattern_less : (ty : IntTy) → IsSized ty → (z : ℤ) (p : ℕ) → p ≡ pattern (width ty) z → is_in ty (pos p) ≡ false → pos p -ℤ pos (2 ^ width ty) ≡ wrapped ty z
from_pattern_less ty s z p e out = ap (λ (n : ℕ). pos n -ℤ pos (2 ^ width ty)) e ∙ from_bits_less ty s z (sym (ap (λ (n : ℕ). is_in ty (pos n)) e) ∙ out)

pub product_kept : (a b : ℤ) → mag a < 2 ^ 127 → mag b < 2 ^ 127 → cast_signed w128 (cast_unsigned w128 a) *ℤ cast_signed w128 (cast_unsigned w128 b) ≡ a *ℤ b
product_kept a b f g = ap (λ (x : ℤ). x *ℤ cast_signed w128 (cast_unsigned w128 b)) (read_back a f) ∙ ap (λ (x : ℤ). a *ℤ x) (read_back b g)

pub few_bits : (ty : IntTy) → IsType ty → width ty ≤ 64
few_bits (Sized signed bits) h = h
few_bits Comptime h = omega arith

-- ---- laws

pub wrapped_same : (signed : Bool) (bits : ℕ) (z : ℤ) → IsIn (Sized signed bits) z → wrapped (Sized signed bits) z ≡ z
wrapped_same signed bits z i = sym (wrapped_unique signed bits z z i (pos 0, omega (arith, ints)))

congruent_within : (bits wide : ℕ) (z r : ℤ) → bits ≤ wide → IsCongruent wide z r → IsCongruent bits z r
congruent_within bits wide z r h e =
    let parts : wide ≡ bits + (wide - bits) = omega arith in
    congruent_lower bits (wide - bits) z r (subst (λ (n : ℕ). IsCongruent n z r) parts e)

pub wrapped_within : (signed wide_signed : Bool) (bits wide : ℕ) (z : ℤ) → bits ≤ wide → wrapped (Sized signed bits) (wrapped (Sized wide_signed wide) z) ≡ wrapped (Sized signed bits) z
wrapped_within signed wide_signed bits wide z h =
    sym (wrapped_alike signed bits (wrapped (Sized wide_signed wide) z) z (congruent_within bits wide z (wrapped (Sized wide_signed wide) z) h (wrapped_congruent wide_signed wide z)))

-- the bits of a value are its value
pub wrapped_bits : (signed : Bool) (bits : ℕ) (a : ℤ) → IsIn (Sized signed bits) a → wrapped (Sized signed bits) (pos (pattern bits a)) ≡ a
wrapped_bits signed bits a i = sym (wrapped_alike signed bits (pos (pattern bits a)) a (bits_congruent bits a)) ∙ wrapped_same signed bits a i

low_in : (bits n : ℕ) → n < 2 ^ bits → IsIn (Sized false bits) (pos n)
low_in bits n h = record { at_least = omega (arith, ints); at_most = omega (arith, ints) }

pos_same : (m n : ℕ) → pos m ≡ pos n → m ≡ n
pos_same m n e = cc

not_is : (z : ℤ) → bits_not z ≡ neg_ℤ z -ℤ pos 1
not_is (pos n) = omega (arith, ints)
not_is (negsuc n) = omega (arith, ints)

not_twice : (z : ℤ) → bits_not (bits_not z) ≡ z
not_twice (pos n) = refl
not_twice (negsuc n) = refl

-- numbers below 2 ^ bits that are congruent are one
pub bits_wrapped : (signed : Bool) (bits n : ℕ) → n < 2 ^ bits → pattern bits (wrapped (Sized signed bits) (pos n)) ≡ n
bits_wrapped signed bits n h =
    let value = wrapped (Sized signed bits) (pos n) in
    let joined = congruent_trans bits (pos n) value (pos (pattern bits value)) (wrapped_congruent signed bits (pos n)) (bits_congruent bits value) in
    let there = wrapped_unique false bits (pos n) (pos (pattern bits value)) (low_in bits (pattern bits value) (pattern_below bits value)) joined in
    let here = wrapped_same false bits (pos n) (low_in bits n h) in
    pos_same (pattern bits value) n (there ∙ here)

-- to turn the bits of congruent numbers gives congruent numbers
turned_congruent : (bits : ℕ) (y z : ℤ) → IsCongruent bits z y → IsCongruent bits (bits_not z) (bits_not y)
turned_congruent bits y z (k, e) =
    let other = multiples k (neg_ℤ k) (2 ^ bits) in
    let none : k +ℤ neg_ℤ k ≡ pos 0 = omega (arith, ints) in
    let nothing = ap (λ (x : ℤ). x *ℤ pos (2 ^ bits)) none in
    (neg_ℤ k, omega (arith, ints, e, not_is y, not_is z))

pub wrapped_turned : (signed : Bool) (bits : ℕ) (a : ℤ) → IsIn (Sized signed bits) a → wrapped (Sized signed bits) (bits_not (wrapped (Sized signed bits) (bits_not a))) ≡ a
wrapped_turned signed bits a i =
    let turned = turned_congruent bits (wrapped (Sized signed bits) (bits_not a)) (bits_not a) (wrapped_congruent signed bits (bits_not a)) in
    sym (wrapped_alike signed bits (bits_not (wrapped (Sized signed bits) (bits_not a))) (bits_not (bits_not a)) turned)
    ∙ ap (wrapped (Sized signed bits)) (not_twice a) ∙ wrapped_same signed bits a i
