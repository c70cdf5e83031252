-- The value of a type that is nearest to a number, by whether the type has the number, and by its side of 0.
use Rattle.std.proofs.Common.{◌≡◌, ℕ, suc, ℤ, pos, negsuc, ◌-◌, ◌*◌, ◌^◌, ◌≤◌, ◌+ℤ◌, ◌-ℤ◌, ◌*ℤ◌, ◌≤ℤ◌, ◌<ℤ◌, neg_ℤ, Bool, true, false, refl, ap, arith, FitsSigned}
use Rattle.std.specs.Prelude.{nat_lt, int_lt, if◌then◌else◌}
use Rattle.std.proofs.lemmas.Bool.{ltb-true, ltb-false}
use Rattle.std.proofs.lemmas.Int.{ints}
use Rattle.std.proofs.Math.Nat.{mul-le-mul, pow-le-pow_right}
use Rattle.std.specs.Int.{w64, cast_unsigned, int_min, int_max}
use Rattle.zw_num.proofs.WrappedLemmas.{pattern_below, in_from_test, out_from_test}
use Rattle.zw_num.specs.Arithmetic.{IsIn, is_in, least, greatest, saturated, pattern}
use Rattle.zw_num.specs.declared.int_ty.IntTy.{IntTy}
use Rattle.zw_num.specs.declared.int_ty.IntTy.TheVariants.{Sized, Comptime}
use Rattle.zw_safety_narrow.proofs.SaturatingRuns.{fits_between, long_of_signed}
use Rattle.zw_safety_narrow.specs.Operators.{IsStored}
use Rattle.zw_safety_wide.specs.WideSaturatingCode.{greatest_long}
use Rattle.zw_safety_words.proofs.WideWords.{high, two_words, IsHeld, power_long}

-- ---- the nearest value

inside : (l z g : ℤ) → l ≤ℤ z → z ≤ℤ g → z ≡ int_max l (int_min z g)
inside l z g h k = grind (arith, ints, h, k)

below : (l z g : ℤ) → z <ℤ l → l ≤ℤ g → l ≡ int_max l (int_min z g)
below l z g h k = grind (arith, ints, h, k)

above : (l z g : ℤ) → l ≤ℤ g → g <ℤ z → g ≡ int_max l (int_min z g)
above l z g h k = grind (arith, ints, h, k)

-- 0 is a value of each type
record HasZero (to : IntTy) : Type 0 where
  low : least to ≤ℤ pos 0
  high : pos 0 ≤ℤ greatest to

has_zero : (to : IntTy) → IsStored to → HasZero to
has_zero (Sized false count) h = record { low = omega (arith, ints); high = omega (arith, ints) }
has_zero (Sized true count) h = record { low = omega (arith, ints); high = omega (arith, ints) }
has_zero Comptime h = absurd h

lt_so : (x y : ℤ) → int_lt x y ≡ true → x <ℤ y
lt_so x y e = grind (arith, ints)

lt_not : (x y : ℤ) → int_lt x y ≡ false → y ≤ℤ x
lt_not x y e = grind (arith, ints)

not_low_for : (t : Bool) (to : IntTy) (z : ℤ) → int_lt z (least to) ≡ t → (IsIn to z → ⊥) → z ≤ℤ greatest to → z <ℤ least to
not_low_for true to z e out h = lt_so z (least to) e
not_low_for false to z e out h = absurd (out (record { at_least = lt_not z (least to) e; at_most = h }))

not_high_for : (t : Bool) (to : IntTy) (z : ℤ) → int_lt (greatest to) z ≡ t → (IsIn to z → ⊥) → least to ≤ℤ z → greatest to <ℤ z
not_high_for true to z e out h = lt_so (greatest to) z e
not_high_for false to z e out h = absurd (out (record { at_least = h; at_most = lt_not (greatest to) z e }))

nearest_for : (t n : Bool) (to : IntTy) (z : ℤ) → IsStored to → is_in to z ≡ t → int_lt z (pos 0) ≡ n → (if t then z else (if n then least to else greatest to)) ≡ saturated to z
nearest_for true n to z h e f = let i = in_from_test to z e in inside (least to) z (greatest to) i.at_least i.at_most
nearest_for false true to z h e f =
    let zero = has_zero to h in
    let less = lt_so z (pos 0) f in
    below (least to) z (greatest to) (not_low_for (int_lt z (least to)) to z refl (out_from_test to z e) (omega (arith, ints, zero.high, less))) (omega (arith, ints, zero.low, zero.high))
nearest_for false false to z h e f =
    let zero = has_zero to h in
    let more = lt_not z (pos 0) f in
    above (least to) z (greatest to) (omega (arith, ints, zero.low, zero.high)) (not_high_for (int_lt (greatest to) z) to z refl (out_from_test to z e) (omega (arith, ints, zero.low, more)))

pub nearest_is : (to : IntTy) (z : ℤ) → IsStored to → (if is_in to z then z else (if int_lt z (pos 0) then least to else greatest to)) ≡ saturated to z
nearest_is to z h = nearest_for (is_in to z) (int_lt z (pos 0)) to z h refl refl

-- ---- the bounds in 64 bits

pub least_bits : (to : IntTy) → IsStored to → cast_unsigned w64 (least to) ≡ pattern 64 (least to)
least_bits (Sized false count) h = refl
least_bits (Sized true count) h =
    let few = power_long count h in
    long_of_signed (least (Sized true count)) (fits_between (least (Sized true count)) (omega (arith, ints, few)) (omega (arith, ints)))
least_bits Comptime h = absurd h

unsigned_bits : (t : Bool) (count : ℕ) → count ≤ 64 → nat_lt count 64 ≡ t → cast_unsigned w64 (if t then pos (2 ^ count - 1) else negsuc 0) ≡ pattern 64 (greatest (Sized false count))
unsigned_bits true count h e =
    let less = ltb-true count 64 e in
    let lower : count ≤ 63 = omega (arith, less) in
    let few : 2 ^ count ≤ 2 ^ 63 = pow-le-pow_right {n = 2} (omega arith) lower in
    long_of_signed (pos (2 ^ count - 1)) (record { sfits = omega (arith, few) })
unsigned_bits false count h e =
    let whole : 64 ≡ count = omega (arith, h, ltb-false count 64 e) in
    ap (λ n. pattern 64 (greatest (Sized false n))) whole

pub greatest_bits : (to : IntTy) → IsStored to → cast_unsigned w64 (greatest_long to) ≡ pattern 64 (greatest to)
greatest_bits (Sized false count) h = unsigned_bits (nat_lt count 64) count h refl
greatest_bits (Sized true count) h =
    let few = power_long count h in
    long_of_signed (greatest (Sized true count)) (fits_between (greatest (Sized true count)) (omega (arith, ints)) (omega (arith, ints, few)))
greatest_bits Comptime h = absurd h

-- ---- the side of 0 by the high word

pub high_side : (z : ℤ) → int_lt (high z) (pos 0) ≡ int_lt z (pos 0)
high_side (pos n) = grind (arith, ints)
high_side (negsuc n) = refl

-- numbers whose high word is one of an i64
pub record HasSide (z : ℤ) : Type 0 where
  pub low : neg_ℤ (pos (2 ^ 127)) ≤ℤ z
  pub high : z <ℤ pos (2 ^ 127)

pub side_fits : (z : ℤ) → HasSide z → FitsSigned w64 (high z)
side_fits z h =
    let parts = two_words z in
    let low = pattern_below 64 z in
    fits_between (high z) (omega (arith, ints, parts, low, h.low)) (omega (arith, ints, parts, low, h.high))

pub sum_side : (a b : ℤ) → IsHeld a → IsHeld b → HasSide (a +ℤ b)
sum_side a b h k = record { low = omega (arith, ints, h.low, k.low); high = omega (arith, ints, h.high, k.high) }

pub difference_side : (a b : ℤ) → IsHeld a → IsHeld b → HasSide (a -ℤ b)
difference_side a b h k = record { low = omega (arith, ints, h.low, k.high); high = omega (arith, ints, h.high, k.low) }

product_le : (a b c d : ℕ) → a ≤ c → b ≤ d → a * b ≤ c * d
product_le a b c d h k = mul-le-mul h k

pub product_side : (a b : ℤ) → FitsSigned w64 a → IsHeld b → HasSide (a *ℤ b)
product_side (pos a) (pos b) h k =
    let most = product_le a b (2 ^ 63 - 1) (2 ^ 64 - 1) (omega (arith, h.sfits)) (omega (arith, ints, k.high)) in
    record { low = omega (arith, ints); high = omega (arith, ints, most) }
product_side (pos a) (negsuc b) h k =
    let most = product_le a (suc b) (2 ^ 63 - 1) (2 ^ 63) (omega (arith, h.sfits)) (omega (arith, ints, k.low)) in
    record { low = omega (arith, ints, most); high = omega (arith, ints) }
product_side (negsuc a) (pos b) h k =
    let most = product_le (suc a) b (2 ^ 63) (2 ^ 64 - 1) (omega (arith, h.sfits)) (omega (arith, ints, k.high)) in
    record { low = omega (arith, ints, most); high = omega (arith, ints) }
product_side (negsuc a) (negsuc b) h k =
    let most = product_le (suc a) (suc b) (2 ^ 63) (2 ^ 63) (omega (arith, h.sfits)) (omega (arith, ints, k.low)) in
    record { low = omega (arith, ints); high = omega (arith, ints, most) }

pub product_other_side : (a b : ℤ) → IsHeld a → FitsSigned w64 b → HasSide (a *ℤ b)
product_other_side (pos a) (pos b) h k =
    let most = product_le a b (2 ^ 64 - 1) (2 ^ 63 - 1) (omega (arith, ints, h.high)) (omega (arith, k.sfits)) in
    record { low = omega (arith, ints); high = omega (arith, ints, most) }
product_other_side (pos a) (negsuc b) h k =
    let most = product_le a (suc b) (2 ^ 64 - 1) (2 ^ 63) (omega (arith, ints, h.high)) (omega (arith, k.sfits)) in
    record { low = omega (arith, ints, most); high = omega (arith, ints) }
product_other_side (negsuc a) (pos b) h k =
    let most = product_le (suc a) b (2 ^ 63) (2 ^ 63 - 1) (omega (arith, ints, h.low)) (omega (arith, k.sfits)) in
    record { low = omega (arith, ints, most); high = omega (arith, ints) }
product_other_side (negsuc a) (negsuc b) h k =
    let most = product_le (suc a) (suc b) (2 ^ 63) (2 ^ 63) (omega (arith, ints, h.low)) (omega (arith, k.sfits)) in
    record { low = omega (arith, ints); high = omega (arith, ints, most) }
