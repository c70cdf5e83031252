-- Numbers and their bits in 32 and 64: sums, differences and products of bits, wider and narrower ones, and the test that a
-- number is a value of a type.
use Rattle.std.proofs.Common.{◌≡◌, ℕ, suc, ◌+◌, ◌-◌, ◌*◌, ◌/◌, ◌%◌, ◌^◌, ◌<◌, ◌≤◌, ℤ, pos, negsuc, ◌+ℤ◌, ◌-ℤ◌, ◌*ℤ◌, ◌≤ℤ◌, neg_ℤ, Bool, true, false, not, refl, sym, ap, ◌∙◌, arith, FitsSigned}
use Rattle.std.specs.Prelude.{nat_lt, int_le, ◌&&◌, bit_and, unsigned_abs}
use Rattle.std.proofs.lemmas.Int.{ints, int_wrap_fits, of_z-to_z, wrapping_add-bits, wrapping_sub-bits, wrapping_mul-bits, int_wrap-add_left, int_wrap-add_right, int_wrap-sub_right, int_wrap-mul_left, int_wrap-mul_right}
use Rattle.std.proofs.lemmas.Nat.{pow_pos, and_mask}
use Rattle.std.proofs.Math.Nat.{pow-le-pow_right, mul-le-mul}
use Rattle.std.specs.Int.{Width, w32, w64, cast_signed, cast_unsigned, int_wrap, int_rem_euclid}
use Rattle.zw_num.proofs.WrappedLemmas.{pattern_below, from_pattern, test_from_in, wrapped_within}
use Rattle.zw_num.specs.Arithmetic.{IsIn, is_in, least, pattern, wrapped}
use Rattle.zw_num.specs.declared.int_ty.IntTy.{IntTy}
use Rattle.zw_num.specs.declared.int_ty.IntTy.TheVariants.{Sized, Comptime}
use Rattle.zw_safety_narrow.specs.Operators.{IsNarrow}
use mir.Val.{bits}

-- the bits of what is left of a number in a width
wrap_bits : (w : Width) (z : ℤ) → cast_unsigned w (int_wrap w z) ≡ pattern (bits w) z
unfolding int_wrap
wrap_bits w z = of_z-to_z w (pattern (bits w) z) (pattern_below (bits w) z)

pub read_bits : (w : Width) (z : ℤ) → cast_signed w (pattern (bits w) z) ≡ int_wrap w z
unfolding int_wrap
read_bits w z = refl

pub from_wrap : (w : Width) (n : ℕ) (z : ℤ) → n < 2 ^ bits w → cast_signed w n ≡ int_wrap w z → n ≡ pattern (bits w) z
from_wrap w n z h e = sym (of_z-to_z w n h) ∙ ap (cast_unsigned w) e ∙ wrap_bits w z

reduced_below : (w : Width) (n : ℕ) → n % 2 ^ bits w < 2 ^ bits w
reduced_below w n = let some = pow_pos (bits w) in omega arith

pub add_bits : (w : Width) (a b : ℤ) → (pattern (bits w) a + pattern (bits w) b) % 2 ^ bits w ≡ pattern (bits w) (a +ℤ b)
add_bits w a b =
    let p = pattern (bits w) a in
    let q = pattern (bits w) b in
    from_wrap w ((p + q) % 2 ^ bits w) (a +ℤ b) (reduced_below w (p + q))
    (wrapping_add-bits w p q (pattern_below (bits w) a) (pattern_below (bits w) b)
    ∙ ap (λ x. int_wrap w (x +ℤ cast_signed w q)) (read_bits w a) ∙ ap (λ x. int_wrap w (int_wrap w a +ℤ x)) (read_bits w b)
    ∙ int_wrap-add_left w a (int_wrap w b) ∙ int_wrap-add_right w a b)

pub sub_bits : (w : Width) (a b : ℤ) → (pattern (bits w) a + (2 ^ bits w - pattern (bits w) b)) % 2 ^ bits w ≡ pattern (bits w) (a -ℤ b)
sub_bits w a b =
    let p = pattern (bits w) a in
    let q = pattern (bits w) b in
    from_wrap w ((p + (2 ^ bits w - q)) % 2 ^ bits w) (a -ℤ b) (reduced_below w (p + (2 ^ bits w - q)))
    (wrapping_sub-bits w p q (pattern_below (bits w) a) (pattern_below (bits w) b)
    ∙ ap (λ x. int_wrap w (x -ℤ cast_signed w q)) (read_bits w a) ∙ ap (λ x. int_wrap w (int_wrap w a -ℤ x)) (read_bits w b)
    ∙ int_wrap-sub_right w (int_wrap w a) b ∙ int_wrap-add_left w a (neg_ℤ b))

pub mul_bits : (w : Width) (a b : ℤ) → (pattern (bits w) a * pattern (bits w) b) % 2 ^ bits w ≡ pattern (bits w) (a *ℤ b)
mul_bits w a b =
    let p = pattern (bits w) a in
    let q = pattern (bits w) b in
    from_wrap w ((p * q) % 2 ^ bits w) (a *ℤ b) (reduced_below w (p * q))
    (wrapping_mul-bits w p q (pattern_below (bits w) a) (pattern_below (bits w) b)
    ∙ ap (λ x. int_wrap w (x *ℤ cast_signed w q)) (read_bits w a) ∙ ap (λ x. int_wrap w (int_wrap w a *ℤ x)) (read_bits w b)
    ∙ int_wrap-mul_left w a (int_wrap w b) ∙ int_wrap-mul_right w a b)

-- the numbers of a type of at most 32 bits lie here
pub record IsWord (z : ℤ) : Type 0 where
  pub low : neg_ℤ (pos (2 ^ 31)) ≤ℤ z
  pub high : z ≤ℤ pos (2 ^ 32 - 1)

pub word-narrow : (ty : IntTy) (z : ℤ) → IsNarrow ty → IsIn ty z → IsWord z
word-narrow (Sized false bits) z h i = let few : 2 ^ bits ≤ 2 ^ 32 = pow-le-pow_right {n = 2} (omega arith) h in
    record { low = omega (arith, ints, i.at_least); high = omega (arith, ints, i.at_most) }
word-narrow (Sized true bits) z h i = let few : 2 ^ bits ≤ 2 ^ 32 = pow-le-pow_right {n = 2} (omega arith) h in
    record { low = omega (arith, ints, i.at_least); high = omega (arith, ints, i.at_most) }
word-narrow Comptime z h i = absurd h

-- a number that is read with its sign
read_signed : (z : ℤ) → FitsSigned w32 z → cast_signed w32 (pattern 32 z) ≡ z
read_signed z h = read_bits w32 z ∙ int_wrap_fits w32 z h

pub fits_signed : (count : ℕ) (z : ℤ) → count ≤ 32 → IsIn (Sized true count) z → FitsSigned w32 z
fits_signed count (pos n) h i = let few : 2 ^ count ≤ 2 ^ 32 = pow-le-pow_right {n = 2} (omega arith) h in record { sfits = omega (arith, ints, i.at_most) }
fits_signed count (negsuc n) h i = let few : 2 ^ count ≤ 2 ^ 32 = pow-le-pow_right {n = 2} (omega arith) h in record { sfits = omega (arith, ints, i.at_least) }

long_signed : (z : ℤ) → FitsSigned w32 z → cast_unsigned w64 z ≡ pattern 64 z
long_signed (pos n) h = omega (arith, h.sfits)
long_signed (negsuc n) h = omega (arith, h.sfits)

-- wider: with a sign, and without
pub extend_signed : (count : ℕ) (z : ℤ) → count ≤ 32 → IsIn (Sized true count) z → cast_unsigned w64 (cast_signed w32 (pattern 32 z)) ≡ pattern 64 z
extend_signed count z h i =
    let fits = fits_signed count z h i in
    ap (cast_unsigned w64) (read_signed z fits) ∙ long_signed z fits

pub extend_unsigned : (count : ℕ) (z : ℤ) → count ≤ 32 → IsIn (Sized false count) z → pattern 32 z ≡ pattern 64 z
extend_unsigned count (pos n) h i = let few : 2 ^ count ≤ 2 ^ 32 = pow-le-pow_right {n = 2} (omega arith) h in omega (arith, ints, i.at_most)
extend_unsigned count (negsuc n) h i = absurd (omega (arith, ints, i.at_least))

-- narrower
pub wrap_long : (z : ℤ) → pattern 64 z % 2 ^ 32 ≡ pattern 32 z
wrap_long (pos n) = omega arith
wrap_long (negsuc n) = omega arith

-- numbers that an operator on such numbers gives
pub record IsLong (z : ℤ) : Type 0 where
  pub low : neg_ℤ (pos (2 ^ 63)) ≤ℤ z
  pub high : z ≤ℤ pos (2 ^ 64 - 2 ^ 32)

pub long_sum : (a b : ℤ) → IsWord a → IsWord b → IsLong (a +ℤ b)
long_sum a b h k = record { low = omega (arith, ints, h.low, k.low); high = omega (arith, ints, h.high, k.high) }

pub long_difference : (a b : ℤ) → IsWord a → IsWord b → IsLong (a -ℤ b)
long_difference a b h k = record { low = omega (arith, ints, h.low, k.high); high = omega (arith, ints, h.high, k.low) }

product_le : (a b c d : ℕ) → a ≤ c → b ≤ d → a * b ≤ c * d
product_le a b c d h k = mul-le-mul h k

pub long_product : (a b : ℤ) → IsWord a → IsWord b → IsLong (a *ℤ b)
long_product (pos a) (pos b) h k =
    let most = product_le a b (2 ^ 32 - 1) (2 ^ 32 - 1) (omega (arith, ints, h.high)) (omega (arith, ints, k.high)) in
    record { low = omega (arith, ints); high = omega (arith, ints) }
long_product (pos a) (negsuc b) h k =
    let most = product_le a (suc b) (2 ^ 32 - 1) (2 ^ 31) (omega (arith, ints, h.high)) (omega (arith, ints, k.low)) in
    record { low = omega (arith, ints); high = omega (arith, ints) }
long_product (negsuc a) (pos b) h k =
    let most = product_le (suc a) b (2 ^ 31) (2 ^ 32 - 1) (omega (arith, ints, h.low)) (omega (arith, ints, k.high)) in
    record { low = omega (arith, ints); high = omega (arith, ints) }
long_product (negsuc a) (negsuc b) h k =
    let most = product_le (suc a) (suc b) (2 ^ 31) (2 ^ 31) (omega (arith, ints, h.low)) (omega (arith, ints, k.low)) in
    record { low = omega (arith, ints); high = omega (arith, ints) }

-- a number in 64 bits is one from 0 on, up to a bound, exactly where its bits are
far_bits : (y : ℤ) (top : ℕ) → top < 2 ^ 32 → neg_ℤ (pos (2 ^ 63)) ≤ℤ y → y ≤ℤ pos (2 ^ 64 - 1) → nat_lt top (pattern 64 y) ≡ not (int_le (pos 0) y && int_le y (pos top))
far_bits (pos n) top h low high = let same : n % 2 ^ 64 ≡ n = omega (arith, ints, high) in grind (arith, ints, same)
far_bits (negsuc n) top h low high = let far : 2 ^ 63 ≤ 2 ^ 64 - 1 - n % 2 ^ 64 = omega (arith, ints, low) in grind (arith, ints, far)

pub in_shifted : (signed : Bool) (count : ℕ) (z : ℤ) → (int_le (pos 0) (z -ℤ least (Sized signed count)) && int_le (z -ℤ least (Sized signed count)) (pos (2 ^ count - 1))) ≡ is_in (Sized signed count) z
in_shifted false count z = let some = pow_pos count in grind (arith, ints, some)
in_shifted true count z = let some = pow_pos count in grind (arith, ints, some)

least_word : (signed : Bool) (count : ℕ) → count ≤ 32 → (neg_ℤ (pos (2 ^ 31)) ≤ℤ least (Sized signed count)) × (least (Sized signed count) ≤ℤ pos 0)
least_word false count h = (omega (arith, ints), omega (arith, ints))
least_word true count h = let few : 2 ^ count ≤ 2 ^ 32 = pow-le-pow_right {n = 2} (omega arith) h in (omega (arith, ints), omega (arith, ints))

-- how far above the least value of a type a number lies tells whether it is one
pub tells_range : (signed : Bool) (count : ℕ) (z : ℤ) → count ≤ 32 → IsLong z → nat_lt (2 ^ count - 1) (pattern 64 (z -ℤ least (Sized signed count))) ≡ not (is_in (Sized signed count) z)
tells_range signed count z h k =
    let few : 2 ^ count ≤ 2 ^ 32 = pow-le-pow_right {n = 2} (omega arith) h in
    let some = pow_pos count in
    let bound = least_word signed count h in
    far_bits (z -ℤ least (Sized signed count)) (2 ^ count - 1) (omega (arith, few, some)) (omega (arith, ints, k.low, bound)) (omega (arith, ints, k.high, bound))
    ∙ ap not (in_shifted signed count z)

-- ---- the value of a type with the lowest bits of a number

pub pattern_is : (count : ℕ) (z : ℤ) → int_rem_euclid z (pos (2 ^ count)) ≡ pos (pattern count z)
pattern_is count (pos n) = refl
pattern_is count (negsuc n) = refl

in_low : (count n : ℕ) → n < 2 ^ count → IsIn (Sized false count) (pos n)
in_low count n h = record { at_least = omega (arith, ints); at_most = omega (arith, ints) }

pub low_of : (count : ℕ) (z : ℤ) → pos (pattern count z) ≡ wrapped (Sized false count) z
low_of count z =
    from_pattern (Sized false count) tt z (pattern count z) refl (test_from_in (Sized false count) (pos (pattern count z)) (in_low count (pattern count z) (pattern_below count z)))

pub same_bits : (count : ℕ) (y z : ℤ) → wrapped (Sized false count) y ≡ wrapped (Sized false count) z → pattern count y ≡ pattern count z
same_bits count y z e = ap unsigned_abs (low_of count y ∙ e ∙ sym (low_of count z))

-- fewer bits of the bits
pub lower_bits : (count wide : ℕ) (z : ℤ) → count ≤ wide → pattern wide z % 2 ^ count ≡ pattern count z
lower_bits count wide z h =
    same_bits count (pos (pattern wide z)) z (ap (wrapped (Sized false count)) (low_of wide z) ∙ wrapped_within false false count wide z h)

-- a value of 32 bits has all of them
pub wrapped_word : (signed : Bool) (z : ℤ) → pattern 32 (wrapped (Sized signed 32) z) ≡ pattern 32 z
wrapped_word signed z = same_bits 32 (wrapped (Sized signed 32) z) z (wrapped_within false signed 32 32 z (omega arith))

pub power_word : (count : ℕ) → count ≤ 32 → 2 ^ count ≤ 2 ^ 32
power_word count h = pow-le-pow_right {n = 2} (omega arith) h

low_word : (count : ℕ) (z : ℤ) → count ≤ 32 → pattern 32 (pos (pattern count z)) ≡ pattern count z
low_word count z h = let few = power_word count h in let below = pattern_below count z in omega (arith, few, below)

pub masked : (count : ℕ) (z : ℤ) → count ≤ 32 → bit_and (pattern 32 z) (2 ^ count - 1) ≡ pattern count z
masked count z h = and_mask (pattern 32 z) count ∙ lower_bits count 32 z h

pub wrapped_unsigned : (count : ℕ) (z : ℤ) → count ≤ 32 → pattern count z ≡ pattern 32 (wrapped (Sized false count) z)
wrapped_unsigned count z h = sym (low_word count z h) ∙ ap (pattern 32) (low_of count z)

half_bits : (count : ℕ) → count ≤ 32 → 2 ^ count / 2 ≡ pattern 32 (pos (2 ^ count / 2))
half_bits count h = let few = power_word count h in omega (arith, few)

half_long : (count : ℕ) → count ≤ 32 → 2 ^ count / 2 ≡ pattern 64 (pos (2 ^ count / 2))
half_long count h = let few = power_word count h in omega (arith, few)

-- from the least value on
pub up_from : (count : ℕ) (z : ℤ) → z +ℤ pos (2 ^ count / 2) ≡ z -ℤ least (Sized true count)
up_from count z = omega (arith, ints)

pub lift_word : (count : ℕ) (z : ℤ) → count ≤ 32 → (pattern 32 z + 2 ^ count / 2) % 2 ^ 32 ≡ pattern 32 (z -ℤ least (Sized true count))
lift_word count z h =
    ap (λ n. (pattern 32 z + n) % 2 ^ 32) (half_bits count h) ∙ add_bits w32 z (pos (2 ^ count / 2)) ∙ ap (pattern 32) (up_from count z)

pub lift_long : (count : ℕ) (z : ℤ) → count ≤ 32 → (pattern 64 z + 2 ^ count / 2) % 2 ^ 64 ≡ pattern 64 (z -ℤ least (Sized true count))
lift_long count z h =
    ap (λ n. (pattern 64 z + n) % 2 ^ 64) (half_long count h) ∙ add_bits w64 z (pos (2 ^ count / 2)) ∙ ap (pattern 64) (up_from count z)

-- and back
pub wrapped_signed : (count : ℕ) (z : ℤ) → count ≤ 32 → (pattern count (z -ℤ least (Sized true count)) + (2 ^ 32 - 2 ^ count / 2)) % 2 ^ 32 ≡ pattern 32 (wrapped (Sized true count) z)
wrapped_signed count z h =
    let y = z -ℤ least (Sized true count) in
    ap (λ n. (n + (2 ^ 32 - 2 ^ count / 2)) % 2 ^ 32) (sym (low_word count y h))
    ∙ ap (λ n. (pattern 32 (pos (pattern count y)) + (2 ^ 32 - n)) % 2 ^ 32) (half_bits count h)
    ∙ sub_bits w32 (pos (pattern count y)) (pos (2 ^ count / 2))
    ∙ ap (λ x. pattern 32 (x +ℤ least (Sized true count))) (sym (pattern_is count y))

pub minus_least : (count : ℕ) (z : ℤ) → z ≡ z -ℤ least (Sized false count)
minus_least count z = omega (arith, ints)
