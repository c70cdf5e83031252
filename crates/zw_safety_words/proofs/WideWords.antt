-- Numbers in two words of 64 bits: the low word is the number's lowest bits, and the high one says how many times 2^64 it lies
-- from 0, rounded down.
use Rattle.std.proofs.Common.{◌≡◌, ℕ, suc, ◌+◌, ◌-◌, ◌*◌, ◌/◌, ◌%◌, ◌^◌, ◌<◌, ◌≤◌, ℤ, pos, negsuc, ◌+ℤ◌, ◌-ℤ◌, ◌*ℤ◌, ◌≤ℤ◌, ◌<ℤ◌, neg_ℤ, Bool, true, false, not, ◌⊎◌, inl, inr, refl, sym, ap, ◌∙◌, arith}
use Rattle.std.specs.Prelude.{nat_lt, nat_eq, int_le, int_lt, ◌&&◌, ◌||◌, bit_and, bit_or}
use Rattle.std.proofs.lemmas.Bool.{cases_lt, ltb-true, ltb-false, lt-ltb, le-ltb}
use Rattle.std.proofs.lemmas.Bool.Decides.{nat_tests}
use Rattle.std.proofs.lemmas.Int.{ints}
use Rattle.std.proofs.lemmas.Nat.{pow_pos, and_mask}
use Rattle.std.proofs.Math.Nat.{pow-le-pow_right, mul-le-mul}
use Rattle.std.specs.Int.{w64, cast_signed, cast_unsigned, int_shr, int_div_euclid}
use mir.Facts.{to_z-neg}
use mir.Facts.{to_z_pos}
use Rattle.zw_num.proofs.WrappedLemmas.{pattern_below, in_from_test, test_from_in, test_from_out, out_from_test, wrapped_within}
use Rattle.zw_num.specs.Arithmetic.{IsIn, is_in, least, pattern, width, wrapped}
use Rattle.zw_num.specs.declared.int_ty.IntTy.{IntTy}
use Rattle.zw_num.specs.declared.int_ty.IntTy.TheVariants.{Sized, Comptime}
use Rattle.zw_safety_narrow.proofs.Words.{add_bits, sub_bits, in_shifted, up_from, lower_bits, low_of, pattern_is, same_bits}
use Rattle.zw_safety_narrow.specs.Operators.{IsStored}
use Rattle.zw_safety_words.specs.WideCode.{is_signed}
use Rattle.zw_wasm.specs.Numerics.{bit_of}

-- the high word as a whole number
abbrev pub high : ℤ → ℤ
high z = int_div_euclid z (pos (2 ^ 64))

-- a number is its two words
pub two_words : (z : ℤ) → z ≡ pos (pattern 64 z) +ℤ high z *ℤ pos (2 ^ 64)
two_words (pos n) = omega (arith, ints)
two_words (negsuc n) = omega (arith, ints)

-- two words are just one number's
pub one_number : (z h : ℤ) (l : ℕ) → l < 2 ^ 64 → z ≡ pos l +ℤ h *ℤ pos (2 ^ 64) → high z ≡ h
one_number z h l below e =
    let parts = two_words z in
    let low = pattern_below 64 z in
    omega (arith, ints, parts, low, e)

-- ---- sums and differences

carry_is : (x y : ℕ) → ((bit_of (nat_lt x y) ≡ 1) × (x < y)) ⊎ ((bit_of (nat_lt x y) ≡ 0) × (y ≤ x))
carry_is x y = elim (cases_lt x y) [ inl less ↦ inl (ap bit_of (lt-ltb x y less), less) | inr more ↦ inr (ap bit_of (le-ltb x y more), more) ]

pub high_sum : (a b : ℤ) → high (a +ℤ b) ≡ pos (bit_of (nat_lt (pattern 64 (a +ℤ b)) (pattern 64 b))) +ℤ high a +ℤ high b
high_sum a b =
    let left = two_words a in
    let right = two_words b in
    let both = two_words (a +ℤ b) in
    let below = pattern_below 64 a in
    let under = pattern_below 64 b in
    let less = pattern_below 64 (a +ℤ b) in
    let carried = carry_is (pattern 64 (a +ℤ b)) (pattern 64 b) in
    elim carried [
      | inl one ↦ omega (arith, ints, left, right, both, below, under, less, one)
      | inr none ↦ omega (arith, ints, left, right, both, below, under, less, none)
    ]

pub high_difference : (a b : ℤ) → high (a -ℤ b) ≡ high a -ℤ pos (bit_of (nat_lt (pattern 64 a) (pattern 64 b))) -ℤ high b
high_difference a b =
    let left = two_words a in
    let right = two_words b in
    let both = two_words (a -ℤ b) in
    let below = pattern_below 64 a in
    let under = pattern_below 64 b in
    let less = pattern_below 64 (a -ℤ b) in
    let borrowed = carry_is (pattern 64 a) (pattern 64 b) in
    elim borrowed [
      | inl one ↦ omega (arith, ints, left, right, both, below, under, less, one)
      | inr none ↦ omega (arith, ints, left, right, both, below, under, less, none)
    ]

-- ---- the high word of a value

-- what the high word of a number is where the number is a value of a type, by its low word
abbrev pub high_bits : IntTy → ℕ → ℕ
high_bits (Sized true bits) x = cast_unsigned w64 (int_shr (cast_signed w64 x) 63)
high_bits (Sized false bits) x = 0
high_bits Comptime x = 0

shifted_low : (x : ℕ) → x < 2 ^ 63 → cast_unsigned w64 (int_shr (cast_signed w64 x) 63) ≡ 0
shifted_low x h = ap (λ z. cast_unsigned w64 (int_shr z 63)) (to_z_pos w64 {n = x} h) ∙ omega arith

shifted_high : (x : ℕ) → 2 ^ 63 ≤ x → x < 2 ^ 64 → cast_unsigned w64 (int_shr (cast_signed w64 x) 63) ≡ 2 ^ 64 - 1
shifted_high x h k =
    let m = 2 ^ 64 - suc x in
    let same : x ≡ 2 ^ 64 - suc m = omega arith in
    ap (λ n. cast_unsigned w64 (int_shr (cast_signed w64 n) 63)) same
    ∙ (ap (λ z. cast_unsigned w64 (int_shr z 63)) (to_z-neg w64 m (omega arith)) ∙ omega arith)

pub high_of_value : (t : IntTy) (a : ℤ) → IsStored t → IsIn t a → high_bits t (pattern 64 a) ≡ pattern 64 (high a)
high_of_value (Sized true count) (pos n) h i =
    let few : 2 ^ count ≤ 2 ^ 64 = pow-le-pow_right {n = 2} (omega arith) h in
    let low : n < 2 ^ 63 = omega (arith, ints, i.at_most, few) in
    shifted_low (pattern 64 (pos n)) (omega (arith, low)) ∙ omega (arith, low)
high_of_value (Sized true count) (negsuc n) h i =
    let few : 2 ^ count ≤ 2 ^ 64 = pow-le-pow_right {n = 2} (omega arith) h in
    let low : n < 2 ^ 63 = omega (arith, ints, i.at_least, few) in
    shifted_high (pattern 64 (negsuc n)) (omega (arith, low)) (omega (arith, low)) ∙ omega (arith, low)
high_of_value (Sized false count) (pos n) h i =
    let few : 2 ^ count ≤ 2 ^ 64 = pow-le-pow_right {n = 2} (omega arith) h in
    let low : n < 2 ^ 64 = omega (arith, ints, i.at_most, few) in
    omega (arith, low)
high_of_value (Sized false count) (negsuc n) h i = absurd (omega (arith, ints, i.at_least))
high_of_value Comptime a h i = absurd h

-- the high word of a value of an unsigned type
pub high_unsigned : (count : ℕ) (a : ℤ) → count ≤ 64 → IsIn (Sized false count) a → high a ≡ pos 0
high_unsigned count (pos n) h i =
    let few : 2 ^ count ≤ 2 ^ 64 = pow-le-pow_right {n = 2} (omega arith) h in
    let low : n < 2 ^ 64 = omega (arith, ints, i.at_most, few) in
    omega (arith, ints, low)
high_unsigned count (negsuc n) h i = absurd (omega (arith, ints, i.at_least))

-- ---- which numbers are values of a type

-- numbers whose high word is told by its bits
pub record IsBroad (z : ℤ) : Type 0 where
  pub low : neg_ℤ (pos (2 ^ 127)) ≤ℤ z
  pub high : z ≤ℤ pos (2 ^ 128 - 2 ^ 65 + 1)

-- a number that isn't negative in 64 bits is one up to a bound exactly where its bits are
far_bits : (y : ℤ) (top : ℕ) → top < 2 ^ 63 → neg_ℤ (pos (2 ^ 63)) ≤ℤ y → y ≤ℤ pos (2 ^ 64 - 1) → nat_lt top (pattern 64 y) ≡ not (int_le (pos 0) y && int_le y (pos top))
far_bits (pos n) top h low high = let same : n % 2 ^ 64 ≡ n = omega (arith, ints, high) in grind (arith, ints, same)
far_bits (negsuc n) top h low high = let far : 2 ^ 63 ≤ 2 ^ 64 - 1 - n % 2 ^ 64 = omega (arith, ints, low) in grind (arith, ints, far)

-- a high word that is told by its bits
record IsTold (h : ℤ) : Type 0 where
  pub low : neg_ℤ (pos (2 ^ 63)) ≤ℤ h
  pub high : h ≤ℤ pos (2 ^ 64 - 2)

told : (z : ℤ) → IsBroad z → IsTold (high z)
told z b =
    let parts = two_words z in
    let below = pattern_below 64 z in
    record { low = omega (arith, ints, parts, below, b.low); high = omega (arith, ints, parts, below, b.high) }

is_zero : (h : ℤ) → IsTold h → nat_eq (pattern 64 h) 0 ≡ true → h ≡ pos 0
is_zero (pos n) t e = let same : n % 2 ^ 64 ≡ n = omega (arith, ints, t.high) in let none : n ≡ 0 = grind (arith, nat_tests, e, same) in ap pos none
is_zero (negsuc n) t e = let far : 2 ^ 63 ≤ 2 ^ 64 - 1 - n % 2 ^ 64 = omega (arith, ints, t.low) in absurd (grind (arith, nat_tests, e, far))

is_minus : (h : ℤ) → IsTold h → nat_eq (pattern 64 h) (2 ^ 64 - 1) ≡ true → h ≡ negsuc 0
is_minus (pos n) t e = let same : n % 2 ^ 64 < 2 ^ 64 - 1 = omega (arith, ints, t.high) in absurd (grind (arith, nat_tests, e, same))
is_minus (negsuc n) t e =
    let low : n < 2 ^ 63 = omega (arith, ints, t.low) in
    let far : 2 ^ 64 - 1 - n % 2 ^ 64 ≡ 2 ^ 64 - 1 = grind (arith, nat_tests, e) in
    let none : n ≡ 0 = omega (arith, far, low) in
    ap negsuc none

-- a test that holds exactly where a number is in a type
same_test : (b : Bool) (t : IntTy) (z : ℤ) → (b ≡ true → IsIn t z) → (b ≡ false → IsIn t z → ⊥) → b ≡ is_in t z
same_test true t z there out = sym (test_from_in t z (there refl))
same_test false t z there out = sym (test_from_out t z (out refl))

unsigned_told : (z h : ℤ) (l : ℕ) → z ≡ pos l +ℤ h *ℤ pos (2 ^ 64) → l < 2 ^ 64 → IsTold h → nat_eq (pattern 64 h) 0 ≡ is_in (Sized false 64) z
unsigned_told z h l e below t = same_test (nat_eq (pattern 64 h) 0) (Sized false 64) z
    (λ q. let none = is_zero h t q in record { at_least = omega (arith, ints, e, none); at_most = omega (arith, ints, e, none, below) })
    (λ q i. let none : h ≡ pos 0 = omega (arith, ints, e, below, i.at_least, i.at_most) in
    let is = ap (λ x. nat_eq (pattern 64 x) 0) none in cc)

signed_told_low : (z h : ℤ) (l : ℕ) → z ≡ pos l +ℤ h *ℤ pos (2 ^ 64) → l < 2 ^ 63 → IsTold h → nat_eq (pattern 64 h) 0 ≡ is_in (Sized true 64) z
signed_told_low z h l e below t = same_test (nat_eq (pattern 64 h) 0) (Sized true 64) z
    (λ q. let none = is_zero h t q in record { at_least = omega (arith, ints, e, none); at_most = omega (arith, ints, e, none, below) })
    (λ q i. let none : h ≡ pos 0 = omega (arith, ints, e, below, i.at_least, i.at_most) in
    let is = ap (λ x. nat_eq (pattern 64 x) 0) none in cc)

signed_told_high : (z h : ℤ) (l : ℕ) → z ≡ pos l +ℤ h *ℤ pos (2 ^ 64) → 2 ^ 63 ≤ l → l < 2 ^ 64 → IsTold h → nat_eq (pattern 64 h) (2 ^ 64 - 1) ≡ is_in (Sized true 64) z
signed_told_high z h l e above below t = same_test (nat_eq (pattern 64 h) (2 ^ 64 - 1)) (Sized true 64) z
    (λ q. let minus = is_minus h t q in record { at_least = omega (arith, ints, e, minus, above); at_most = omega (arith, ints, e, minus, below) })
    (λ q i. let minus : h ≡ negsuc 0 = omega (arith, ints, e, above, below, i.at_least, i.at_most) in
    let is = ap (λ x. nat_eq (pattern 64 x) (2 ^ 64 - 1)) minus in cc)

-- of a type of 64 bits, by the high word
tells_high : (signed : Bool) (z : ℤ) → IsBroad z → nat_eq (pattern 64 (high z)) (high_bits (Sized signed 64) (pattern 64 z)) ≡ is_in (Sized signed 64) z
tells_high false z b = unsigned_told z (high z) (pattern 64 z) (two_words z) (pattern_below 64 z) (told z b)
tells_high true z b =
    let l = pattern 64 z in
    let below = pattern_below 64 z in
    elim (cases_lt l (2 ^ 63)) [
      | inl less ↦ ap (λ x. nat_eq (pattern 64 (high z)) x) (shifted_low l less) ∙ signed_told_low z (high z) l (two_words z) less (told z b)
      | inr more ↦ ap (λ x. nat_eq (pattern 64 (high z)) x) (shifted_high l more below) ∙ signed_told_high z (high z) l (two_words z) more below (told z b)
    ]

-- of a type of fewer bits, by the low word besides
tells_low : (signed : Bool) (count : ℕ) (z : ℤ) → count < 64 → IsIn (Sized signed 64) z → nat_lt (2 ^ count - 1) (pattern 64 (z -ℤ least (Sized signed count))) ≡ not (is_in (Sized signed count) z)
tells_low false count z h i =
    let fewer : count ≤ 63 = omega (arith, h) in
    let few : 2 ^ count ≤ 2 ^ 63 = pow-le-pow_right {n = 2} (omega arith) fewer in
    let some = pow_pos count in
    far_bits (z -ℤ pos 0) (2 ^ count - 1) (omega (arith, few, some)) (omega (arith, ints, i.at_least)) (omega (arith, ints, i.at_most)) ∙ ap not (in_shifted false count z)
tells_low true count z h i =
    let fewer : count ≤ 63 = omega (arith, h) in
    let few : 2 ^ count ≤ 2 ^ 63 = pow-le-pow_right {n = 2} (omega arith) fewer in
    let some = pow_pos count in
    far_bits (z -ℤ least (Sized true count)) (2 ^ count - 1) (omega (arith, few, some)) (omega (arith, ints, i.at_least, few)) (omega (arith, ints, i.at_most, few)) ∙ ap not (in_shifted true count z)

wider : (signed : Bool) (count : ℕ) (z : ℤ) → count < 64 → IsIn (Sized signed count) z → IsIn (Sized signed 64) z
wider false count z h i =
    let fewer : count ≤ 63 = omega (arith, h) in
    let few : 2 ^ count ≤ 2 ^ 63 = pow-le-pow_right {n = 2} (omega arith) fewer in
    record { at_least = omega (arith, ints, i.at_least); at_most = omega (arith, ints, i.at_most, few) }
wider true count z h i =
    let fewer : count ≤ 63 = omega (arith, h) in
    let few : 2 ^ count ≤ 2 ^ 63 = pow-le-pow_right {n = 2} (omega arith) fewer in
    record { at_least = omega (arith, ints, i.at_least, few); at_most = omega (arith, ints, i.at_most, few) }

-- the high word isn't that of a value
abbrev pub high_tells : IntTy → ℤ → Bool
high_tells to z = not (nat_eq (pattern 64 (high z)) (high_bits to (pattern 64 z)))

-- the low word lies too far above the least value
abbrev pub low_tells : IntTy → ℤ → Bool
low_tells to z = nat_lt (2 ^ width to - 1) (pattern 64 (z -ℤ least to))

same_high : (signed : Bool) (count : ℕ) (x : ℕ) → high_bits (Sized signed count) x ≡ high_bits (Sized signed 64) x
same_high false count x = refl
same_high true count x = refl

high_is : (signed : Bool) (count : ℕ) (z : ℤ) → IsBroad z → high_tells (Sized signed count) z ≡ not (is_in (Sized signed 64) z)
high_is signed count z b = ap (λ x. not (nat_eq (pattern 64 (high z)) x)) (same_high signed count (pattern 64 z)) ∙ ap not (tells_high signed z b)

either_for : (t : Bool) (signed : Bool) (count : ℕ) (z : ℤ) → count < 64 → is_in (Sized signed 64) z ≡ t → (not t || low_tells (Sized signed count) z) ≡ not (is_in (Sized signed count) z)
either_for true signed count z h e = tells_low signed count z h (in_from_test (Sized signed 64) z e)
either_for false signed count z h e =
    sym (ap not (test_from_out (Sized signed count) z (λ i. out_from_test (Sized signed 64) z e (wider signed count z h i))))

-- of a type of fewer than 64 bits one of the two tells
pub either_tells : (signed : Bool) (count : ℕ) (z : ℤ) → count < 64 → IsBroad z → (high_tells (Sized signed count) z || low_tells (Sized signed count) z) ≡ not (is_in (Sized signed count) z)
either_tells signed count z h b =
    ap (λ t. t || low_tells (Sized signed count) z) (high_is signed count z b) ∙ either_for (is_in (Sized signed 64) z) signed count z h refl

-- of one of 64 bits the high word alone
pub high_alone : (signed : Bool) (count : ℕ) (z : ℤ) → 64 ≤ count → count ≤ 64 → IsBroad z → high_tells (Sized signed count) z ≡ not (is_in (Sized signed count) z)
high_alone signed count z more few b =
    let whole : count ≡ 64 = omega (arith, more, few) in
    high_is signed count z b ∙ ap (λ n. not (is_in (Sized signed n) z)) (sym whole)

-- ---- the bits of sums

pub power_long : (count : ℕ) → count ≤ 64 → 2 ^ count ≤ 2 ^ 64
power_long count h = pow-le-pow_right {n = 2} (omega arith) h

half_wide : (count : ℕ) → count ≤ 64 → 2 ^ count / 2 ≡ pattern 64 (pos (2 ^ count / 2))
half_wide count h = let few = power_long count h in omega (arith, few)

pub lift_wide : (count : ℕ) (z : ℤ) → count ≤ 64 → (pattern 64 z + 2 ^ count / 2) % 2 ^ 64 ≡ pattern 64 (z -ℤ least (Sized true count))
lift_wide count z h =
    ap (λ n. (pattern 64 z + n) % 2 ^ 64) (half_wide count h) ∙ add_bits w64 z (pos (2 ^ count / 2)) ∙ ap (pattern 64) (up_from count z)

pub bit_bits : (b : Bool) → bit_of b ≡ pattern 64 (pos (bit_of b))
bit_bits true = refl
bit_bits false = refl

pub or_bits : (a b : Bool) → bit_or (bit_of a) (bit_of b) ≡ bit_of (a || b)
or_bits true true = refl
or_bits true false = refl
or_bits false true = refl
or_bits false false = refl

-- ---- the value of a type with the lowest bits of a number, in 64 bits

low_long : (count : ℕ) (z : ℤ) → count ≤ 64 → pattern 64 (pos (pattern count z)) ≡ pattern count z
low_long count z h = let few = power_long count h in let below = pattern_below count z in omega (arith, few, below)

pub masked_long : (count : ℕ) (z : ℤ) → count ≤ 64 → bit_and (pattern 64 z) (2 ^ count - 1) ≡ pattern count z
masked_long count z h = and_mask (pattern 64 z) count ∙ lower_bits count 64 z h

pub wrapped_unsigned_long : (count : ℕ) (z : ℤ) → count ≤ 64 → pattern count z ≡ pattern 64 (wrapped (Sized false count) z)
wrapped_unsigned_long count z h = sym (low_long count z h) ∙ ap (pattern 64) (low_of count z)

pub wrapped_signed_long : (count : ℕ) (z : ℤ) → count ≤ 64 → (pattern count (z -ℤ least (Sized true count)) + (2 ^ 64 - 2 ^ count / 2)) % 2 ^ 64 ≡ pattern 64 (wrapped (Sized true count) z)
wrapped_signed_long count z h =
    let y = z -ℤ least (Sized true count) in
    ap (λ n. (n + (2 ^ 64 - 2 ^ count / 2)) % 2 ^ 64) (sym (low_long count y h))
    ∙ ap (λ n. (pattern 64 (pos (pattern count y)) + (2 ^ 64 - n)) % 2 ^ 64) (half_wide count h)
    ∙ sub_bits w64 (pos (pattern count y)) (pos (2 ^ count / 2))
    ∙ ap (λ x. pattern 64 (x +ℤ least (Sized true count))) (sym (pattern_is count y))

pub wrapped_long : (signed : Bool) (z : ℤ) → pattern 64 (wrapped (Sized signed 64) z) ≡ pattern 64 z
wrapped_long signed z = same_bits 64 (wrapped (Sized signed 64) z) z (wrapped_within false signed 64 64 z (omega arith))

-- ---- the numbers that operators give

-- the numbers of a type of at most 64 bits lie here
pub record IsHeld (z : ℤ) : Type 0 where
  pub low : neg_ℤ (pos (2 ^ 63)) ≤ℤ z
  pub high : z ≤ℤ pos (2 ^ 64 - 1)

pub held : (t : IntTy) (z : ℤ) → IsStored t → IsIn t z → IsHeld z
held (Sized false count) z h i = let few = power_long count h in record { low = omega (arith, ints, i.at_least); high = omega (arith, ints, i.at_most, few) }
held (Sized true count) z h i = let few = power_long count h in record { low = omega (arith, ints, i.at_least, few); high = omega (arith, ints, i.at_most, few) }
held Comptime z h i = absurd h

pub broad_sum : (a b : ℤ) → IsHeld a → IsHeld b → IsBroad (a +ℤ b)
broad_sum a b h k = record { low = omega (arith, ints, h.low, k.low); high = omega (arith, ints, h.high, k.high) }

pub broad_difference : (a b : ℤ) → IsHeld a → IsHeld b → IsBroad (a -ℤ b)
broad_difference a b h k = record { low = omega (arith, ints, h.low, k.high); high = omega (arith, ints, h.high, k.low) }

product_le : (a b c d : ℕ) → a ≤ c → b ≤ d → a * b ≤ c * d
product_le a b c d h k = mul-le-mul h k

pub broad_product : (a b : ℤ) → IsHeld a → IsHeld b → IsBroad (a *ℤ b)
broad_product (pos a) (pos b) h k =
    let most = product_le a b (2 ^ 64 - 1) (2 ^ 64 - 1) (omega (arith, ints, h.high)) (omega (arith, ints, k.high)) in
    record { low = omega (arith, ints); high = omega (arith, ints) }
broad_product (pos a) (negsuc b) h k =
    let most = product_le a (suc b) (2 ^ 64 - 1) (2 ^ 63) (omega (arith, ints, h.high)) (omega (arith, ints, k.low)) in
    record { low = omega (arith, ints); high = omega (arith, ints) }
broad_product (negsuc a) (pos b) h k =
    let most = product_le (suc a) b (2 ^ 63) (2 ^ 64 - 1) (omega (arith, ints, h.low)) (omega (arith, ints, k.high)) in
    record { low = omega (arith, ints); high = omega (arith, ints) }
broad_product (negsuc a) (negsuc b) h k =
    let most = product_le (suc a) (suc b) (2 ^ 63) (2 ^ 63) (omega (arith, ints, h.low)) (omega (arith, ints, k.low)) in
    record { low = omega (arith, ints); high = omega (arith, ints) }

-- ---- where one comparison is enough

pub high_plain : (t : IntTy) (a : ℤ) → IsStored t → is_signed t ≡ false → IsIn t a → high a ≡ pos 0
high_plain (Sized false count) a h e i = high_unsigned count a h i
high_plain (Sized true count) a h e i = absurd (cc)
high_plain Comptime a h e i = absurd h

unsigned_sum_for : (t : Bool) (a b : ℤ) → high a ≡ pos 0 → high b ≡ pos 0 → nat_lt (pattern 64 (a +ℤ b)) (pattern 64 b) ≡ t → t ≡ not (is_in (Sized false 64) (a +ℤ b))
unsigned_sum_for true a b h k e =
    let less = ltb-true (pattern 64 (a +ℤ b)) (pattern 64 b) e in
    let left = two_words a in
    let right = two_words b in
    let both = two_words (a +ℤ b) in
    let below = pattern_below 64 a in
    sym (ap not (test_from_out (Sized false 64) (a +ℤ b) (λ i. omega (arith, ints, left, right, both, less, below, h, k, i.at_most))))
unsigned_sum_for false a b h k e =
    let more = ltb-false (pattern 64 (a +ℤ b)) (pattern 64 b) e in
    let left = two_words a in
    let right = two_words b in
    let both = two_words (a +ℤ b) in
    let below = pattern_below 64 a in
    let under = pattern_below 64 (a +ℤ b) in
    sym (ap not (test_from_in (Sized false 64) (a +ℤ b) (record {
      at_least = omega (arith, ints, left, right, h, k);
      at_most = omega (arith, ints, left, right, both, more, below, under, h, k);
    })))

pub unsigned_sum_tells : (a b : ℤ) → high a ≡ pos 0 → high b ≡ pos 0 → nat_lt (pattern 64 (a +ℤ b)) (pattern 64 b) ≡ not (is_in (Sized false 64) (a +ℤ b))
unsigned_sum_tells a b h k = unsigned_sum_for (nat_lt (pattern 64 (a +ℤ b)) (pattern 64 b)) a b h k refl

unsigned_difference_for : (t : Bool) (a b : ℤ) → high a ≡ pos 0 → high b ≡ pos 0 → nat_lt (pattern 64 a) (pattern 64 b) ≡ t → t ≡ not (is_in (Sized false 64) (a -ℤ b))
unsigned_difference_for true a b h k e =
    let less = ltb-true (pattern 64 a) (pattern 64 b) e in
    let left = two_words a in
    let right = two_words b in
    sym (ap not (test_from_out (Sized false 64) (a -ℤ b) (λ i. omega (arith, ints, left, right, less, h, k, i.at_least))))
unsigned_difference_for false a b h k e =
    let more = ltb-false (pattern 64 a) (pattern 64 b) e in
    let left = two_words a in
    let right = two_words b in
    let below = pattern_below 64 a in
    sym (ap not (test_from_in (Sized false 64) (a -ℤ b) (record {
      at_least = omega (arith, ints, left, right, more, h, k);
      at_most = omega (arith, ints, left, right, below, h, k);
    })))

pub unsigned_difference_tells : (a b : ℤ) → high a ≡ pos 0 → high b ≡ pos 0 → nat_lt (pattern 64 a) (pattern 64 b) ≡ not (is_in (Sized false 64) (a -ℤ b))
unsigned_difference_tells a b h k = unsigned_difference_for (nat_lt (pattern 64 a) (pattern 64 b)) a b h k refl

-- a number of 64 bits with its sign
read_long : (p : ℕ) → p < 2 ^ 64 → ((p < 2 ^ 63) × (cast_signed w64 p ≡ pos p)) ⊎ ((2 ^ 63 ≤ p) × (cast_signed w64 p ≡ pos p -ℤ pos (2 ^ 64)))
read_long p h =
    elim (cases_lt p (2 ^ 63)) [
      | inl low ↦ inl (low, to_z_pos w64 {n = p} low)
      | inr far ↦
          let m = 2 ^ 64 - suc p in
          let same : p ≡ 2 ^ 64 - suc m = omega arith in
          let is = ap (cast_signed w64) same ∙ to_z-neg w64 m (omega arith) in
          inr (far, is ∙ omega (arith, ints, far, h))
    ]

-- a value of a signed type
pub record IsLongSigned (z : ℤ) : Type 0 where
  pub low : neg_ℤ (pos (2 ^ 63)) ≤ℤ z
  pub high : z ≤ℤ pos (2 ^ 63 - 1)

pub long_signed_value : (t : IntTy) (a : ℤ) → IsStored t → is_signed t ≡ true → IsIn t a → IsLongSigned a
long_signed_value (Sized true count) a h e i = let few = power_long count h in record { low = omega (arith, ints, i.at_least, few); high = omega (arith, ints, i.at_most, few) }
long_signed_value (Sized false count) a h e i = absurd (cc)
long_signed_value Comptime a h e i = absurd h

pub signed_is : (a : ℤ) → IsLongSigned a → cast_signed w64 (pattern 64 a) ≡ a
signed_is a h =
    let parts = two_words a in
    elim (read_long (pattern 64 a) (pattern_below 64 a)) [
      | inl (low, is) ↦ is ∙ omega (arith, ints, parts, low, h.low, h.high)
      | inr (far, is) ↦ is ∙ omega (arith, ints, parts, far, pattern_below 64 a, h.low, h.high)
    ]

lt_true : (x y : ℤ) → int_lt x y ≡ true → x <ℤ y
lt_true x y e = grind (arith, ints)

lt_false : (x y : ℤ) → int_lt x y ≡ false → y ≤ℤ x
lt_false x y e = grind (arith, ints)

-- what 64 bits say of a number where they are read with a sign
record IsRead (z r : ℤ) : Type 0 where
  pub turns : ℤ
  pub is : z ≡ r +ℤ turns *ℤ pos (2 ^ 64)
  pub within : IsLongSigned r

read_is : (z : ℤ) → IsRead z (cast_signed w64 (pattern 64 z))
read_is z =
    let parts = two_words z in
    let below = pattern_below 64 z in
    elim (read_long (pattern 64 z) below) [
      | inl (near, is) ↦ record { turns = high z; is = omega (arith, ints, parts, is); within = record { low = omega (arith, ints, is); high = omega (arith, ints, is, near) } }
      | inr (far, is) ↦ record {
        turns = high z +ℤ pos 1;
        is = omega (arith, ints, parts, is);
        within = record { low = omega (arith, ints, is, far); high = omega (arith, ints, is, below) };
      }
    ]

-- two tests that differ
abbrev pub differ : Bool → Bool → Bool
differ s t = not (nat_eq (bit_of s) (bit_of t))

within_long : (z : ℤ) → neg_ℤ (pos (2 ^ 63)) ≤ℤ z → z ≤ℤ pos (2 ^ 63 - 1) → not (is_in (Sized true 64) z) ≡ false
within_long z h k = ap not (test_from_in (Sized true 64) z (record { at_least = h; at_most = k }))

beyond_long : (z : ℤ) → (IsIn (Sized true 64) z → ⊥) → not (is_in (Sized true 64) z) ≡ true
beyond_long z out = ap not (test_from_out (Sized true 64) z out)

signed_sum_for : (s t : Bool) (a b r : ℤ) → IsLongSigned a → IsLongSigned b → IsRead (a +ℤ b) r → int_lt b (pos 0) ≡ s → int_lt r a ≡ t → not (is_in (Sized true 64) (a +ℤ b)) ≡ differ s t
signed_sum_for false false a b r h k read e f =
    let up = lt_false b (pos 0) e in
    let more = lt_false r a f in
    within_long (a +ℤ b) (omega (arith, ints, up, h.low)) (omega (arith, ints, up, more, h.low, h.high, k.high, read.is, read.within.low, read.within.high))
signed_sum_for false true a b r h k read e f =
    let up = lt_false b (pos 0) e in
    let less = lt_true r a f in
    beyond_long (a +ℤ b) (λ i. omega (arith, ints, up, less, h.low, h.high, k.high, read.is, read.within.low, read.within.high, i.at_least, i.at_most))
signed_sum_for true false a b r h k read e f =
    let down = lt_true b (pos 0) e in
    let more = lt_false r a f in
    beyond_long (a +ℤ b) (λ i. omega (arith, ints, down, more, h.low, h.high, k.low, read.is, read.within.low, read.within.high, i.at_least, i.at_most))
signed_sum_for true true a b r h k read e f =
    let down = lt_true b (pos 0) e in
    let less = lt_true r a f in
    within_long (a +ℤ b) (omega (arith, ints, down, less, h.low, h.high, k.low, read.is, read.within.low, read.within.high)) (omega (arith, ints, down, h.high))

pub signed_sum_tells : (a b : ℤ) → IsLongSigned a → IsLongSigned b → differ (int_lt b (pos 0)) (int_lt (cast_signed w64 (pattern 64 (a +ℤ b))) a) ≡ not (is_in (Sized true 64) (a +ℤ b))
signed_sum_tells a b h k =
    let r = cast_signed w64 (pattern 64 (a +ℤ b)) in
    sym (signed_sum_for (int_lt b (pos 0)) (int_lt r a) a b r h k (read_is (a +ℤ b)) refl refl)

signed_difference_for : (s t : Bool) (a b r : ℤ) → IsLongSigned a → IsLongSigned b → IsRead (a -ℤ b) r → int_lt (pos 0) b ≡ s → int_lt r a ≡ t → not (is_in (Sized true 64) (a -ℤ b)) ≡ differ s t
signed_difference_for false false a b r h k read e f =
    let down = lt_false (pos 0) b e in
    let more = lt_false r a f in
    within_long (a -ℤ b) (omega (arith, ints, down, h.low)) (omega (arith, ints, down, more, h.low, h.high, k.low, read.is, read.within.low, read.within.high))
signed_difference_for false true a b r h k read e f =
    let down = lt_false (pos 0) b e in
    let less = lt_true r a f in
    beyond_long (a -ℤ b) (λ i. omega (arith, ints, down, less, h.low, h.high, k.low, read.is, read.within.low, read.within.high, i.at_least, i.at_most))
signed_difference_for true false a b r h k read e f =
    let up = lt_true (pos 0) b e in
    let more = lt_false r a f in
    beyond_long (a -ℤ b) (λ i. omega (arith, ints, up, more, h.low, h.high, k.high, read.is, read.within.low, read.within.high, i.at_least, i.at_most))
signed_difference_for true true a b r h k read e f =
    let up = lt_true (pos 0) b e in
    let less = lt_true r a f in
    within_long (a -ℤ b) (omega (arith, ints, up, less, h.low, h.high, k.high, read.is, read.within.low, read.within.high)) (omega (arith, ints, up, h.high))

pub signed_difference_tells : (a b : ℤ) → IsLongSigned a → IsLongSigned b → differ (int_lt (pos 0) b) (int_lt (cast_signed w64 (pattern 64 (a -ℤ b))) a) ≡ not (is_in (Sized true 64) (a -ℤ b))
signed_difference_tells a b h k =
    let r = cast_signed w64 (pattern 64 (a -ℤ b)) in
    sym (signed_difference_for (int_lt (pos 0) b) (int_lt r a) a b r h k (read_is (a -ℤ b)) refl refl)
