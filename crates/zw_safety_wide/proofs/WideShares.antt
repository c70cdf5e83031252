-- Quotients and rests of numbers of 64 bits, and which quotient a signed type lacks.
use Rattle.std.proofs.Common.{◌≡◌, ℕ, zero, suc, ℤ, pos, negsuc, ◌+◌, ◌-◌, ◌*◌, ◌/◌, ◌%◌, ◌^◌, ◌<◌, ◌≤◌, ◌+ℤ◌, ◌-ℤ◌, Bool, true, false, not, refl, sym, ap, ◌∙◌, subst, arith, FitsSigned}
use Rattle.std.specs.Prelude.{nat_lt, int_lt, int_div, int_rem, unsigned_abs, ◌&&◌, ◌||◌, if◌then◌else◌}
use Rattle.std.specs.Ordering.{int_eq}
use Rattle.std.proofs.lemmas.Bool.{ltb-true}
use Rattle.std.proofs.lemmas.Bool.Decides.{Decides-int_eq}
use Rattle.std.proofs.lemmas.Int.{ints, to_z-of_z}
use Rattle.std.proofs.lemmas.Nat.{pow-add}
use Rattle.std.proofs.Math.Nat.{div-le_self, div-mul-le_self, mul-le-mul, mod-eq_of_lt, mod-le, pow-le-pow_right}
use Rattle.std.specs.Int.{w64, cast_signed, cast_unsigned}
use Rattle.zw_num.proofs.BitLemmas.{xor_in}
use Rattle.zw_num.proofs.DivisionLemmas.{is_across, floored_less, floored_same, rest_less, rest_same}
use Rattle.zw_num.proofs.WrappedLemmas.{in_from_test, test_from_in, test_from_out}
use Rattle.zw_num.specs.Arithmetic.{IsIn, is_in, least, pattern, floored, rest_of, bits_xor}
use Rattle.zw_num.specs.declared.int_ty.IntTy.{IntTy}
use Rattle.zw_num.specs.declared.int_ty.IntTy.TheVariants.{Sized, Comptime}
use Rattle.zw_safety_narrow.proofs.CastRuns.{holds_in}
use Rattle.zw_safety_narrow.proofs.Orders.{read}
use Rattle.zw_safety_narrow.proofs.SaturatingRuns.{fits_between, long_of_signed}
use Rattle.zw_safety_narrow.proofs.WordRuns.{both-true}
use Rattle.zw_safety_narrow.specs.CastCode.{holds}
use Rattle.zw_safety_narrow.specs.CompareCode.{is_unsigned}
use Rattle.zw_safety_narrow.specs.Operators.{IsStored}
use Rattle.zw_safety_wide.specs.WideSignedCode.{are_signed_shares, are_wide_shares, quotient_of, remainder_of}
use Rattle.zw_safety_words.proofs.WideAnswers.{IsDivisor}
use Rattle.zw_safety_words.proofs.WideBitRuns.{natural_low, signed_fits}
use Rattle.zw_safety_words.proofs.WideOrderRuns.{fits_long}
use Rattle.zw_safety_words.specs.WideOrderCode.{fits_signed_long, both_fit, both_unsigned}
use Rattle.zw_wasm.specs.declared.module.BinaryOperator.TheVariants.{DivS, DivU, RemS, RemU}
use Rattle.zw_wasm.specs.Numerics.{Gives, DividesByZero, Overflows, binary_of, quotient_in}

-- ---- unsigned numbers

-- a value of an unsigned type
pub record IsNatural (z : ℤ) : Type 0 where
  pub value : ℕ
  pub is : z ≡ pos value
  pub small : value < 2 ^ 64

pub natural : (t : IntTy) (z : ℤ) → IsStored t → IsIn t z → is_unsigned t ≡ true → IsNatural z
natural (Sized false count) (pos n) h i e = record { value = n; is = refl; small = natural_low count n h i }
natural (Sized false count) (negsuc n) h i e = absurd (omega (arith, ints, i.at_least))
natural (Sized true count) z h i e = absurd (cc)
natural Comptime z h i e = absurd h

pub natural_bits : (z : ℤ) (n : IsNatural z) → pattern 64 z ≡ n.value
natural_bits z n = ap (pattern 64) n.is ∙ mod-eq_of_lt n.small

divides_natural : (a b : ℤ) → IsNatural a → IsNatural b → IsDivisor b → binary_of DivU w64 (pattern 64 a) (pattern 64 b) ≡ Gives (pattern 64 (int_div a b))
divides_natural a b na nb divisor =
    let x = na.value in
    let y = nb.value in
    let less = div-le_self x y in
    ap (λ t. if t then DividesByZero else Gives (pattern 64 a / pattern 64 b)) divisor.long
    ∙ ap (λ n. Gives (n / pattern 64 b)) (natural_bits a na) ∙ ap (λ n. Gives (x / n)) (natural_bits b nb)
    ∙ ap (λ n. Gives n) (sym (mod-eq_of_lt (omega (arith, less, na.small))))
    ∙ ap (λ z. Gives (pattern 64 (int_div z (pos y)))) (sym na.is) ∙ ap (λ z. Gives (pattern 64 (int_div a z))) (sym nb.is)

leaves_natural : (a b : ℤ) → IsNatural a → IsNatural b → IsDivisor b → binary_of RemU w64 (pattern 64 a) (pattern 64 b) ≡ Gives (pattern 64 (int_rem a b))
leaves_natural a b na nb divisor =
    let x = na.value in
    let y = nb.value in
    let less = mod-le x y in
    ap (λ t. if t then DividesByZero else Gives (pattern 64 a % pattern 64 b)) divisor.long
    ∙ ap (λ n. Gives (n % pattern 64 b)) (natural_bits a na) ∙ ap (λ n. Gives (x % n)) (natural_bits b nb)
    ∙ ap (λ n. Gives n) (sym (mod-eq_of_lt (omega (arith, less, na.small))))
    ∙ ap (λ z. Gives (pattern 64 (int_rem z (pos y)))) (sym na.is) ∙ ap (λ z. Gives (pattern 64 (int_rem a z))) (sym nb.is)

-- ---- signed numbers

half_long : (z : ℤ) → FitsSigned w64 z → int_lt z (pos (2 ^ 63)) ≡ true
half_long (pos n) h = grind (arith, ints, h.sfits)
half_long (negsuc n) h = refl

pub divides_signed : (a b : ℤ) → FitsSigned w64 a → FitsSigned w64 b → FitsSigned w64 (int_div a b) → IsDivisor b → binary_of DivS w64 (pattern 64 a) (pattern 64 b) ≡ Gives (pattern 64 (int_div a b))
divides_signed a b fa fb fz divisor =
    let z = int_div a b in
    ap (λ t. if t then DividesByZero else quotient_in w64 (int_div (cast_signed w64 (pattern 64 a)) (cast_signed w64 (pattern 64 b)))) divisor.long
    ∙ ap (λ x. quotient_in w64 (int_div x (cast_signed w64 (pattern 64 b)))) (read w64 a fa) ∙ ap (λ y. quotient_in w64 (int_div a y)) (read w64 b fb)
    ∙ ap (λ t. if t then Gives (cast_unsigned w64 z) else Overflows) (half_long z fz) ∙ ap (λ n. Gives n) (long_of_signed z fz)

pub rest_fits : (a b : ℤ) → FitsSigned w64 a → FitsSigned w64 (int_rem a b)
rest_fits (pos a) b h = let less = mod-le a (unsigned_abs b) in fits_between (int_rem (pos a) b) (omega (arith, ints)) (omega (arith, ints, less, h.sfits))
rest_fits (negsuc a) b h = let less = mod-le (suc a) (unsigned_abs b) in fits_between (int_rem (negsuc a) b) (omega (arith, ints, less, h.sfits)) (omega (arith, ints))

pub leaves_signed : (a b : ℤ) → FitsSigned w64 a → FitsSigned w64 b → IsDivisor b → binary_of RemS w64 (pattern 64 a) (pattern 64 b) ≡ Gives (pattern 64 (int_rem a b))
leaves_signed a b fa fb divisor =
    ap (λ t. if t then DividesByZero else Gives (cast_unsigned w64 (int_rem (cast_signed w64 (pattern 64 a)) (cast_signed w64 (pattern 64 b))))) divisor.long
    ∙ ap (λ y. Gives (cast_unsigned w64 (int_rem y (cast_signed w64 (pattern 64 b))))) (read w64 a fa) ∙ ap (λ y. Gives (cast_unsigned w64 (int_rem a y))) (read w64 b fb)
    ∙ ap (λ n. Gives n) (long_of_signed (int_rem a b) (rest_fits a b fa))

-- ---- the types that are served

-- operands that are values of an i64, and a signed result with a value beside 0
pub record AreSigned (left right to : IntTy) (a b : ℤ) : Type 0 where
  pub count : ℕ
  pub is : to ≡ Sized true count
  pub some : 0 < count
  pub left_fits : FitsSigned w64 a
  pub right_fits : FitsSigned w64 b
  pub left_in : IsIn (Sized true count) a

either_true : (p q : Bool) → (p || q) ≡ true → p ≡ false → q ≡ true
either_true true q e f = absurd (cc)
either_true false q e f = e

signed_from : (left right to : IntTy) (a b : ℤ) → IsStored left → IsStored right → IsIn left a → IsIn right b → holds to left ≡ true → are_signed_shares left right to ≡ true → AreSigned left right to a b
signed_from left right (Sized true count) a b hl hr il ir h e =
    let outer = both-true (both_fit left right) (nat_lt 0 count) e in
    let inner = both-true (fits_signed_long left) (fits_signed_long right) outer.0 in
    record {
      count = count;
      is = refl;
      some = ltb-true 0 count outer.1;
      left_fits = fits_long left a hl il inner.0;
      right_fits = fits_long right b hr ir inner.1;
      left_in = holds_in (Sized true count) left a h il;
    }
signed_from left right (Sized false count) a b hl hr il ir h e = absurd (let outer = both-true (both_fit left right) false e in let no = outer.1 in cc)
signed_from left right Comptime a b hl hr il ir h e = absurd (let outer = both-true (both_fit left right) false e in let no = outer.1 in cc)

pub signed : (left right to : IntTy) (a b : ℤ) → IsStored left → IsStored right → IsIn left a → IsIn right b → are_wide_shares left right to ≡ true → both_unsigned left right ≡ false → AreSigned left right to a b
signed left right to a b hl hr il ir e u =
    let parts = both-true (holds to left) (both_unsigned left right || are_signed_shares left right to) e in
    signed_from left right to a b hl hr il ir parts.0 (either_true (both_unsigned left right) (are_signed_shares left right to) parts.1 u)

pub record AreNatural (left right to : IntTy) (a b : ℤ) : Type 0 where
  pub left_is : IsNatural a
  pub right_is : IsNatural b
  pub quotient_in : is_in to (int_div a b) ≡ true

quotient_in_type : (left to : IntTy) (x y : ℕ) → is_unsigned left ≡ true → holds to left ≡ true → IsIn left (pos x) → is_in to (pos (x / y)) ≡ true
quotient_in_type (Sized false count) to x y u h i =
    let less = div-le_self x y in
    let inside : IsIn (Sized false count) (pos (x / y)) = record { at_least = omega (arith, ints); at_most = omega (arith, ints, i.at_most, less) } in
    test_from_in to (pos (x / y)) (holds_in to (Sized false count) (pos (x / y)) h inside)
quotient_in_type (Sized true count) to x y u h i = absurd (cc)
quotient_in_type Comptime to x y u h i = absurd (cc)

natural_quotient : (left to : IntTy) (a b : ℤ) → IsNatural a → IsNatural b → is_unsigned left ≡ true → holds to left ≡ true → IsIn left a → is_in to (int_div a b) ≡ true
natural_quotient left to a b na nb u h i =
    ap (λ z. is_in to (int_div z b)) na.is ∙ ap (λ z. is_in to (int_div (pos na.value) z)) nb.is
    ∙ quotient_in_type left to na.value nb.value u h (subst (IsIn left) na.is i)

pub naturals : (left right to : IntTy) (a b : ℤ) → IsStored left → IsStored right → IsIn left a → IsIn right b → are_wide_shares left right to ≡ true → both_unsigned left right ≡ true → AreNatural left right to a b
naturals left right to a b hl hr il ir e u =
    let parts = both-true (holds to left) (both_unsigned left right || are_signed_shares left right to) e in
    let both = both-true (is_unsigned left) (is_unsigned right) u in
    let na = natural left a hl il both.0 in
    let nb = natural right b hr ir both.1 in
    record { left_is = na; right_is = nb; quotient_in = natural_quotient left to a b na nb both.0 parts.0 il }

-- ---- the quotient that a signed type lacks

two_at_least : (count : ℕ) → 0 < count → 2 ≤ 2 ^ count
two_at_least count h = let one : 1 ≤ count = omega (arith, h) in let less : 2 ^ 1 ≤ 2 ^ count = pow-le-pow_right {n = 2} (omega arith) one in omega (arith, less)

power_more : (n : ℕ) → 2 ^ (n + 1) ≡ 2 * 2 ^ n
power_more n = omega (arith, pow-add 2 n 1)

-- half of a power of two is whole
pub even_power : (count : ℕ) → 0 < count → 2 ^ count ≡ 2 * 2 ^ (count - 1)
even_power count h =
    let same : count ≡ count - 1 + 1 = omega (arith, h) in
    ap (λ n. 2 ^ n) same ∙ power_more (count - 1)

lacks_quotient : (count : ℕ) (a : ℤ) → 0 < count → a ≡ least (Sized true count) → IsIn (Sized true count) (int_div a (negsuc 0)) → ⊥
lacks_quotient count (pos x) h e i = let some = two_at_least count h in omega (arith, ints, e, some)
lacks_quotient count (negsuc x) h e i = let some = two_at_least count h in let even = even_power count h in omega (arith, ints, e, some, even, i.at_most)

lacks_floor : (count : ℕ) (a : ℤ) → 0 < count → a ≡ least (Sized true count) → IsIn (Sized true count) (floored a (negsuc 0)) → ⊥
lacks_floor count (pos x) h e i = let some = two_at_least count h in omega (arith, ints, e, some)
lacks_floor count (negsuc x) h e i = let some = two_at_least count h in let even = even_power count h in omega (arith, ints, e, some, even, i.at_most)

-- by a divisor from 2 on a quotient is at most half
half_quotient : (x y : ℕ) → 2 * (x / suc (suc y)) ≤ x
half_quotient x y =
    let q = x / suc (suc y) in
    let whole = div-mul-le_self x (suc (suc y)) in
    let same : q ≤ q = omega arith in
    let two : 2 ≤ suc (suc y) = omega arith in
    let less : q * 2 ≤ q * suc (suc y) = mul-le-mul same two in
    omega (arith, whole, less)

by_one : (x : ℕ) → x / 1 ≡ x
by_one x = omega arith

quotient_both_below : (count x y : ℕ) → 0 < count → (negsuc x ≡ least (Sized true count) → negsuc y ≡ negsuc 0 → ⊥) → IsIn (Sized true count) (negsuc x) → IsIn (Sized true count) (pos (suc x / suc y))
quotient_both_below count x zero h n i =
    let some = two_at_least count h in
    let one = by_one (suc x) in
    let apart : negsuc x ≡ least (Sized true count) → ⊥ = λ e. n e refl in
    let less : suc x < 2 ^ count / 2 = grind (arith, ints, i.at_least, apart) in
    record { at_least = omega (arith, ints); at_most = omega (arith, ints, one, less) }
quotient_both_below count x (suc y) h n i =
    let some = two_at_least count h in
    let half = half_quotient (suc x) y in
    record { at_least = omega (arith, ints); at_most = omega (arith, ints, i.at_least, half, some) }

has_quotient : (count : ℕ) (a b : ℤ) → 0 < count → (a ≡ least (Sized true count) → b ≡ negsuc 0 → ⊥) → IsIn (Sized true count) a → IsIn (Sized true count) (int_div a b)
has_quotient count (pos x) (pos y) h n i = let less = div-le_self x y in record { at_least = omega (arith, ints); at_most = omega (arith, ints, less, i.at_most) }
has_quotient count (pos x) (negsuc y) h n i = let less = div-le_self x (suc y) in record { at_least = omega (arith, ints, less, i.at_most); at_most = omega (arith, ints) }
has_quotient count (negsuc x) (pos y) h n i = let less = div-le_self (suc x) y in record { at_least = omega (arith, ints, less, i.at_least); at_most = omega (arith, ints) }
has_quotient count (negsuc x) (negsuc y) h n i = quotient_both_below count x y h n i

has_floor : (count : ℕ) (a b : ℤ) → 0 < count → (a ≡ least (Sized true count) → b ≡ negsuc 0 → ⊥) → IsIn (Sized true count) a → IsIn (Sized true count) (floored a b)
has_floor count (pos x) (pos y) h n i = let less = div-le_self x y in record { at_least = omega (arith, ints); at_most = omega (arith, ints, less, i.at_most) }
has_floor count (pos zero) (negsuc y) h n i = let less = div-le_self 0 (suc y) in record { at_least = omega (arith, ints, less); at_most = omega (arith, ints, less) }
has_floor count (pos (suc x)) (negsuc y) h n i = let less = div-le_self x (suc y) in record { at_least = omega (arith, ints, less, i.at_most); at_most = omega (arith, ints) }
has_floor count (negsuc x) (pos y) h n i = let less = div-le_self x y in record { at_least = omega (arith, ints, less, i.at_least); at_most = omega (arith, ints) }
has_floor count (negsuc x) (negsuc y) h n i = quotient_both_below count x y h n i

-- the test for it
abbrev pub is_lacking : IntTy → ℤ → ℤ → Bool
is_lacking to a b = int_eq a (least to) && int_eq b (negsuc 0)

both_so : (p q : Bool) → p ≡ true → q ≡ true → (p && q) ≡ true
both_so p q e f = ap (λ t. t && q) e ∙ f

not_both : (to : IntTy) (a b : ℤ) → is_lacking to a b ≡ false → a ≡ least to → b ≡ negsuc 0 → ⊥
not_both to a b e f g =
    let yes = both_so (int_eq a (least to)) (int_eq b (negsuc 0)) ((Decides-int_eq a (least to)).1 f) ((Decides-int_eq b (negsuc 0)).1 g) in
    cc

lacking_for : (t : Bool) (count : ℕ) (a b z : ℤ) → is_lacking (Sized true count) a b ≡ t → ((a ≡ least (Sized true count)) → b ≡ negsuc 0 → IsIn (Sized true count) z → ⊥) →
    ((a ≡ least (Sized true count) → b ≡ negsuc 0 → ⊥) → IsIn (Sized true count) z) → t ≡ not (is_in (Sized true count) z)
lacking_for true count a b z e lacks has =
    let to = Sized true count in
    let parts = both-true (int_eq a (least to)) (int_eq b (negsuc 0)) e in
    sym (ap not (test_from_out to z (lacks ((Decides-int_eq a (least to)).0 parts.0) ((Decides-int_eq b (negsuc 0)).0 parts.1))))
lacking_for false count a b z e lacks has =
    let to = Sized true count in
    sym (ap not (test_from_in to z (has (not_both to a b e))))

pub lacking_quotient : (count : ℕ) (a b : ℤ) → 0 < count → IsIn (Sized true count) a → is_lacking (Sized true count) a b ≡ not (is_in (Sized true count) (int_div a b))
lacking_quotient count a b h i =
    let to = Sized true count in
    lacking_for (is_lacking to a b) count a b (int_div a b) refl
    (λ e f k. lacks_quotient count a h e (subst (λ y. IsIn to (int_div a y)) f k)) (λ n. has_quotient count a b h n i)

pub lacking_floor : (count : ℕ) (a b : ℤ) → 0 < count → IsIn (Sized true count) a → is_lacking (Sized true count) a b ≡ not (is_in (Sized true count) (floored a b))
lacking_floor count a b h i =
    let to = Sized true count in
    lacking_for (is_lacking to a b) count a b (floored a b) refl
    (λ e f k. lacks_floor count a h e (subst (λ y. IsIn to (floored a y)) f k)) (λ n. has_floor count a b h n i)

-- ---- the rest that lies across

pub across_is : (r b : ℤ) → (b ≡ pos 0 → ⊥) → (int_lt (bits_xor r b) (pos 0) && not (int_eq r (pos 0))) ≡ is_across r b
across_is (pos zero) (pos y) n = grind (arith, ints)
across_is (pos zero) (negsuc y) n = grind (arith, ints)
across_is (pos (suc x)) (pos y) n = grind (arith, ints)
across_is (pos (suc x)) (negsuc y) n = grind (arith, ints)
across_is (negsuc x) (pos zero) n = absurd (n refl)
across_is (negsuc x) (pos (suc y)) n = grind (arith, ints)
across_is (negsuc x) (negsuc y) n = grind (arith, ints)

long_in : (z : ℤ) → FitsSigned w64 z → IsIn (Sized true 64) z
long_in (pos n) h = record { at_least = omega (arith, ints); at_most = omega (arith, ints, h.sfits) }
long_in (negsuc n) h = record { at_least = omega (arith, ints, h.sfits); at_most = omega (arith, ints) }

pub xor_fits : (a b : ℤ) → FitsSigned w64 a → FitsSigned w64 b → FitsSigned w64 (bits_xor a b)
xor_fits a b fa fb = signed_fits 64 (bits_xor a b) (omega arith) (xor_in (Sized true 64) a b (long_in a fa) (long_in b fb))

-- ---- the operators by the types

quotient_for : (u : Bool) (left right to : IntTy) (a b : ℤ) → both_unsigned left right ≡ u → IsStored left → IsStored right → IsStored to → IsIn left a → IsIn right b → are_wide_shares left right to ≡ true → is_in to (int_div a b) ≡ true → IsDivisor b → binary_of (if u then DivU else DivS) w64 (pattern 64 a) (pattern 64 b) ≡ Gives (pattern 64 (int_div a b))
quotient_for true left right to a b u hl hr ht il ir e there divisor = let n = naturals left right to a b hl hr il ir e u in divides_natural a b n.left_is n.right_is divisor
quotient_for false left right to a b u hl hr ht il ir e there divisor =
    let n = signed left right to a b hl hr il ir e u in
    let few : IsStored (Sized true n.count) = subst IsStored n.is ht in
    divides_signed a b n.left_fits n.right_fits (signed_fits n.count (int_div a b) few (subst (λ t. IsIn t (int_div a b)) n.is (in_from_test to (int_div a b) there))) divisor

pub quotient_gives : (left right to : IntTy) (a b : ℤ) → IsStored left → IsStored right → IsStored to → IsIn left a → IsIn right b → are_wide_shares left right to ≡ true → is_in to (int_div a b) ≡ true → IsDivisor b → binary_of (quotient_of left right) w64 (pattern 64 a) (pattern 64 b) ≡ Gives (pattern 64 (int_div a b))
quotient_gives left right to a b hl hr ht il ir e there divisor = quotient_for (both_unsigned left right) left right to a b refl hl hr ht il ir e there divisor

remainder_for : (u : Bool) (left right to : IntTy) (a b : ℤ) → both_unsigned left right ≡ u → IsStored left → IsStored right → IsIn left a → IsIn right b → are_wide_shares left right to ≡ true → IsDivisor b → binary_of (if u then RemU else RemS) w64 (pattern 64 a) (pattern 64 b) ≡ Gives (pattern 64 (int_rem a b))
remainder_for true left right to a b u hl hr il ir e divisor = let n = naturals left right to a b hl hr il ir e u in leaves_natural a b n.left_is n.right_is divisor
remainder_for false left right to a b u hl hr il ir e divisor = let n = signed left right to a b hl hr il ir e u in leaves_signed a b n.left_fits n.right_fits divisor

pub remainder_gives : (left right to : IntTy) (a b : ℤ) → IsStored left → IsStored right → IsIn left a → IsIn right b → are_wide_shares left right to ≡ true → IsDivisor b → binary_of (remainder_of left right) w64 (pattern 64 a) (pattern 64 b) ≡ Gives (pattern 64 (int_rem a b))
remainder_gives left right to a b hl hr il ir e divisor = remainder_for (both_unsigned left right) left right to a b refl hl hr il ir e divisor

natural_floor : (a b : ℤ) → IsNatural a → IsNatural b → int_div a b ≡ floored a b
natural_floor a b na nb =
    ap (λ z. int_div z b) na.is ∙ ap (λ z. int_div (pos na.value) z) nb.is ∙ ap (λ z. floored z (pos nb.value)) (sym na.is) ∙ ap (λ z. floored a z) (sym nb.is)

-- of unsigned numbers the quotient is rounded down
pub natural_floor_is : (left right to : IntTy) (a b : ℤ) → AreNatural left right to a b → int_div a b ≡ floored a b
natural_floor_is left right to a b n = natural_floor a b n.left_is n.right_is

-- ---- rounded down

pub floored_rest_for : (t : Bool) (a b : ℤ) → (b ≡ pos 0 → ⊥) → is_across (int_rem a b) b ≡ t → (if t then int_rem a b +ℤ b else int_rem a b) ≡ rest_of a b (floored a b)
floored_rest_for true a b n e = sym (rest_less a b n e)
floored_rest_for false a b n e = sym (rest_same a b n e)

pub floored_for : (t : Bool) (a b : ℤ) → (b ≡ pos 0 → ⊥) → is_across (int_rem a b) b ≡ t → (int_div a b -ℤ (if t then pos 1 else pos 0)) ≡ floored a b
floored_for true a b n e = sym (floored_less a b n e)
floored_for false a b n e = let none : int_div a b -ℤ pos 0 ≡ int_div a b = omega (arith, ints) in none ∙ sym (floored_same a b n e)

-- ---- the least value in 64 bits

read_back : (z : ℤ) → FitsSigned w64 z → cast_signed w64 (cast_unsigned w64 z) ≡ z
read_back z h = to_z-of_z w64 z h

-- from the greatest one on the other side of 0
pub least_read : (bits : ℕ) (g : ℤ) → 0 < bits → 2 ^ bits ≤ 2 ^ 64 → g ≡ pos ((2 ^ bits - 1) / 2) →
    cast_signed w64 (cast_unsigned w64 (cast_signed w64 (cast_unsigned w64 (pos 0 -ℤ cast_signed w64 (cast_unsigned w64 g))) -ℤ pos 1)) ≡ least (Sized true bits)
least_read bits g h few e =
    let even = even_power bits h in
    let some = two_at_least bits h in
    let one = read_back g (fits_between g (omega (arith, ints, e)) (omega (arith, ints, e, few))) in
    let two = read_back (pos 0 -ℤ g) (fits_between (pos 0 -ℤ g) (omega (arith, ints, e, few)) (omega (arith, ints, e))) in
    let three = read_back (pos 0 -ℤ g -ℤ pos 1) (fits_between (pos 0 -ℤ g -ℤ pos 1) (omega (arith, ints, e, few, even)) (omega (arith, ints, e))) in
    ap (λ x. cast_signed w64 (cast_unsigned w64 (cast_signed w64 (cast_unsigned w64 (pos 0 -ℤ x)) -ℤ pos 1))) one
    ∙ ap (λ x. cast_signed w64 (cast_unsigned w64 (x -ℤ pos 1))) two ∙ three ∙ omega (arith, ints, e, even, some)
