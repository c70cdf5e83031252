-- Comparisons of numbers by their bits in 32 and 64.
use Rattle.std.proofs.Common.{◌≡◌, ℕ, ◌^◌, ◌<◌, ◌≤◌, ℤ, pos, negsuc, Bool, true, false, not, refl, sym, ap, ◌∙◌, arith, FitsSigned}
use Rattle.std.specs.Prelude.{nat_eq, int_lt, int_le, if◌then◌else◌}
use Rattle.std.proofs.lemmas.Bool.Decides.{same_from_decides, Decides-eqb, Decides-int_eq}
use Rattle.std.proofs.lemmas.Int.{ints, int_wrap_fits}
use Rattle.std.proofs.Math.Nat.{pow-le-pow_right, mod-eq_of_lt}
use Rattle.std.specs.Int.{Width, w32, w64, cast_signed, int_min}
use Rattle.std.specs.Ordering.{int_eq}
use Rattle.zw_num.specs.Arithmetic.{IsIn, pattern}
use Rattle.zw_num.specs.declared.int_ty.IntTy.{IntTy}
use Rattle.zw_num.specs.declared.int_ty.IntTy.TheVariants.{Sized, Comptime}
use Rattle.zw_safety_narrow.proofs.Words.{IsWord, read_bits, fits_signed, word-narrow}
use Rattle.zw_safety_narrow.specs.CompareCode.{is_unsigned}
use Rattle.zw_safety_narrow.specs.CompareCode.{fits_signed as reads_signed}
use Rattle.zw_safety_narrow.specs.Operators.{IsNarrow}
use Rattle.zw_wasm.specs.declared.module.Comparison.{Comparison}
use Rattle.zw_wasm.specs.declared.module.Comparison.TheVariants.{Eq, Ne, LtS, LtU, GtS, GtU, LeS, LeU, GeS, GeU}
use Rattle.zw_wasm.specs.Numerics.{is_related}
use mir.Val.{bits}

-- a number that is read with its sign
pub read : (w : Width) (z : ℤ) → FitsSigned w z → cast_signed w (pattern (bits w) z) ≡ z
read w z h = read_bits w z ∙ int_wrap_fits w z h

-- two comparisons of bits, with signs and without, and the test of numbers that they are
pub record Relation (signed unsigned : Comparison) (test : ℤ → ℤ → Bool) : Type 0 where
  pub by_sign : (w : Width) (a b : ℤ) → FitsSigned w a → FitsSigned w b → is_related signed w (pattern (bits w) a) (pattern (bits w) b) ≡ test a b
  pub by_none : (w : Width) (a b : ℕ) → is_related unsigned w a b ≡ test (pos a) (pos b)

of_both : (f : ℤ → ℤ → Bool) (w : Width) (a b : ℤ) → FitsSigned w a → FitsSigned w b → f (cast_signed w (pattern (bits w) a)) (cast_signed w (pattern (bits w) b)) ≡ f a b
of_both f w a b h k = ap (λ x. f x (cast_signed w (pattern (bits w) b))) (read w a h) ∙ ap (f a) (read w b k)

equal_bits : (w : Width) (a b : ℤ) → FitsSigned w a → FitsSigned w b → nat_eq (pattern (bits w) a) (pattern (bits w) b) ≡ int_eq a b
equal_bits w a b h k =
    let p = pattern (bits w) a in
    let q = pattern (bits w) b in
    let test = Decides-eqb p q in
    same_from_decides {P = a ≡ b} (nat_eq p q) (int_eq a b)
    (λ e. sym (read w a h) ∙ ap (cast_signed w) (test.0 e) ∙ read w b k, λ e. test.1 (ap (pattern (bits w)) e))
    (Decides-int_eq a b)

equal_naturals : (a b : ℕ) → nat_eq a b ≡ int_eq (pos a) (pos b)
equal_naturals a b =
    let test = Decides-eqb a b in
    same_from_decides {P = a ≡ b} (nat_eq a b) (int_eq (pos a) (pos b)) test
    (λ e. omega (arith, ints, (Decides-int_eq (pos a) (pos b)).0 e), λ e. (Decides-int_eq (pos a) (pos b)).1 (ap (λ n. pos n) e))

pub equal : Relation Eq Eq (λ a b. int_eq a b)
equal = record { by_sign = equal_bits; by_none = λ w a b. equal_naturals a b }

pub not_equal : Relation Ne Ne (λ a b. not (int_eq a b))
not_equal = record { by_sign = λ w a b h k. ap not (equal_bits w a b h k); by_none = λ w a b. ap not (equal_naturals a b) }

pub less : Relation LtS LtU (λ a b. int_lt a b)
less = record { by_sign = of_both (λ a b. int_lt a b); by_none = λ w a b. refl }

pub less_or_equal : Relation LeS LeU (λ a b. int_le a b)
less_or_equal = record { by_sign = of_both (λ a b. int_le a b); by_none = λ w a b. refl }

pub greater : Relation GtS GtU (λ a b. int_lt b a)
greater = record { by_sign = of_both (λ a b. int_lt b a); by_none = λ w a b. refl }

pub greater_or_equal : Relation GeS GeU (λ a b. int_le b a)
greater_or_equal = record { by_sign = of_both (λ a b. int_le b a); by_none = λ w a b. refl }

-- ---- which numbers are read so

pub fits_word : (t : IntTy) (z : ℤ) → IsNarrow t → IsIn t z → reads_signed t ≡ true → FitsSigned w32 z
fits_word (Sized true count) z h i e = fits_signed count z h i
fits_word (Sized false count) (pos n) h i e =
    let low : count < 32 = grind (arith, e) in
    let lower : count ≤ 31 = omega arith in
    let few : 2 ^ count ≤ 2 ^ 31 = pow-le-pow_right {n = 2} (omega arith) lower in
    record { sfits = omega (arith, ints, i.at_most, few) }
fits_word (Sized false count) (negsuc n) h i e = absurd (omega (arith, ints, i.at_least))
fits_word Comptime z h i e = absurd h

long_of_word : (z : ℤ) → IsWord z → FitsSigned w64 z
long_of_word (pos n) h = record { sfits = omega (arith, ints, h.high) }
long_of_word (negsuc n) h = record { sfits = omega (arith, ints, h.low) }

pub fits_long : (t : IntTy) (z : ℤ) → IsNarrow t → IsIn t z → FitsSigned w64 z
fits_long t z h i = long_of_word z (word-narrow t z h i)

-- a number of an unsigned type
pub record IsNatural (z : ℤ) : Type 0 where
  pub value : ℕ
  pub is : z ≡ pos value
  pub small : value < 2 ^ 32

pub natural : (t : IntTy) (z : ℤ) → IsNarrow t → IsIn t z → is_unsigned t ≡ true → IsNatural z
natural (Sized true count) z h i e = absurd (cc)
natural (Sized false count) (pos n) h i e =
    let few : 2 ^ count ≤ 2 ^ 32 = pow-le-pow_right {n = 2} (omega arith) h in
    record { value = n; is = refl; small = omega (arith, ints, i.at_most, few) }
natural (Sized false count) (negsuc n) h i e = absurd (omega (arith, ints, i.at_least))
natural Comptime z h i e = absurd h

pub natural_bits : (z : ℤ) (n : IsNatural z) → pattern 32 z ≡ n.value
natural_bits z n = ap (pattern 32) n.is ∙ mod-eq_of_lt n.small

-- ---- the lesser and the greater of two

lesser_left : (a b : ℤ) → int_lt a b ≡ true → int_min a b ≡ a
lesser_left a b e = grind (arith, ints, e)

lesser_right : (a b : ℤ) → int_lt a b ≡ false → int_min a b ≡ b
lesser_right a b e = grind (arith, ints, e)

lesser_for : (t : Bool) (a b : ℤ) → int_lt a b ≡ t → (if t then a else b) ≡ int_min a b
lesser_for true a b e = sym (lesser_left a b e)
lesser_for false a b e = sym (lesser_right a b e)

pub lesser : (a b : ℤ) → (if int_lt a b then a else b) ≡ int_min a b
lesser a b = lesser_for (int_lt a b) a b refl
