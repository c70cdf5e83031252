-- Products and quotients by powers of two.
use Rattle.std.proofs.Common.{◌≡◌, ℕ, zero, suc, ◌-◌, ◌*◌, ◌/◌, ◌%◌, ◌^◌, ◌<◌, ◌≤◌, ◌⊎◌, inl, inr, ℤ, pos, negsuc, ◌*ℤ◌, ◌≤ℤ◌, ◌<ℤ◌, Result, Ok, Err, Bool, true, false, if◌then◌else◌, refl, ap, sym, ◌∙◌, subst, zero-add, arith, FitsSigned}
use Rattle.std.proofs.lemmas.Int.{ints, to_z_pos}
use Rattle.std.proofs.lemmas.Nat.{one_shl, pow_below, shr_below}
use Rattle.std.proofs.lemmas.Bool.{cases_lt}
use Rattle.std.proofs.Math.Nat.{pow-le-pow_right}
use Rattle.std.specs.Int.{w128, cast_signed, cast_unsigned}
use Rattle.std.specs.Prelude.{unsigned_abs}
use lib.Signed.{mag, shr_z}
use Rattle.std.proofs.Math.IntN.{*ℤ_comm}
use Rattle.zw_num.specs.declared.int_ty.IntTy.{IntTy}
use Rattle.zw_num.specs.declared.int_ty.IntTy.TheVariants.{Sized}
use Rattle.zw_num.specs.declared.num_fault.NumFault.{NumFault}
use Rattle.zw_num.specs.declared.num_fault.NumFault.TheVariants.{ShiftAmount, ShiftBits}
use Rattle.zw_num.specs.Arithmetic.{power, floored, rest_of, without_rest, is_in, is_amount, shifted, wrapped, kept, none_lost, none_dropped}
use Rattle.zw_num.proofs.WrappedLemmas.{read_back}

-- ---- powers

pub power_is : (amount : ℤ) (n : ℕ) → amount ≡ pos n → power amount ≡ pos (2 ^ n)
unfolding power
power_is amount n e = ap (λ (z : ℤ). pos (2 ^ unsigned_abs z)) e

pub natural : (amount : ℤ) → pos 0 ≤ℤ amount → amount ≡ pos (unsigned_abs amount)
natural (pos n) h = refl
natural (negsuc n) h = absurd (omega (arith, ints))

pub low_power : (n : ℕ) → n < 127 → cast_signed w128 (1 * 2 ^ n % 2 ^ 128) ≡ pos (2 ^ n)
low_power n h = ap (cast_signed w128) (one_shl n 128 (omega arith)) ∙ to_z_pos w128 (2 ^ n) (pow_below n 127 h)

-- ---- products

-- A product with 2 ^ 127 or more fits an `i128` at 0, and with 2 ^ 127 itself at -1.
pub too_far : (a : ℤ) (p : ℕ) → 2 ^ 127 ≤ p → FitsSigned w128 (a *ℤ pos p) → (a ≡ pos 0) ⊎ ((a ≡ negsuc 0) × (p ≤ 2 ^ 127))
too_far (pos zero) p h f = inl refl
too_far (pos (suc n)) p h f = absurd (omega (arith, f.sfits))
too_far (negsuc zero) p h f = inr (refl, omega (arith, ints, f.sfits))
too_far (negsuc (suc n)) p h f = absurd (omega (arith, ints, f.sfits))

-- -1 by 2 ^ 127
pub lowest : (a amount : ℤ) → a ≡ negsuc 0 → amount ≡ pos 127 → a *ℤ power amount ≡ negsuc (2 ^ 127 - 1)
lowest a amount e f = ap (λ (z : ℤ). z *ℤ power amount) e ∙ ap (λ (z : ℤ). negsuc 0 *ℤ z) (power_is amount 127 f)

-- where the bits of a and of the amount are neither of the two cases
pub past_end : (a amount : ℤ) → pos 127 ≤ℤ amount → FitsSigned w128 (a *ℤ power amount) → (a ≡ pos 0) ⊎ ((a ≡ negsuc 0) × (amount ≡ pos 127))
past_end a (negsuc n) h f = absurd (omega (arith, ints))
past_end a (pos n) h f =
    let from : 127 ≤ n = omega (arith, ints) in
    let product = subst (λ (z : ℤ). FitsSigned w128 (a *ℤ z)) (power_is (pos n) n refl) f in
    elim (too_far a (2 ^ n) (pow-le-pow_right {n = 2} (omega arith) from) product) [
      | inl none ↦ inl none
      | inr (is, low) ↦
          elim (cases_lt 127 n) [
            | inl more ↦ absurd (let above = pow_below 127 n more in omega arith)
            | inr same ↦ inr (is, ap pos (omega arith))
          ]
    ]

-- ---- quotients

pub floor_shift : (a : ℤ) (p : ℕ) → shr_z a p ≡ floored a (pos p)
floor_shift (pos a) p = refl
floor_shift (negsuc a) p = refl

-- a number below a power of two has the quotient 0
no_times : (a n : ℕ) → a < 2 ^ n → a / 2 ^ n ≡ 0
no_times a n h = let some = shr_below a 0 n (subst (λ (k : ℕ). a < 2 ^ k) (sym (zero-add n)) h) in omega arith

pub floor_far : (a : ℤ) (n : ℕ) → mag a < 2 ^ 127 → 127 ≤ n → shr_z a (2 ^ 127) ≡ floored a (pos (2 ^ n))
floor_far (pos a) n f h =
    let more : 2 ^ 127 ≤ 2 ^ n = pow-le-pow_right {n = 2} (omega arith) h in
    ap pos (no_times a 127 f ∙ sym (no_times a n (omega arith)))
floor_far (negsuc a) n f h =
    let more : 2 ^ 127 ≤ 2 ^ n = pow-le-pow_right {n = 2} (omega arith) h in
    ap negsuc (no_times a 127 f ∙ sym (no_times a n (omega arith)))

-- ---- what is left

pub none_left : (r : ℤ) (fault : NumFault) (answer : Result ℤ NumFault) → r ≡ pos 0 → without_rest r fault answer ≡ answer
none_left r fault answer e = ap (λ (z : ℤ). without_rest z fault answer) e

pub some_left : (r : ℤ) (fault : NumFault) (answer : Result ℤ NumFault) → (r ≡ pos 0 → ⊥) → without_rest r fault answer ≡ Err fault
some_left (pos zero) fault answer n = absurd (n refl)
some_left (pos (suc k)) fault answer n = refl
some_left (negsuc k) fault answer n = refl

-- ---- the answers of shifts

pub shift_read_back : (a b : ℤ) → mag a < 2 ^ 127 → mag b < 2 ^ 127 → cast_signed w128 (cast_unsigned w128 a) *ℤ power (cast_signed w128 (cast_unsigned w128 b)) ≡ a *ℤ power b
shift_read_back a b f g = ap (λ (x : ℤ). x *ℤ power (cast_signed w128 (cast_unsigned w128 b))) (read_back a f) ∙ ap (λ (x : ℤ). a *ℤ power x) (read_back b g)

pub amount_taken : (ty : IntTy) (b : ℤ) (answer : Result ℤ NumFault) → is_amount ty b ≡ true → shifted ty b answer ≡ answer
amount_taken ty b answer e = ap (λ (t : Bool). if t then answer else Err ShiftAmount) e

pub keeps : (ty : IntTy) (signed : Bool) (bits : ℕ) (r z : ℤ) → ty ≡ Sized signed bits → r ≡ wrapped ty z → Ok r ≡ kept ty z
keeps ty signed bits r z is e = ap Ok (e ∙ ap (λ (t : IntTy). wrapped t z) is) ∙ sym (ap (λ (t : IntTy). kept t z) is)

pub loses : (ty : IntTy) (signed : Bool) (bits : ℕ) (z : ℤ) → ty ≡ Sized signed bits → is_in ty z ≡ false → Err ShiftBits ≡ none_lost ty z
loses ty signed bits z is e = sym (ap (λ (t : IntTy). none_lost t z) is ∙ ap (λ (t : Bool). if t then Ok z else Err ShiftBits) (sym (ap (λ (t : IntTy). is_in t z) is) ∙ e))

pub drops_none : (a p q : ℤ) → q ≡ floored a p → q *ℤ p ≡ a → Ok q ≡ none_dropped a p
drops_none a p q e f =
    let turned = *ℤ_comm p q in
    let nothing : rest_of a p q ≡ pos 0 = omega (arith, ints) in
    sym (none_left (rest_of a p (floored a p)) ShiftBits (Ok (floored a p)) (ap (rest_of a p) (sym e) ∙ nothing) ∙ ap Ok (sym e))

pub drops_some : (a p q : ℤ) → q ≡ floored a p → (q *ℤ p ≡ a → ⊥) → Err ShiftBits ≡ none_dropped a p
drops_some a p q e n =
    sym (some_left (rest_of a p (floored a p)) ShiftBits (Ok (floored a p)) (λ nothing.
    let left : rest_of a p q ≡ pos 0 = ap (rest_of a p) e ∙ nothing in
    let turned = *ℤ_comm p q in n (omega (arith, ints))))

-- a product with a power of two is on the same side of 0
below_zero_by : (a : ℤ) (p : ℕ) → a <ℤ pos 0 → (a *ℤ pos p) ≤ℤ pos 0
below_zero_by (pos n) p h = absurd (omega (arith, ints))
below_zero_by (negsuc n) p h = omega (arith, ints)

pub below_zero : (a b : ℤ) → a <ℤ pos 0 → (a *ℤ power b) ≤ℤ pos 0
unfolding power
below_zero a b h = below_zero_by a (2 ^ unsigned_abs b) h

from_zero_by : (a : ℤ) (p : ℕ) → pos 0 ≤ℤ a → pos 0 ≤ℤ (a *ℤ pos p)
from_zero_by (pos n) p h = omega (arith, ints)
from_zero_by (negsuc n) p h = absurd (omega (arith, ints))

pub from_zero : (a b : ℤ) → pos 0 ≤ℤ a → pos 0 ≤ℤ (a *ℤ power b)
unfolding power
from_zero a b h = from_zero_by a (2 ^ unsigned_abs b) h
