-- What the code of quotients and rests does when it runs.
use Rattle.std.proofs.Common.{◌≡◌, ℕ, zero, suc, ℤ, pos, negsuc, ◌+◌, ◌-◌, ◌/◌, ◌%◌, ◌^◌, ◌<◌, ◌≤◌, ◌≤ℤ◌, Bool, true, false, not, List, [], ◌∷◌, ◌++◌, Ok, Err, refl, sym, ap, ◌∙◌, subst, arith, lit≤, lit<, FitsSigned}
use Rattle.std.specs.Prelude.{nat_eq, int_lt, int_div, int_rem, nat_abs, ◌&&◌, if◌then◌else◌}
use Rattle.std.proofs.lemmas.Int.{ints}
use Rattle.std.proofs.Math.Nat.{div-le_self, mod-eq_of_lt}
use Rattle.std.specs.Int.{w32, w64, cast_signed, cast_unsigned}
use Rattle.zw_num.proofs.DivisionLemmas.{rest_is}
use Rattle.zw_num.proofs.WrappedLemmas.{test_from_in}
use Rattle.zw_num.specs.Arithmetic.{IsIn, is_in, exact, divided, truncated, rest_of, pattern}
use Rattle.zw_num.specs.declared.int_ty.IntTy.{IntTy}
use Rattle.zw_num.specs.declared.int_ty.IntTy.TheVariants.{Sized, Comptime}
use Rattle.zw_num.specs.declared.num_fault.NumFault.TheVariants.{Overflow, DivZero}
use Rattle.zw_safety_narrow.proofs.CastRuns.{Checks, word, tested-checks, few-moves, holds_in}
use Rattle.zw_safety_narrow.proofs.Going.{Breaks, moves, breaks, andthen, behind, before, moves-is_zero, panics}
use Rattle.zw_safety_narrow.proofs.Locals.{keeps-same, keeps-set}
use Rattle.zw_safety_narrow.proofs.NarrowRuns.{EndsOn, long_kept, long-there, long-count, kept-longs, above-few, on_words, steps-extended, in_range_or-passes, in_range_or-fails}
use Rattle.zw_safety_narrow.proofs.OrderRuns.{Leads, leads, leads-then, words, ends_with, has-scratch}
use Rattle.zw_safety_narrow.proofs.Orders.{IsNatural, read, fits_long, natural, natural_bits}
use Rattle.zw_safety_narrow.proofs.Pieces.{having, steps-get, steps-set, steps-long, steps-word, steps-wrap}
use Rattle.zw_safety_narrow.proofs.WordRuns.{both-true}
use Rattle.zw_safety_narrow.proofs.Words.{IsWord, IsLong, word-narrow, wrap_long}
use Rattle.zw_safety_narrow.specs.CastCode.{holds}
use Rattle.zw_safety_narrow.specs.Checked.{HasScratch, HasPanicState}
use Rattle.zw_safety_narrow.specs.DivisionCode.{is_zero, divisor_tested, are_unsigned, quotient_code, rest_code}
use Rattle.zw_safety_narrow.specs.CompareCode.{is_unsigned}
use Rattle.zw_safety_narrow.specs.NarrowCode.{extended, exact_code_or, exact_code}
use Rattle.zw_safety_narrow.specs.Operators.{IsNarrow}
use Rattle.zw_session.specs.Causes.{integer_overflow}
use Rattle.zw_wasm.specs.declared.module.BinaryOperator.{BinaryOperator}
use Rattle.zw_wasm.specs.declared.module.BinaryOperator.TheVariants.{DivS, DivU, RemS, RemU}
use Rattle.zw_wasm.specs.declared.module.Conversion.TheVariants.{Wrap}
use Rattle.zw_wasm.specs.declared.module.Instr.{Instr}
use Rattle.zw_wasm.specs.declared.module.Instr.TheVariants.{LocalGet, Binary, Convert}
use Rattle.zw_wasm.specs.declared.module.Module.{Module}
use Rattle.zw_wasm.specs.declared.module.ValType.TheVariants as ty
use Rattle.zw_wasm.specs.declared.num.Num.{Num}
use Rattle.zw_wasm.specs.declared.num.Num.TheVariants.{I32, I64}
use Rattle.zw_wasm.specs.Numerics.{Gives, DividesByZero, Overflows, binary_of, quotient_in}
use Rattle.zw_wasm.specs.Reduction.{Config}
use Rattle.zw_wasm.specs.Signature.{View}

-- ---- a result in 64 bits, where it is exact, for two operands

-- a piece that leaves the bits of a number, or tells a cause, by a test
pub record Computes (m : Module) (v : View) (c : Config) (is : List Instr) (s : ℕ) (a b z : ℤ) (os locals : List Num) (t : Bool) (cause : ℕ) : Type 0 where
  pub passes : t ≡ true → Leads m v c is s (words a b os) (word z os) locals 30
  pub fails : t ≡ false → Breaks m v c is (having (words a b os) locals) cause 30

pub exact_computes_or : (m : Module) (v : View) (c : Config) (cause : ℕ) (o : BinaryOperator) (s : ℕ) (left right to : IntTy) (a b z : ℤ) (os locals : List Num) → IsNarrow left → IsNarrow right → IsNarrow to → IsIn left a → IsIn right b → HasScratch s locals → HasPanicState c.world.store → binary_of o w64 (pattern 64 a) (pattern 64 b) ≡ Gives (pattern 64 z) → IsLong z → Computes m v c (exact_code_or cause o left right to s) s a b z os locals (is_in to z) cause
exact_computes_or m v c cause o s left right to a b z os locals hl hr ht il ir scratch state gives long =
    let mid = long_kept s b locals in
    let after = long_kept s z mid in
    let there = long-count s b locals scratch in
    let x = I64 (pattern 64 z) in
    let both = moves (steps-extended m v c left right s a b os locals hl hr il ir scratch) in
    let result = andthen (moves (steps-long m v c o (pattern 64 a) (pattern 64 b) (pattern 64 z) os mid gives))
    (andthen (moves (steps-set m v c (s + 4) x os mid (omega (arith, there)))) (moves (steps-get m v c (s + 4) x os after (long-there s z mid there)))) in
    let few = above-few to in
    record {
      passes = λ e. record {
        after = after;
        keeps = kept-longs s b z locals;
        runs = (
            let all = andthen both (andthen result (andthen (moves (in_range_or-passes m v c cause to z os after ht long e))
            (andthen (moves (steps-get m v c (s + 4) x os after (long-there s z mid there))) (moves (steps-wrap m v c (pattern 64 z) (pattern 32 z) os after (wrap_long z)))))) in
            record { count = all.count; few = omega (arith, all.few, few); steps = all.steps }
            );
      };
      fails = λ e.
          let all = behind both (behind result (before (breaks (in_range_or-fails m v c cause to z os after ht long e state)) (LocalGet (s + 4) ∷ Convert Wrap ∷ []))) in
          record { count = all.count; few = omega (arith, all.few, few); fails = all.fails };
    }

pub exact_computes : (m : Module) (v : View) (c : Config) (o : BinaryOperator) (s : ℕ) (left right to : IntTy) (a b z : ℤ) (os locals : List Num) → IsNarrow left → IsNarrow right → IsNarrow to → IsIn left a → IsIn right b → HasScratch s locals → HasPanicState c.world.store → binary_of o w64 (pattern 64 a) (pattern 64 b) ≡ Gives (pattern 64 z) → IsLong z → Computes m v c (exact_code o left right to s) s a b z os locals (is_in to z) integer_overflow
exact_computes m v c o s left right to a b z os locals hl hr ht il ir scratch state gives long =
    exact_computes_or m v c integer_overflow o s left right to a b z os locals hl hr ht il ir scratch state gives long

-- ---- the divisor

zero_word : (n : ℕ) → suc n < 2 ^ 32 → nat_eq (suc n % 2 ^ 32) 0 ≡ false
zero_word n h = let same : suc n % 2 ^ 32 ≡ suc n = mod-eq_of_lt h in grind (arith, same)

negative_word : (n : ℕ) → n < 2 ^ 31 → nat_eq (2 ^ 32 - 1 - n % 2 ^ 32) 0 ≡ false
negative_word n h = let far : 2 ^ 31 ≤ 2 ^ 32 - 1 - n % 2 ^ 32 = omega (arith, h) in grind (arith, far)

-- a divisor that isn't 0
pub record IsDivisor (b : ℤ) : Type 0 where
  pub word : nat_eq (pattern 32 b) 0 ≡ false
  pub long : nat_eq (pattern 64 b) 0 ≡ false

zero_long : (n : ℕ) → suc n < 2 ^ 32 → nat_eq (suc n % 2 ^ 64) 0 ≡ false
zero_long n h = let same : suc n % 2 ^ 64 ≡ suc n = omega (arith, h) in grind (arith, same)

negative_long : (n : ℕ) → n < 2 ^ 31 → nat_eq (2 ^ 64 - 1 - n % 2 ^ 64) 0 ≡ false
negative_long n h = let far : 2 ^ 31 ≤ 2 ^ 64 - 1 - n % 2 ^ 64 = omega (arith, h) in grind (arith, far)

pub divisor_from : (n : ℕ) → IsWord (pos (suc n)) → IsDivisor (pos (suc n))
divisor_from n h = let low : suc n < 2 ^ 32 = omega (arith, ints, h.high) in record { word = zero_word n low; long = zero_long n low }

pub divisor_below : (n : ℕ) → IsWord (negsuc n) → IsDivisor (negsuc n)
divisor_below n h = let low : n < 2 ^ 31 = omega (arith, ints, h.low) in record { word = negative_word n low; long = negative_long n low }

pub divisor-checks : (m : Module) (v : View) (c : Config) (s : ℕ) (b : ℤ) (os locals : List Num) (t : Bool) → HasScratch s locals → HasPanicState c.world.store → nat_eq (pattern 32 b) 0 ≡ not t → Checks m v c (divisor_tested s) s b os locals t 7
divisor-checks m v c s b os locals t scratch state e =
    tested-checks m v c is_zero 7 s b os locals t scratch state (λ after. few-moves 4 (lit≤ tt) (moves-is_zero m v c (pattern 32 b) (not t) os after e))

-- behind a divisor that isn't 0 a piece gives the answer
pub divides : (t : Bool) (m : Module) (v : View) (c : Config) (s : ℕ) (left right to : IntTy) (a b z : ℤ) (os : List Num) (is rest : List Instr) → IsNarrow left → IsNarrow right → IsNarrow to → IsDivisor b → HasScratch s c.frame.locals → HasPanicState c.world.store → ((locals : List Num) → HasScratch s locals → Computes m v c is s a b z os locals t integer_overflow) → EndsOn m v c s left right to a b os (divisor_tested s ++ is) rest (if t then Ok z else Err Overflow)
divides true m v c s left right to a b z os is rest hl hr ht divisor scratch state computes =
    let first = (divisor-checks m v c s b (I32 (pattern 32 a) ∷ os) c.frame.locals true scratch state divisor.word).passes refl in
    let second = (computes first.after (has-scratch s c.frame.locals first.after first.keeps scratch)).passes refl in
    ends_with m v c s left right to a b z os (divisor_tested s ++ is) rest (pattern 32 z) 43 hl hr ht (lit≤ tt) refl (leads-then first second)
divides false m v c s left right to a b z os is rest hl hr ht divisor scratch state computes =
    let first = (divisor-checks m v c s b (I32 (pattern 32 a) ∷ os) c.frame.locals true scratch state divisor.word).passes refl in
    let second = (computes first.after (has-scratch s c.frame.locals first.after first.keeps scratch)).fails refl in
    on_words m v c s left right to a b os (divisor_tested s ++ is) rest (Err Overflow) hl hr
    (panics m v c s to Overflow (words a b os) os (divisor_tested s ++ is) rest 43 (lit≤ tt) (behind first.runs second))

pub by_zero : (m : Module) (v : View) (c : Config) (s : ℕ) (left right to : IntTy) (a : ℤ) (os : List Num) (is rest : List Instr) → IsNarrow left → IsNarrow right → HasScratch s c.frame.locals → HasPanicState c.world.store → EndsOn m v c s left right to a (pos 0) os (divisor_tested s ++ is) rest (Err DivZero)
by_zero m v c s left right to a os is rest hl hr scratch state =
    let first = (divisor-checks m v c s (pos 0) (I32 (pattern 32 a) ∷ os) c.frame.locals false scratch state refl).fails refl in
    on_words m v c s left right to a (pos 0) os (divisor_tested s ++ is) rest (Err DivZero) hl hr
    (panics m v c s to DivZero (words a (pos 0) os) os (divisor_tested s ++ is) rest 13 (lit≤ tt) (before first is))

-- ---- quotients and rests in 64 bits

half_long : (z : ℤ) → IsLong z → z ≤ℤ pos (2 ^ 32) → (int_lt z (pos (2 ^ 63)) ≡ true) × (cast_unsigned w64 z ≡ pattern 64 z)
half_long (pos n) h high = (grind (arith, ints, high), omega (arith, ints, high))
half_long (negsuc n) h high = (refl, omega (arith, ints, h.low))

pub quotient_long : (a b : ℤ) → IsWord a → (IsLong (int_div a b)) × (int_div a b ≤ℤ pos (2 ^ 32))
quotient_long (pos a) (pos b) h = let less = div-le_self a b in (record { low = omega (arith, ints); high = omega (arith, ints, less, h.high) }, omega (arith, ints, less, h.high))
quotient_long (pos a) (negsuc b) h = let less = div-le_self a (suc b) in (record { low = omega (arith, ints, less, h.high); high = omega (arith, ints) }, omega (arith, ints))
quotient_long (negsuc a) (pos b) h = let less = div-le_self (suc a) b in (record { low = omega (arith, ints, less, h.low); high = omega (arith, ints) }, omega (arith, ints))
quotient_long (negsuc a) (negsuc b) h = let less = div-le_self (suc a) (suc b) in (record { low = omega (arith, ints); high = omega (arith, ints, less, h.low) }, omega (arith, ints, less, h.low))

pub rest_bound : (a n : ℕ) → a % n ≤ a
rest_bound a zero = omega arith
rest_bound a (suc n) = omega arith

rest_long : (a b : ℤ) → IsWord a → (IsLong (int_rem a b)) × (int_rem a b ≤ℤ pos (2 ^ 32))
rest_long (pos a) b h = let less = rest_bound a (nat_abs b) in (record { low = omega (arith, ints); high = omega (arith, ints, less, h.high) }, omega (arith, ints, less, h.high))
rest_long (negsuc a) b h = let less = rest_bound (suc a) (nat_abs b) in (record { low = omega (arith, ints, less, h.low); high = omega (arith, ints) }, omega (arith, ints))

pub divides_long : (a b : ℤ) → FitsSigned w64 a → FitsSigned w64 b → IsWord a → IsDivisor b → binary_of DivS w64 (pattern 64 a) (pattern 64 b) ≡ Gives (pattern 64 (int_div a b))
divides_long a b fa fb h divisor =
    let z = int_div a b in
    let long = quotient_long a b h in
    let half = half_long z long.0 long.1 in
    ap (λ t. if t then DividesByZero else quotient_in w64 (int_div (cast_signed w64 (pattern 64 a)) (cast_signed w64 (pattern 64 b)))) divisor.long
    ∙ ap (λ x. quotient_in w64 (int_div x (cast_signed w64 (pattern 64 b)))) (read w64 a fa) ∙ ap (λ y. quotient_in w64 (int_div a y)) (read w64 b fb)
    ∙ ap (λ t. if t then Gives (cast_unsigned w64 z) else Overflows) half.0 ∙ ap (λ n. Gives n) half.1

pub leaves_long : (a b : ℤ) → FitsSigned w64 a → FitsSigned w64 b → IsWord a → IsDivisor b → binary_of RemS w64 (pattern 64 a) (pattern 64 b) ≡ Gives (pattern 64 (int_rem a b))
leaves_long a b fa fb h divisor =
    let long = rest_long a b h in
    let half = half_long (int_rem a b) long.0 long.1 in
    ap (λ t. if t then DividesByZero else Gives (cast_unsigned w64 (int_rem (cast_signed w64 (pattern 64 a)) (cast_signed w64 (pattern 64 b))))) divisor.long
    ∙ ap (λ x. Gives (cast_unsigned w64 (int_rem x (cast_signed w64 (pattern 64 b))))) (read w64 a fa) ∙ ap (λ y. Gives (cast_unsigned w64 (int_rem a y))) (read w64 b fb)
    ∙ ap (λ n. Gives n) half.1

-- ---- the same of unsigned numbers in 32

pub divides_word : (a b : ℤ) → IsNatural a → IsNatural b → IsDivisor b → binary_of DivU w32 (pattern 32 a) (pattern 32 b) ≡ Gives (pattern 32 (int_div a b))
divides_word a b na nb divisor =
    let x = na.value in
    let y = nb.value in
    let less = div-le_self x y in
    ap (λ t. if t then DividesByZero else Gives (pattern 32 a / pattern 32 b)) divisor.word
    ∙ ap (λ n. Gives (n / pattern 32 b)) (natural_bits a na) ∙ ap (λ n. Gives (x / n)) (natural_bits b nb)
    ∙ ap (λ n. Gives n) (sym (mod-eq_of_lt (omega (arith, less, na.small))))
    ∙ ap (λ z. Gives (pattern 32 (int_div z (pos y)))) (sym na.is) ∙ ap (λ z. Gives (pattern 32 (int_div a z))) (sym nb.is)

pub leaves_word : (a b : ℤ) → IsNatural a → IsNatural b → IsDivisor b → binary_of RemU w32 (pattern 32 a) (pattern 32 b) ≡ Gives (pattern 32 (int_rem a b))
leaves_word a b na nb divisor =
    let x = na.value in
    let y = nb.value in
    let less = rest_bound x y in
    ap (λ t. if t then DividesByZero else Gives (pattern 32 a % pattern 32 b)) divisor.word
    ∙ ap (λ n. Gives (n % pattern 32 b)) (natural_bits a na) ∙ ap (λ n. Gives (x % n)) (natural_bits b nb)
    ∙ ap (λ n. Gives n) (sym (mod-eq_of_lt (omega (arith, less, na.small))))
    ∙ ap (λ z. Gives (pattern 32 (int_rem z (pos y)))) (sym na.is) ∙ ap (λ z. Gives (pattern 32 (int_rem a z))) (sym nb.is)

-- an unsigned quotient is at most the left operand
pub quotient_in_type : (left right to : IntTy) (a b : ℤ) → IsNatural a → IsNatural b → is_unsigned left ≡ true → holds to left ≡ true → IsIn left a → is_in to (int_div a b) ≡ true
quotient_in_type (Sized false count) right to a b na nb u h i =
    let x = na.value in
    let y = nb.value in
    let less = div-le_self x y in
    let i2 : IsIn (Sized false count) (pos x) = subst (IsIn (Sized false count)) na.is i in
    let inside : IsIn (Sized false count) (pos (x / y)) = record { at_least = omega (arith, ints); at_most = omega (arith, ints, i2.at_most, less) } in
    let there : IsIn to (pos (x / y)) = holds_in to (Sized false count) (pos (x / y)) h inside in
    let first : int_div a b ≡ pos (x / y) = ap (λ z. int_div z b) na.is ∙ ap (λ z. int_div (pos x) z) nb.is in
    ap (is_in to) first ∙ test_from_in to (pos (x / y)) there
quotient_in_type (Sized true count) right to a b na nb u h i = absurd (cc)
quotient_in_type Comptime right to a b na nb u h i = absurd (cc)

pub word_computes : (m : Module) (v : View) (c : Config) (o : BinaryOperator) (s : ℕ) (a b z : ℤ) (os locals : List Num) (t : Bool) → binary_of o w32 (pattern 32 a) (pattern 32 b) ≡ Gives (pattern 32 z) → t ≡ true → Computes m v c (Binary ty.I32 o ∷ []) s a b z os locals t integer_overflow
word_computes m v c o s a b z os locals t gives e = record {
  passes = λ f. leads s (few-moves 30 (lit≤ tt) (moves (steps-word m v c o (pattern 32 a) (pattern 32 b) (pattern 32 z) os locals gives)));
  fails = λ f. absurd (cc);
}

quotient_for : (u : Bool) (m : Module) (v : View) (c : Config) (s : ℕ) (left right to : IntTy) (a b : ℤ) (os locals : List Num) → (are_unsigned left right && holds to left) ≡ u → IsNarrow left → IsNarrow right → IsNarrow to → IsIn left a → IsIn right b → IsDivisor b → HasScratch s locals → HasPanicState c.world.store → Computes m v c (if u then Binary ty.I32 DivU ∷ [] else exact_code DivS left right to s) s a b (int_div a b) os locals (is_in to (int_div a b)) integer_overflow
quotient_for true m v c s left right to a b os locals e hl hr ht il ir divisor scratch state =
    let outer = both-true (are_unsigned left right) (holds to left) e in
    let inner = both-true (is_unsigned left) (is_unsigned right) outer.0 in
    let na = natural left a hl il inner.0 in
    let nb = natural right b hr ir inner.1 in
    word_computes m v c DivU s a b (int_div a b) os locals (is_in to (int_div a b)) (divides_word a b na nb divisor) (quotient_in_type left right to a b na nb inner.0 outer.1 il)
quotient_for false m v c s left right to a b os locals e hl hr ht il ir divisor scratch state =
    let h = word-narrow left a hl il in
    exact_computes m v c DivS s left right to a b (int_div a b) os locals hl hr ht il ir scratch state (divides_long a b (fits_long left a hl il) (fits_long right b hr ir) h divisor) (quotient_long a b h).0

some-quotient : (m : Module) (v : View) (c : Config) (s : ℕ) (left right to : IntTy) (a b : ℤ) (os : List Num) (rest : List Instr) → IsNarrow left → IsNarrow right → IsNarrow to → IsIn left a → IsIn right b → IsDivisor b → HasScratch s c.frame.locals → HasPanicState c.world.store → EndsOn m v c s left right to a b os (quotient_code left right to s) rest (exact to (truncated a b))
some-quotient m v c s left right to a b os rest hl hr ht il ir divisor scratch state =
    let u = are_unsigned left right && holds to left in
    divides (is_in to (int_div a b)) m v c s left right to a b (int_div a b) os (if u then Binary ty.I32 DivU ∷ [] else exact_code DivS left right to s) rest hl hr ht divisor scratch state
    (λ locals there. quotient_for u m v c s left right to a b os locals refl hl hr ht il ir divisor there state)

pub quotient-ends : (m : Module) (v : View) (c : Config) (s : ℕ) (left right to : IntTy) (a b : ℤ) (os : List Num) (rest : List Instr) → IsNarrow left → IsNarrow right → IsNarrow to → IsIn left a → IsIn right b → HasScratch s c.frame.locals → HasPanicState c.world.store → EndsOn m v c s left right to a b os (quotient_code left right to s) rest (divided b (exact to (truncated a b)))
quotient-ends m v c s left right to a (pos zero) os rest hl hr ht il ir scratch state =
    by_zero m v c s left right to a os (if are_unsigned left right && holds to left then Binary ty.I32 DivU ∷ [] else exact_code DivS left right to s) rest hl hr scratch state
quotient-ends m v c s left right to a (pos (suc n)) os rest hl hr ht il ir scratch state =
    some-quotient m v c s left right to a (pos (suc n)) os rest hl hr ht il ir (divisor_from n (word-narrow right (pos (suc n)) hr ir)) scratch state
quotient-ends m v c s left right to a (negsuc n) os rest hl hr ht il ir scratch state =
    some-quotient m v c s left right to a (negsuc n) os rest hl hr ht il ir (divisor_below n (word-narrow right (negsuc n) hr ir)) scratch state

-- ---- rests

rest_for : (u : Bool) (m : Module) (v : View) (c : Config) (s : ℕ) (left right : IntTy) (a b : ℤ) (os locals : List Num) → are_unsigned left right ≡ u → IsNarrow left → IsNarrow right → IsIn left a → IsIn right b → IsDivisor b → HasScratch s locals → Computes m v c (if u then Binary ty.I32 RemU ∷ [] else extended left right s ++ (Binary ty.I64 RemS ∷ Convert Wrap ∷ [])) s a b (int_rem a b) os locals true integer_overflow
rest_for true m v c s left right a b os locals e hl hr il ir divisor scratch =
    let inner = both-true (is_unsigned left) (is_unsigned right) e in
    word_computes m v c RemU s a b (int_rem a b) os locals true (leaves_word a b (natural left a hl il inner.0) (natural right b hr ir inner.1) divisor) refl
rest_for false m v c s left right a b os locals e hl hr il ir divisor scratch =
    let after = long_kept s b locals in
    let z = int_rem a b in
    let gives = leaves_long a b (fits_long left a hl il) (fits_long right b hr ir) (word-narrow left a hl il) divisor in
    record {
      passes = λ f. record {
        after = after;
        keeps = keeps-set s 4 locals locals (I64 (pattern 64 b)) (lit< tt) (keeps-same s locals);
        runs = few-moves 30 (lit≤ tt) (andthen (moves (steps-extended m v c left right s a b os locals hl hr il ir scratch))
            (andthen (moves (steps-long m v c RemS (pattern 64 a) (pattern 64 b) (pattern 64 z) os after gives)) (moves (steps-wrap m v c (pattern 64 z) (pattern 32 z) os after (wrap_long z)))));
      };
      fails = λ f. absurd (cc);
    }

some-rest : (m : Module) (v : View) (c : Config) (s : ℕ) (left right to : IntTy) (a b : ℤ) (os : List Num) (rest : List Instr) → IsNarrow left → IsNarrow right → IsNarrow to → IsIn left a → IsIn right b → IsDivisor b → HasScratch s c.frame.locals → HasPanicState c.world.store → EndsOn m v c s left right to a b os (rest_code left right s) rest (Ok (rest_of a b (truncated a b)))
some-rest m v c s left right to a b os rest hl hr ht il ir divisor scratch state =
    let u = are_unsigned left right in
    let is = if u then Binary ty.I32 RemU ∷ [] else extended left right s ++ (Binary ty.I64 RemS ∷ Convert Wrap ∷ []) in
    subst (λ z. EndsOn m v c s left right to a b os (rest_code left right s) rest (Ok z)) (sym (rest_is a b))
    (divides true m v c s left right to a b (int_rem a b) os is rest hl hr ht divisor scratch state (λ locals there. rest_for u m v c s left right a b os locals refl hl hr il ir divisor there))

pub rest-ends : (m : Module) (v : View) (c : Config) (s : ℕ) (left right to : IntTy) (a b : ℤ) (os : List Num) (rest : List Instr) → IsNarrow left → IsNarrow right → IsNarrow to → IsIn left a → IsIn right b → HasScratch s c.frame.locals → HasPanicState c.world.store → EndsOn m v c s left right to a b os (rest_code left right s) rest (divided b (Ok (rest_of a b (truncated a b))))
rest-ends m v c s left right to a (pos zero) os rest hl hr ht il ir scratch state =
    by_zero m v c s left right to a os (if are_unsigned left right then Binary ty.I32 RemU ∷ [] else extended left right s ++ (Binary ty.I64 RemS ∷ Convert Wrap ∷ [])) rest hl hr scratch state
rest-ends m v c s left right to a (pos (suc n)) os rest hl hr ht il ir scratch state =
    some-rest m v c s left right to a (pos (suc n)) os rest hl hr ht il ir (divisor_from n (word-narrow right (pos (suc n)) hr ir)) scratch state
rest-ends m v c s left right to a (negsuc n) os rest hl hr ht il ir scratch state =
    some-rest m v c s left right to a (negsuc n) os rest hl hr ht il ir (divisor_below n (word-narrow right (negsuc n) hr ir)) scratch state
