-- What the code of casts, of how far a number is from 0, and of counts of bits does when it runs where a type has more than 32 bits.
use Rattle.std.proofs.Common.{◌≡◌, ℕ, ℤ, pos, negsuc, ◌+◌, ◌-◌, ◌*◌, ◌/◌, ◌%◌, ◌^◌, ◌<◌, ◌≤◌, ◌-ℤ◌, ◌≤ℤ◌, neg_ℤ, min, Bool, true, false, not, List, [], ◌∷◌, ◌++◌, Some, Ok, Err, refl, sym, ap, ◌∙◌, subst, arith, lit≤, lit<, FitsSigned}
use Rattle.std.specs.Prelude.{nat_eq, nat_lt, nat_le, int_lt, int_le, ◌&&◌, unsigned_abs, count_ones, slice_get, slice_set, if◌then◌else◌}
use Rattle.std.proofs.lemmas.Bool.{ltb-true, ltb-false}
use Rattle.std.proofs.lemmas.Int.{ints}
use Rattle.std.proofs.lemmas.Nat.{pow_pos, pow-add, ones-le, leading_le, trailing_le}
use Rattle.std.proofs.Math.Nat.{pow-le-pow_right, mod-eq_of_lt}
use Rattle.std.specs.Int.{w64}
use Rattle.std.specs.Int.Count.{count_leading_zeros, count_trailing_zeros}
use Rattle.zw_num.proofs.CountLemmas.{leading_wider, trailing_narrow}
use Rattle.zw_num.proofs.WrappedLemmas.{pattern_below, test_from_in}
use Rattle.zw_num.specs.Arithmetic.{IsIn, is_in, least, pattern, width, cast_to}
use Rattle.zw_num.specs.declared.int_ty.IntTy.{IntTy}
use Rattle.zw_num.specs.declared.int_ty.IntTy.TheVariants.{Sized, Comptime}
use Rattle.zw_num.specs.declared.num_fault.NumFault.{NumFault}
use Rattle.zw_num.specs.declared.num_fault.NumFault.TheVariants.{Truncated, Negative}
use Rattle.zw_safety_narrow.proofs.CastRuns.{EndsOnOne, holds_in}
use Rattle.zw_safety_narrow.proofs.Going.{Moves, moves-select, moves-tee}
use Rattle.zw_safety_narrow.proofs.Locals.{slice_get-set_same, keeps-same, keeps-set}
use Rattle.zw_safety_narrow.proofs.Orders.{read}
use Rattle.zw_safety_narrow.proofs.OrderRuns.{keeps-then, has-scratch}
use Rattle.zw_safety_narrow.proofs.Pieces.{having, Steps, Fails, steps-none, steps-then, fails-behind, fails-before, steps-get, steps-long_const, steps-long, steps-compare_long, steps-passed, fails-panics}
use Rattle.zw_safety_narrow.specs.Checked.{HasScratch, HasPanicState}
use Rattle.zw_safety_narrow.specs.Operators.{IsStored, cause_of}
use Rattle.zw_safety_wide.specs.WideCastCode.{long_tested, long_above, long_outside, long_negative, long_cast, wide_cast_code, long_distance, wide_distance_code, own_long, less_zeros, long_at_most}
use Rattle.zw_safety_words.proofs.WideBitRuns.{Brings, brings, leaves_one, negated_bits, signed_fits, natural_low}
use Rattle.zw_safety_words.proofs.WideOrderRuns.{moved}
use Rattle.zw_safety_words.proofs.WideRuns.{Reaches, reaches, reaches-then, reaches-within, steps-settled, steps-widened}
use Rattle.zw_safety_words.proofs.WideWords.{lift_wide, masked_long, power_long}
use Rattle.zw_safety_words.specs.WideCode.{widened, settled}
use Rattle.zw_wasm.proofs.RunsCompose.{runs-step}
use Rattle.zw_wasm.specs.declared.module.BinaryOperator.TheVariants.{Add, Sub, Mul, And}
use Rattle.zw_wasm.specs.declared.module.Comparison.TheVariants.{LtS, LtU, GtU}
use Rattle.zw_wasm.specs.declared.module.Instr.{Instr}
use Rattle.zw_wasm.specs.declared.module.Instr.TheVariants.{LocalGet, LocalTee, I64Const, Binary, Compare, Unary, Select}
use Rattle.zw_wasm.specs.declared.module.Module.{Module}
use Rattle.zw_wasm.specs.declared.module.UnaryOperator.{UnaryOperator}
use Rattle.zw_wasm.specs.declared.module.UnaryOperator.TheVariants.{Clz, Ctz, Popcnt}
use Rattle.zw_wasm.specs.declared.module.ValType.TheVariants as ty
use Rattle.zw_wasm.specs.declared.num.Num.{Num}
use Rattle.zw_wasm.specs.declared.num.Num.TheVariants.{I32, I64}
use Rattle.zw_wasm.specs.Numerics.{Gives, bit_of, unary_of}
use Rattle.zw_wasm.specs.Reduction.{Config}
use Rattle.zw_wasm.specs.Signature.{View}

-- a number of 64 bits on the others
abbrev pub long : ℤ → List Num → List Num
long a os = I64 (pattern 64 a) ∷ os

-- a piece that tells a cause and traps, with the most instructions that it takes
record Breaks (m : Module) (v : View) (c : Config) (is : List Instr) (from locals : List Num) (cause most : ℕ) : Type 0 where
  count : ℕ
  few : count ≤ most
  fails : Fails m v c is (having from locals) cause count

-- a piece that leaves its operand as it is, or tells a cause, by a test
record Checks (m : Module) (v : View) (c : Config) (is : List Instr) (s : ℕ) (a : ℤ) (os locals : List Num) (t : Bool) (cause : ℕ) : Type 0 where
  passes : t ≡ true → Brings m v c is s (long a os) (long a os) locals 8
  fails : t ≡ false → Breaks m v c is (long a os) locals cause 14

long_set : (m : Module) (v : View) (c : Config) (s : ℕ) (a : ℤ) (os locals : List Num) → HasScratch s locals → Reaches m v c (LocalTee (s + 4) ∷ []) (having (long a os) locals) (having (long a os) (slice_set locals (s + 4) (I64 (pattern 64 a)))) 1
long_set m v c s a os locals h = moved (moves-tee m v c (s + 4) (I64 (pattern 64 a)) os locals (omega (arith, h)))

long_there : (s : ℕ) (a : ℤ) (locals : List Num) → HasScratch s locals → slice_get (slice_set locals (s + 4) (I64 (pattern 64 a))) (s + 4) ≡ Some (I64 (pattern 64 a))
long_there s a locals h = slice_get-set_same locals (s + 4) (I64 (pattern 64 a)) (omega (arith, h))

tested-checks : (m : Module) (v : View) (c : Config) (test : List Instr) (cause s : ℕ) (a : ℤ) (os locals : List Num) (t : Bool) → HasScratch s locals → HasPanicState c.world.store →
    ((after : List Num) → Reaches m v c test (having (long a os) after) (having (I32 (bit_of (not t)) ∷ os) after) 4) → Checks m v c (long_tested test cause s) s a os locals t cause
tested-checks m v c test cause s a os locals t scratch state test-runs =
    let x = I64 (pattern 64 a) in
    let after = slice_set locals (s + 4) x in
    let first = long_set m v c s a os locals scratch in
    record {
      passes = λ e. record {
        after = after;
        keeps = keeps-set s 4 locals locals x (lit< tt) (keeps-same s locals);
        runs = (
            let second = subst (λ b. Reaches m v c test (having (long a os) after) (having (I32 (bit_of (not b)) ∷ os) after) 4) e (test-runs after) in
            let all = reaches-then first (reaches-then second (reaches-then (reaches (steps-passed m v c cause os after)) (reaches (steps-get m v c (s + 4) x os after (long_there s a locals scratch))))) in
            reaches-within all 8 (lit≤ tt)
            );
      };
      fails = λ e.
          let second = subst (λ b. Reaches m v c test (having (long a os) after) (having (I32 (bit_of (not b)) ∷ os) after) 4) e (test-runs after) in
          let one = first.few in
          let two = second.few in
          record {
            count = first.count + (second.count + 8);
            few = omega (arith, one, two);
            fails = fails-behind first.steps (fails-behind second.steps (fails-before (fails-panics m v c cause os after state) (LocalGet (s + 4) ∷ [])));
          };
    }

-- ---- the tests of a cast

steps-above : (m : Module) (v : View) (c : Config) (top n : ℕ) (t : Bool) (os locals : List Num) → nat_lt top n ≡ not t → Steps m v c (long_above top) (having (I64 n ∷ os) locals) (having (I32 (bit_of (not t)) ∷ os) locals) 2
steps-above m v c top n t os locals e =
    steps-then (steps-long_const m v c (pos top) (I64 n ∷ os) locals) (steps-compare_long m v c GtU n top (not t) os locals e)

steps-negative : (m : Module) (v : View) (c : Config) (z : ℤ) (os locals : List Num) → FitsSigned w64 z → Steps m v c long_negative (having (long z os) locals) (having (I32 (bit_of (int_lt z (pos 0))) ∷ os) locals) 2
steps-negative m v c z os locals h =
    steps-then (steps-long_const m v c (pos 0) (long z os) locals)
    (steps-compare_long m v c LtS (pattern 64 z) 0 (int_lt z (pos 0)) os locals (ap (λ x. int_lt x (pos 0)) (read w64 z h)))

-- a number of 64 bits from the least value of a type on
far_long : (y : ℤ) (top : ℕ) → top < 2 ^ 63 → neg_ℤ (pos (2 ^ 63)) ≤ℤ y → y ≤ℤ pos (2 ^ 64 - 1) → nat_lt top (pattern 64 y) ≡ not (int_le (pos 0) y && int_le y (pos top))
far_long (pos n) top h low high = let same : n % 2 ^ 64 ≡ n = omega (arith, ints, high) in grind (arith, ints, same)
far_long (negsuc n) top h low high = let far : 2 ^ 63 ≤ 2 ^ 64 - 1 - n % 2 ^ 64 = omega (arith, ints, low) in grind (arith, ints, far)

from_least : (count : ℕ) (z : ℤ) → (int_le (pos 0) (z -ℤ least (Sized true count)) && int_le (z -ℤ least (Sized true count)) (pos (2 ^ count - 1))) ≡ is_in (Sized true count) z
from_least count z = let some = pow_pos count in grind (arith, ints, some)

lower_power : (count : ℕ) → count ≤ 63 → 2 ^ count ≤ 2 ^ 63
lower_power count h = pow-le-pow_right {n = 2} (omega arith) h

tells_outside : (count : ℕ) (z : ℤ) → count ≤ 63 → FitsSigned w64 z → nat_lt (2 ^ count - 1) (pattern 64 (z -ℤ least (Sized true count))) ≡ not (is_in (Sized true count) z)
tells_outside count z h fits =
    let few = lower_power count h in
    let some = pow_pos count in
    far_long (z -ℤ least (Sized true count)) (2 ^ count - 1) (omega (arith, few, some)) (omega (arith, ints, fits.sfits)) (omega (arith, ints, fits.sfits, few))
    ∙ ap not (from_least count z)

steps-outside : (m : Module) (v : View) (c : Config) (count : ℕ) (z : ℤ) (os locals : List Num) → count ≤ 63 → FitsSigned w64 z → Steps m v c (long_outside count) (having (long z os) locals) (having (I32 (bit_of (not (is_in (Sized true count) z))) ∷ os) locals) 4
steps-outside m v c count z os locals h fits =
    let y = pattern 64 (z -ℤ least (Sized true count)) in
    steps-then (steps-long_const m v c (pos (2 ^ count / 2)) (long z os) locals)
    (steps-then (steps-long m v c Add (pattern 64 z) (2 ^ count / 2) y os locals (ap (λ n. Gives n) (lift_wide count z (omega (arith, h)))))
    (steps-above m v c (2 ^ count - 1) y (is_in (Sized true count) z) os locals (tells_outside count z h fits)))

unsigned_test : (count n : ℕ) → nat_lt (2 ^ count - 1) n ≡ not (is_in (Sized false count) (pos n))
unsigned_test count n = grind (arith, ints)

signed_test : (count n : ℕ) → nat_lt ((2 ^ count - 1) / 2) n ≡ not (is_in (Sized true count) (pos n))
signed_test count n = grind (arith, ints)

above-checks : (m : Module) (v : View) (c : Config) (top s n : ℕ) (os locals : List Num) (t : Bool) → HasScratch s locals → HasPanicState c.world.store → n < 2 ^ 64 → nat_lt top n ≡ not t → Checks m v c (long_tested (long_above top) 11 s) s (pos n) os locals t 11
above-checks m v c top s n os locals t scratch state low e =
    let same : pattern 64 (pos n) ≡ n = mod-eq_of_lt low in
    tested-checks m v c (long_above top) 11 s (pos n) os locals t scratch state
    (λ after. reaches-within (reaches (steps-above m v c top (pattern 64 (pos n)) t os after (ap (λ k. nat_lt top k) same ∙ e))) 4 (lit≤ tt))

none-checks : (m : Module) (v : View) (c : Config) (s : ℕ) (a : ℤ) (os locals : List Num) (t : Bool) (cause : ℕ) → t ≡ true → Checks m v c [] s a os locals t cause
none-checks m v c s a os locals t cause e = record {
  passes = λ f. brings s (reaches-within (reaches (steps-none m v c (having (long a os) locals))) 8 (lit≤ tt));
  fails = λ f. absurd (cc);
}

-- ---- a cast with one test

-- the operand in 64 bits, the piece, and the value or a panic
checked_for : (t : Bool) (m : Module) (v : View) (c : Config) (s : ℕ) (from to : IntTy) (a : ℤ) (os : List Num) (is rest : List Instr) (fault : NumFault) → IsStored from → IsIn from a → Checks m v c is s a os c.frame.locals t (cause_of fault) → EndsOnOne m v c s from to a os (widened from ++ (is ++ settled to)) rest (if t then Ok a else Err fault)
checked_for true m v c s from to a os is rest fault hf i checks =
    let first = steps-widened m v c from a os c.frame.locals hf i in
    let second = checks.passes refl in
    leaves_one m v c s from to a a os (widened from ++ (is ++ settled to)) rest 10 (lit≤ tt)
    (record { after = second.after; keeps = second.keeps; runs = reaches-then first (reaches-then second.runs (steps-settled m v c to a os second.after)) })
checked_for false m v c s from to a os is rest fault hf i checks =
    let first = steps-widened m v c from a os c.frame.locals hf i in
    let second = checks.fails refl in
    let one = first.few in
    let two = second.few in
    record { taken = first.count + second.count; few = omega (arith, one, two); halts = (fails-behind first.steps (fails-before second.fails (settled to))).by rest }

signed-checks : (b : Bool) (m : Module) (v : View) (c : Config) (s from to : ℕ) (a : ℤ) (os locals : List Num) → nat_le from to ≡ b → from ≤ 64 → to ≤ 64 → IsIn (Sized true from) a → HasScratch s locals → HasPanicState c.world.store → Checks m v c (if b then [] else long_tested (long_outside to) 11 s) s a os locals (is_in (Sized true to) a) 11
signed-checks true m v c s from to a os locals e hf ht i scratch state =
    none-checks m v c s a os locals (is_in (Sized true to) a) 11 (test_from_in (Sized true to) a (holds_in (Sized true to) (Sized true from) a e i))
signed-checks false m v c s from to a os locals e hf ht i scratch state =
    let low : to ≤ 63 = grind (arith, e, hf) in
    tested-checks m v c (long_outside to) 11 s a os locals (is_in (Sized true to) a) scratch state (λ after. reaches (steps-outside m v c to a os after low (signed_fits from a hf i)))

to_signed-checks : (b : Bool) (m : Module) (v : View) (c : Config) (s from to n : ℕ) (os locals : List Num) → nat_lt from to ≡ b → from ≤ 64 → to ≤ 64 → IsIn (Sized false from) (pos n) → HasScratch s locals → HasPanicState c.world.store → Checks m v c (if b then [] else long_tested (long_above ((2 ^ to - 1) / 2)) 11 s) s (pos n) os locals (is_in (Sized true to) (pos n)) 11
to_signed-checks true m v c s from to n os locals e hf ht i scratch state =
    none-checks m v c s (pos n) os locals (is_in (Sized true to) (pos n)) 11 (test_from_in (Sized true to) (pos n) (holds_in (Sized true to) (Sized false from) (pos n) e i))
to_signed-checks false m v c s from to n os locals e hf ht i scratch state =
    above-checks m v c ((2 ^ to - 1) / 2) s n os locals (is_in (Sized true to) (pos n)) scratch state (natural_low from n hf i) (signed_test to n)

unsigned-checks : (b : Bool) (m : Module) (v : View) (c : Config) (s from to n : ℕ) (os locals : List Num) → nat_le from to ≡ b → from ≤ 64 → to ≤ 64 → IsIn (Sized false from) (pos n) → HasScratch s locals → HasPanicState c.world.store → Checks m v c (if b then [] else long_tested (long_above (2 ^ to - 1)) 11 s) s (pos n) os locals (is_in (Sized false to) (pos n)) 11
unsigned-checks true m v c s from to n os locals e hf ht i scratch state =
    none-checks m v c s (pos n) os locals (is_in (Sized false to) (pos n)) 11 (test_from_in (Sized false to) (pos n) (holds_in (Sized false to) (Sized false from) (pos n) e i))
unsigned-checks false m v c s from to n os locals e hf ht i scratch state =
    above-checks m v c (2 ^ to - 1) s n os locals (is_in (Sized false to) (pos n)) scratch state (natural_low from n hf i) (unsigned_test to n)

-- ---- from a signed type to an unsigned one

not_negative : (n : ℕ) → int_lt (pos n) (pos 0) ≡ false
not_negative n = grind (arith, ints)

sign-checks : (m : Module) (v : View) (c : Config) (s : ℕ) (a : ℤ) (os locals : List Num) (t : Bool) → HasScratch s locals → HasPanicState c.world.store → FitsSigned w64 a → int_lt a (pos 0) ≡ not t → Checks m v c (long_tested long_negative 12 s) s a os locals t 12
sign-checks m v c s a os locals t scratch state fits e =
    tested-checks m v c long_negative 12 s a os locals t scratch state
    (λ after. reaches-within (subst (λ b. Reaches m v c long_negative (having (long a os) after) (having (I32 (bit_of b) ∷ os) after) 2) e (reaches (steps-negative m v c a os after fits))) 4 (lit≤ tt))

power_more : (n : ℕ) → 2 ^ (n + 1) ≡ 2 * 2 ^ n
power_more n = omega (arith, pow-add 2 n 1)

one_bit_more : (from to n : ℕ) → from ≤ to + 1 → IsIn (Sized true from) (pos n) → is_in (Sized false to) (pos n) ≡ true
one_bit_more from to n h i =
    let few : 2 ^ from ≤ 2 ^ (to + 1) = pow-le-pow_right {n = 2} (omega arith) h in
    test_from_in (Sized false to) (pos n) (record { at_least = omega (arith, ints); at_most = omega (arith, ints, i.at_most, few, power_more to) })

more-checks : (b : Bool) (m : Module) (v : View) (c : Config) (s from to n : ℕ) (os locals : List Num) → nat_le from (to + 1) ≡ b → from ≤ 64 → IsIn (Sized true from) (pos n) → HasScratch s locals → HasPanicState c.world.store → Checks m v c (if b then [] else long_tested (long_above (2 ^ to - 1)) 11 s) s (pos n) os locals (is_in (Sized false to) (pos n)) 11
more-checks true m v c s from to n os locals e hf i scratch state =
    let less : from ≤ to + 1 = grind (arith, e) in
    none-checks m v c s (pos n) os locals (is_in (Sized false to) (pos n)) 11 (one_bit_more from to n less i)
more-checks false m v c s from to n os locals e hf i scratch state =
    let fits = signed_fits from (pos n) hf i in
    above-checks m v c (2 ^ to - 1) s n os locals (is_in (Sized false to) (pos n)) scratch state (omega (arith, fits.sfits)) (unsigned_test to n)

abbrev more_code : ℕ → ℕ → ℕ → List Instr
more_code from to s = if nat_le from (to + 1) then [] else long_tested (long_above (2 ^ to - 1)) 11 s

to_unsigned_for : (t : Bool) (m : Module) (v : View) (c : Config) (s from to n : ℕ) (os : List Num) (rest : List Instr) → is_in (Sized false to) (pos n) ≡ t → from ≤ 64 → to ≤ 64 → IsIn (Sized true from) (pos n) → HasScratch s c.frame.locals → HasPanicState c.world.store →
    EndsOnOne m v c s (Sized true from) (Sized false to) (pos n) os (widened (Sized true from) ++ ((long_tested long_negative 12 s ++ more_code from to s) ++ settled (Sized false to))) rest (if t then Ok (pos n) else Err Truncated)
to_unsigned_for true m v c s from to n os rest e hf ht i scratch state =
    let here = steps-widened m v c (Sized true from) (pos n) os c.frame.locals hf i in
    let first = (sign-checks m v c s (pos n) os c.frame.locals true scratch state (signed_fits from (pos n) hf i) (not_negative n)).passes refl in
    let there = has-scratch s c.frame.locals first.after first.keeps scratch in
    let second = (more-checks (nat_le from (to + 1)) m v c s from to n os first.after refl hf i there state).passes e in
    leaves_one m v c s (Sized true from) (Sized false to) (pos n) (pos n) os (widened (Sized true from) ++ ((long_tested long_negative 12 s ++ more_code from to s) ++ settled (Sized false to))) rest 18 (lit≤ tt)
    (record {
      after = second.after;
      keeps = keeps-then s c.frame.locals first.after second.after first.keeps second.keeps;
      runs = reaches-then here (reaches-then (reaches-then first.runs second.runs) (steps-settled m v c (Sized false to) (pos n) os second.after));
    })
to_unsigned_for false m v c s from to n os rest e hf ht i scratch state =
    let here = steps-widened m v c (Sized true from) (pos n) os c.frame.locals hf i in
    let first = (sign-checks m v c s (pos n) os c.frame.locals true scratch state (signed_fits from (pos n) hf i) (not_negative n)).passes refl in
    let there = has-scratch s c.frame.locals first.after first.keeps scratch in
    let second = (more-checks (nat_le from (to + 1)) m v c s from to n os first.after refl hf i there state).fails e in
    let one = here.few in
    let two = first.runs.few in
    let three = second.few in
    record {
      taken = here.count + (first.runs.count + second.count);
      few = omega (arith, one, two, three);
      halts = (fails-behind here.steps (fails-before (fails-behind first.runs.steps second.fails) (settled (Sized false to)))).by rest;
    }

negative_to_unsigned : (m : Module) (v : View) (c : Config) (s from to n : ℕ) (os : List Num) (more rest : List Instr) → from ≤ 64 → IsIn (Sized true from) (negsuc n) → HasScratch s c.frame.locals → HasPanicState c.world.store → EndsOnOne m v c s (Sized true from) (Sized false to) (negsuc n) os (widened (Sized true from) ++ ((long_tested long_negative 12 s ++ more) ++ settled (Sized false to))) rest (Err Negative)
negative_to_unsigned m v c s from to n os more rest hf i scratch state =
    let here = steps-widened m v c (Sized true from) (negsuc n) os c.frame.locals hf i in
    let first = (sign-checks m v c s (negsuc n) os c.frame.locals false scratch state (signed_fits from (negsuc n) hf i) refl).fails refl in
    let one = here.few in
    let two = first.few in
    record {
      taken = here.count + first.count;
      few = omega (arith, one, two);
      halts = (fails-behind here.steps (fails-before (fails-before first.fails more) (settled (Sized false to)))).by rest;
    }

pub wide_cast-ends : (m : Module) (v : View) (c : Config) (s : ℕ) (from to : IntTy) (a : ℤ) (os : List Num) (rest : List Instr) → IsStored from → IsStored to → IsIn from a → HasScratch s c.frame.locals → HasPanicState c.world.store → EndsOnOne m v c s from to a os (wide_cast_code from to s) rest (cast_to to a)
wide_cast-ends m v c s (Sized true from) (Sized true to) a os rest hf ht i scratch state =
    checked_for (is_in (Sized true to) a) m v c s (Sized true from) (Sized true to) a os (long_cast (Sized true from) (Sized true to) s) rest Truncated hf i (signed-checks (nat_le from to) m v c s from to a os c.frame.locals refl hf ht i scratch state)
wide_cast-ends m v c s (Sized false from) (Sized true to) (pos n) os rest hf ht i scratch state =
    checked_for (is_in (Sized true to) (pos n)) m v c s (Sized false from) (Sized true to) (pos n) os (long_cast (Sized false from) (Sized true to) s) rest Truncated hf i (to_signed-checks (nat_lt from to) m v c s from to n os c.frame.locals refl hf ht i scratch state)
wide_cast-ends m v c s (Sized false from) (Sized true to) (negsuc n) os rest hf ht i scratch state = absurd (omega (arith, ints, i.at_least))
wide_cast-ends m v c s (Sized false from) (Sized false to) (pos n) os rest hf ht i scratch state =
    checked_for (is_in (Sized false to) (pos n)) m v c s (Sized false from) (Sized false to) (pos n) os (long_cast (Sized false from) (Sized false to) s) rest Truncated hf i (unsigned-checks (nat_le from to) m v c s from to n os c.frame.locals refl hf ht i scratch state)
wide_cast-ends m v c s (Sized false from) (Sized false to) (negsuc n) os rest hf ht i scratch state = absurd (omega (arith, ints, i.at_least))
wide_cast-ends m v c s (Sized true from) (Sized false to) (pos n) os rest hf ht i scratch state =
    to_unsigned_for (is_in (Sized false to) (pos n)) m v c s from to n os rest refl hf ht i scratch state
wide_cast-ends m v c s (Sized true from) (Sized false to) (negsuc n) os rest hf ht i scratch state = negative_to_unsigned m v c s from to n os (more_code from to s) rest hf i scratch state
wide_cast-ends m v c s Comptime to a os rest hf ht i scratch state = absurd hf
wide_cast-ends m v c s (Sized true from) Comptime a os rest hf ht i scratch state = absurd ht
wide_cast-ends m v c s (Sized false from) Comptime a os rest hf ht i scratch state = absurd ht

-- ---- how far a number is from 0

bit-zero : (t : Bool) → nat_eq (bit_of t) 0 ≡ not t
bit-zero true = refl
bit-zero false = refl

chosen_side : (t : Bool) (a : ℤ) → int_lt a (pos 0) ≡ t → (if not t then I64 (pattern 64 a) else I64 (pattern 64 (neg_ℤ a))) ≡ I64 (pattern 64 (pos (unsigned_abs a)))
chosen_side true (negsuc n) e = refl
chosen_side true (pos n) e = absurd (omega (arith, ltb-true n 0 e))
chosen_side false (pos n) e = refl
chosen_side false (negsuc n) e = absurd (cc)

signed_distance : (m : Module) (v : View) (c : Config) (s : ℕ) (a : ℤ) (os locals : List Num) → HasScratch s locals → FitsSigned w64 a → Brings m v c (long_distance (Sized true 64) s) s (long a os) (long (pos (unsigned_abs a)) os) locals 8
signed_distance m v c s a os locals scratch h =
    let x = I64 (pattern 64 a) in
    let after = slice_set locals (s + 4) x in
    let there = long_there s a locals scratch in
    let t = int_lt a (pos 0) in
    let below = long (neg_ℤ a) os in
    let chosen = subst (λ y. Moves m v c (Select ∷ []) (having (I32 (bit_of t) ∷ long a below) after) (having (y ∷ os) after) 1) (chosen_side t a refl)
    (moves-select m v c (bit_of t) (not t) (I64 (pattern 64 (neg_ℤ a))) x os after (bit-zero t)) in
    record {
      after = after;
      keeps = keeps-set s 4 locals locals x (lit< tt) (keeps-same s locals);
      runs = reaches-then (long_set m v c s a os locals scratch)
          (reaches-then (reaches (steps-long_const m v c (negsuc 0) (long a os) after))
          (reaches-then (reaches (steps-long m v c Mul (pattern 64 a) (pattern 64 (negsuc 0)) (pattern 64 (neg_ℤ a)) os after (negated_bits a)))
          (reaches-then (reaches (steps-get m v c (s + 4) x below after there))
          (reaches-then (reaches (steps-get m v c (s + 4) x (long a below) after there))
          (reaches-then (reaches (steps-negative m v c a (long a below) after h)) (moved chosen))))));
    }

distances : (m : Module) (v : View) (c : Config) (from : IntTy) (s : ℕ) (a : ℤ) (os locals : List Num) → IsStored from → IsIn from a → HasScratch s locals → Brings m v c (long_distance from s) s (long a os) (long (pos (unsigned_abs a)) os) locals 8
distances m v c (Sized true count) s a os locals h i scratch = signed_distance m v c s a os locals scratch (signed_fits count a h i)
distances m v c (Sized false count) s (pos n) os locals h i scratch = brings s (reaches-within (reaches (steps-none m v c (having (long (pos n) os) locals))) 8 (lit≤ tt))
distances m v c (Sized false count) s (negsuc n) os locals h i scratch = absurd (omega (arith, ints, i.at_least))
distances m v c Comptime s a os locals h i scratch = absurd h

-- an operand in 64 bits, a piece, and the result as its type fills it
widened_ends : (m : Module) (v : View) (c : Config) (s : ℕ) (from to : IntTy) (a z : ℤ) (os : List Num) (is rest : List Instr) (most : ℕ) → most ≤ 100 → IsStored from → IsIn from a → Brings m v c is s (long a os) (long z os) c.frame.locals most → EndsOnOne m v c s from to a os (widened from ++ (is ++ settled to)) rest (Ok z)
widened_ends m v c s from to a z os is rest most few hf i piece =
    leaves_one m v c s from to a z os (widened from ++ (is ++ settled to)) rest (1 + (most + 1)) (omega (arith, few))
    (record {
      after = piece.after;
      keeps = piece.keeps;
      runs = reaches-then (steps-widened m v c from a os c.frame.locals hf i) (reaches-then piece.runs (steps-settled m v c to z os piece.after));
    })

pub wide_distance-ends : (m : Module) (v : View) (c : Config) (s : ℕ) (from to : IntTy) (a : ℤ) (os : List Num) (rest : List Instr) → IsStored from → IsIn from a → HasScratch s c.frame.locals → EndsOnOne m v c s from to a os (wide_distance_code from to s) rest (Ok (pos (unsigned_abs a)))
wide_distance-ends m v c s from to a os rest hf i scratch =
    widened_ends m v c s from to a (pos (unsigned_abs a)) os (long_distance from s) rest 8 (lit≤ tt) hf i (distances m v c from s a os c.frame.locals hf i scratch)

-- ---- counts

steps-unary : (m : Module) (v : View) (c : Config) (o : UnaryOperator) (x : ℕ) (os locals : List Num) → Steps m v c (Unary ty.I64 o ∷ []) (having (I64 x ∷ os) locals) (having (I64 (unary_of o w64 x) ∷ os) locals) 1
steps-unary m v c o x os locals = record { by = λ rest. runs-step m v _ _ refl }

signed_bits : (b : Bool) (m : Module) (v : View) (c : Config) (count : ℕ) (a : ℤ) (os locals : List Num) → nat_lt count 64 ≡ b → count ≤ 64 → Reaches m v c (if b then I64Const (pos (2 ^ count - 1)) ∷ Binary ty.I64 And ∷ [] else []) (having (long a os) locals) (having (I64 (pattern count a) ∷ os) locals) 2
signed_bits true m v c count a os locals e h =
    reaches (steps-then (steps-long_const m v c (pos (2 ^ count - 1)) (long a os) locals)
    (steps-long m v c And (pattern 64 a) (2 ^ count - 1) (pattern count a) os locals (ap (λ n. Gives n) (masked_long count a h))))
signed_bits false m v c count a os locals e h =
    let whole : 64 ≡ count = omega (arith, h, ltb-false count 64 e) in
    subst (λ k. Reaches m v c [] (having (long a os) locals) (having (I64 (pattern k a) ∷ os) locals) 2) whole
    (reaches-within (reaches (steps-none m v c (having (long a os) locals))) 2 (lit≤ tt))

unsigned_bits : (count : ℕ) (a : ℤ) → count ≤ 64 → IsIn (Sized false count) a → pattern 64 a ≡ pattern count a
unsigned_bits count (pos n) h i =
    let few = power_long count h in
    let some = pow_pos count in
    mod-eq_of_lt (omega (arith, ints, i.at_most, few, some)) ∙ sym (mod-eq_of_lt (omega (arith, ints, i.at_most, some)))
unsigned_bits count (negsuc n) h i = absurd (omega (arith, ints, i.at_least))

own : (m : Module) (v : View) (c : Config) (from : IntTy) (a : ℤ) (os locals : List Num) → IsStored from → IsIn from a → Reaches m v c (own_long from) (having (long a os) locals) (having (I64 (pattern (width from) a) ∷ os) locals) 2
own m v c (Sized true count) a os locals h i = signed_bits (nat_lt count 64) m v c count a os locals refl h
own m v c (Sized false count) a os locals h i =
    subst (λ n. Reaches m v c [] (having (long a os) locals) (having (I64 n ∷ os) locals) 2) (unsigned_bits count a h i)
    (reaches-within (reaches (steps-none m v c (having (long a os) locals))) 2 (lit≤ tt))
own m v c Comptime a os locals h i = absurd h

pub stored_width : (from : IntTy) → IsStored from → width from ≤ 64
stored_width (Sized signed count) h = h
stored_width Comptime h = absurd h

own_below : (from : IntTy) (a : ℤ) → IsStored from → pattern (width from) a < 2 ^ 64
own_below from a h = let few = power_long (width from) (stored_width from h) in let below = pattern_below (width from) a in omega (arith, few, below)

count_bits : (n : ℕ) → n ≤ 64 → n ≡ pattern 64 (pos n)
count_bits n h = sym (mod-eq_of_lt (omega (arith, h)))

-- a count on the operands, as a number
as_number : (m : Module) (v : View) (c : Config) (is : List Instr) (s n : ℕ) (a : ℤ) (os locals : List Num) (most : ℕ) → n ≤ 64 → Brings m v c is s (long a os) (I64 n ∷ os) locals most → Brings m v c is s (long a os) (long (pos n) os) locals most
as_number m v c is s n a os locals most h piece = subst (λ k. Brings m v c is s (long a os) (I64 k ∷ os) locals most) (count_bits n h) piece

pub wide_ones-ends : (m : Module) (v : View) (c : Config) (s : ℕ) (from to : IntTy) (a : ℤ) (os : List Num) (rest : List Instr) → IsStored from → IsIn from a → EndsOnOne m v c s from to a os (widened from ++ ((own_long from ++ Unary ty.I64 Popcnt ∷ []) ++ settled to)) rest (Ok (pos (count_ones (pattern (width from) a))))
wide_ones-ends m v c s from to a os rest hf i =
    let p = pattern (width from) a in
    let is = own_long from ++ Unary ty.I64 Popcnt ∷ [] in
    widened_ends m v c s from to a (pos (count_ones p)) os is rest 3 (lit≤ tt) hf i
    (as_number m v c is s (count_ones p) a os c.frame.locals 3 (ones-le 64 p (own_below from a hf)) (brings s (reaches-then (own m v c from a os c.frame.locals hf i) (reaches (steps-unary m v c Popcnt p os c.frame.locals)))))

fewer : (d q x : ℕ) → d ≤ 64 → q ≤ 64 → x ≡ d + q → (x + (2 ^ 64 - d)) % 2 ^ 64 ≡ q
fewer d q x h k e = omega (arith, h, k, e)

leads_zeros : (b : Bool) (m : Module) (v : View) (c : Config) (count p : ℕ) (os locals : List Num) → nat_lt count 64 ≡ b → count ≤ 64 → p < 2 ^ count → Reaches m v c (if b then I64Const (pos (64 - count)) ∷ Binary ty.I64 Sub ∷ [] else []) (having (I64 (count_leading_zeros 64 p) ∷ os) locals) (having (I64 (count_leading_zeros count p) ∷ os) locals) 2
leads_zeros true m v c count p os locals e h low =
    let q = count_leading_zeros count p in
    let small = leading_le count p in
    reaches (steps-then (steps-long_const m v c (pos (64 - count)) (I64 (count_leading_zeros 64 p) ∷ os) locals)
    (steps-long m v c Sub (count_leading_zeros 64 p) (64 - count) q os locals (ap (λ n. Gives n) (fewer (64 - count) q (count_leading_zeros 64 p) (omega arith) (omega (arith, small, h)) (leading_wider count 64 p low h)))))
leads_zeros false m v c count p os locals e h low =
    let whole : 64 ≡ count = omega (arith, h, ltb-false count 64 e) in
    subst (λ k. Reaches m v c [] (having (I64 (count_leading_zeros 64 p) ∷ os) locals) (having (I64 (count_leading_zeros k p) ∷ os) locals) 2) whole
    (reaches-within (reaches (steps-none m v c (having (I64 (count_leading_zeros 64 p) ∷ os) locals))) 2 (lit≤ tt))

pub wide_leading-ends : (m : Module) (v : View) (c : Config) (s : ℕ) (from to : IntTy) (a : ℤ) (os : List Num) (rest : List Instr) → IsStored from → IsIn from a → EndsOnOne m v c s from to a os (widened from ++ ((own_long from ++ (Unary ty.I64 Clz ∷ less_zeros from)) ++ settled to)) rest (Ok (pos (count_leading_zeros (width from) (pattern (width from) a))))
wide_leading-ends m v c s from to a os rest hf i =
    let w = width from in
    let p = pattern w a in
    let n = count_leading_zeros w p in
    let is = own_long from ++ (Unary ty.I64 Clz ∷ less_zeros from) in
    let small = leading_le w p in
    let narrow = stored_width from hf in
    widened_ends m v c s from to a (pos n) os is rest 5 (lit≤ tt) hf i
    (as_number m v c is s n a os c.frame.locals 5 (omega (arith, small, narrow))
    (brings s (reaches-then (own m v c from a os c.frame.locals hf i)
    (reaches-then (reaches (steps-unary m v c Clz p os c.frame.locals)) (leads_zeros (nat_lt w 64) m v c w p os c.frame.locals refl narrow (pattern_below w a))))))

chosen_count : (t : Bool) (x top : ℕ) → nat_lt x top ≡ t → (if not t then I64 top else I64 x) ≡ I64 (min x top)
chosen_count true x top e = ap (λ n. I64 n) (omega (arith, ltb-true x top e))
chosen_count false x top e = ap (λ n. I64 n) (omega (arith, ltb-false x top e))

bounded_count : (m : Module) (v : View) (c : Config) (s top x : ℕ) (os locals : List Num) → HasScratch s locals → Brings m v c (LocalTee (s + 4) ∷ I64Const (pos top) ∷ LocalGet (s + 4) ∷ I64Const (pos top) ∷ Compare ty.I64 LtU ∷ Select ∷ []) s (I64 x ∷ os) (I64 (min x top) ∷ os) locals 6
bounded_count m v c s top x os locals scratch =
    let after = slice_set locals (s + 4) (I64 x) in
    let there = slice_get-set_same locals (s + 4) (I64 x) (omega (arith, scratch)) in
    let t = nat_lt x top in
    let both = I64 top ∷ I64 x ∷ os in
    let chosen = subst (λ y. Moves m v c (Select ∷ []) (having (I32 (bit_of t) ∷ both) after) (having (y ∷ os) after) 1) (chosen_count t x top refl)
    (moves-select m v c (bit_of t) (not t) (I64 x) (I64 top) os after (bit-zero t)) in
    record {
      after = after;
      keeps = keeps-set s 4 locals locals (I64 x) (lit< tt) (keeps-same s locals);
      runs = reaches-then (moved (moves-tee m v c (s + 4) (I64 x) os locals (omega (arith, scratch))))
          (reaches-then (reaches (steps-long_const m v c (pos top) (I64 x ∷ os) after))
          (reaches-then (reaches (steps-get m v c (s + 4) (I64 x) both after there))
          (reaches-then (reaches (steps-long_const m v c (pos top) (I64 x ∷ both) after))
          (reaches-then (reaches (steps-compare_long m v c LtU x top t both after refl)) (moved chosen)))));
    }

trails_zeros : (b : Bool) (m : Module) (v : View) (c : Config) (s count p : ℕ) (os locals : List Num) → nat_lt count 64 ≡ b → count ≤ 64 → HasScratch s locals → Brings m v c (if b then LocalTee (s + 4) ∷ I64Const (pos count) ∷ LocalGet (s + 4) ∷ I64Const (pos count) ∷ Compare ty.I64 LtU ∷ Select ∷ [] else []) s (I64 (count_trailing_zeros 64 p) ∷ os) (I64 (count_trailing_zeros count p) ∷ os) locals 6
trails_zeros true m v c s count p os locals e h scratch =
    subst (λ n. Brings m v c (LocalTee (s + 4) ∷ I64Const (pos count) ∷ LocalGet (s + 4) ∷ I64Const (pos count) ∷ Compare ty.I64 LtU ∷ Select ∷ []) s (I64 (count_trailing_zeros 64 p) ∷ os) (I64 n ∷ os) locals 6) (trailing_narrow count 64 p h)
    (bounded_count m v c s count (count_trailing_zeros 64 p) os locals scratch)
trails_zeros false m v c s count p os locals e h scratch =
    let whole : 64 ≡ count = omega (arith, h, ltb-false count 64 e) in
    subst (λ k. Brings m v c [] s (I64 (count_trailing_zeros 64 p) ∷ os) (I64 (count_trailing_zeros k p) ∷ os) locals 6) whole
    (brings s (reaches-within (reaches (steps-none m v c (having (I64 (count_trailing_zeros 64 p) ∷ os) locals))) 6 (lit≤ tt)))

pub wide_trailing-ends : (m : Module) (v : View) (c : Config) (s : ℕ) (from to : IntTy) (a : ℤ) (os : List Num) (rest : List Instr) → IsStored from → IsIn from a → HasScratch s c.frame.locals → EndsOnOne m v c s from to a os (widened from ++ ((own_long from ++ (Unary ty.I64 Ctz ∷ long_at_most from s)) ++ settled to)) rest (Ok (pos (count_trailing_zeros (width from) (pattern (width from) a))))
wide_trailing-ends m v c s from to a os rest hf i scratch =
    let w = width from in
    let p = pattern w a in
    let n = count_trailing_zeros w p in
    let is = own_long from ++ (Unary ty.I64 Ctz ∷ long_at_most from s) in
    let small = trailing_le w p in
    let narrow = stored_width from hf in
    let last = trails_zeros (nat_lt w 64) m v c s w p os c.frame.locals refl narrow scratch in
    widened_ends m v c s from to a (pos n) os is rest 9 (lit≤ tt) hf i
    (as_number m v c is s n a os c.frame.locals 9 (omega (arith, small, narrow))
    (record { after = last.after; keeps = last.keeps; runs = reaches-then (own m v c from a os c.frame.locals hf i) (reaches-then (reaches (steps-unary m v c Ctz p os c.frame.locals)) last.runs) }))
