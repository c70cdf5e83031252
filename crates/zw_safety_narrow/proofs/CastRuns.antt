-- What the code of operators of one operand does when it runs.
use Rattle.std.proofs.Common.{◌≡◌, ℕ, ℤ, pos, negsuc, ◌+◌, ◌-◌, ◌*◌, ◌/◌, ◌%◌, ◌^◌, ◌<◌, ◌≤◌, ◌-ℤ◌, ◌*ℤ◌, ◌≤ℤ◌, neg_ℤ, Bool, true, false, not, List, [], ◌∷◌, ◌++◌, Ok, Err, refl, sym, ap, ◌∙◌, subst, arith, lit≤, lit<, FitsSigned}
use Rattle.std.specs.Prelude.{nat_eq, nat_lt, nat_le, int_lt, int_le, ◌&&◌, unsigned_abs, bit_xor, slice_set, Result, if◌then◌else◌}
use Rattle.std.proofs.lemmas.Bool.{ltb-true}
use Rattle.std.proofs.lemmas.Bool.Decides.{same_from_decides, Decides-eqb, Decides-int_eq}
use Rattle.std.proofs.lemmas.Int.{ints}
use Rattle.std.proofs.lemmas.Nat.{pow_pos, pow-add}
use Rattle.std.proofs.Math.Nat.{pow-le-pow_right, mod-eq_of_lt}
use Rattle.std.proofs.lemmas.Nat.Bits.{bit_at_xor, bit_at-lt, bit_at-zero, same_from_bits}
use Rattle.std.specs.Int.{w32, w64, bit_at}
use Rattle.std.specs.Ordering.{int_eq}
use Rattle.zw_num.specs.Meanings.{number_of_truth}
use Rattle.zw_num.proofs.WrappedLemmas.{test_from_in, wrapped_same}
use Rattle.zw_num.specs.Arithmetic.{IsIn, is_in, exact, least, pattern, wrapped, cast_to, bits_xor, bits_not}
use Rattle.zw_num.specs.declared.int_ty.IntTy.{IntTy}
use Rattle.zw_num.specs.declared.int_ty.IntTy.TheVariants.{Sized, Comptime}
use Rattle.zw_num.specs.declared.num_fault.NumFault.{NumFault}
use Rattle.zw_num.specs.declared.num_fault.NumFault.TheVariants.{Overflow, Truncated, Negative}
use Rattle.zw_safety_narrow.proofs.BitRuns.{xor_pattern}
use Rattle.zw_safety_narrow.proofs.Going.{Moves, Breaks, moves, breaks, andthen, behind, before, moves-tee, moves-select, moves-is_zero, leaves, panics}
use Rattle.zw_safety_narrow.proofs.Locals.{slice_get-set_same, keeps-same, keeps-set}
use Rattle.zw_safety_narrow.proofs.NarrowRuns.{filled-narrow, steps-fitted, steps-extension, long_kept, long-there, above_count, above-few, in_range-passes, in_range-fails}
use Rattle.zw_safety_narrow.proofs.OrderRuns.{Leads, leads, leads-then, keeps-first, has-scratch}
use Rattle.zw_safety_narrow.proofs.Orders.{read}
use Rattle.zw_safety_narrow.proofs.Pieces.{State, having, steps-get, steps-set, steps-const, steps-long_const, steps-long, steps-wrap, steps-word, steps-compare_word, steps-none, steps-passed, fails-panics}
use Rattle.zw_safety_narrow.proofs.Words.{IsWord, IsLong, word-narrow, fits_signed, mul_bits, lift_word, wrap_long}
use Rattle.zw_safety_narrow.specs.CastCode.{tested, above, outside, negative, cast_code, holds, truncated_code, negated, negated_code, opposite_code, turned_code, distance, distance_code}
use Rattle.zw_safety_narrow.specs.Checked.{HasScratch, HasPanicState}
use Rattle.zw_safety_narrow.specs.NarrowCode.{extension, fitted}
use Rattle.zw_safety_narrow.specs.WordCode.{not_code}
use Rattle.zw_safety_narrow.specs.Operators.{IsNarrow, EndsWith, cause_of, filled}
use Rattle.zw_wasm.specs.declared.module.BinaryOperator.TheVariants.{Add, Mul, Xor}
use Rattle.zw_wasm.specs.declared.module.Comparison.TheVariants.{LtS, GtU}
use Rattle.zw_wasm.specs.declared.module.Conversion.TheVariants.{Wrap}
use Rattle.zw_wasm.specs.declared.module.Instr.{Instr}
use Rattle.zw_wasm.specs.declared.module.Instr.TheVariants.{LocalGet, LocalSet, I64Const, Binary, Convert, Select}
use Rattle.zw_wasm.specs.declared.module.Module.{Module}
use Rattle.zw_wasm.specs.declared.module.ValType.TheVariants as ty
use Rattle.zw_wasm.specs.declared.num.Num.{Num}
use Rattle.zw_wasm.specs.declared.num.Num.TheVariants.{I32, I64}
use Rattle.zw_wasm.specs.Numerics.{Gives, bit_of}
use Rattle.zw_wasm.specs.Reduction.{Config}
use Rattle.zw_wasm.specs.Sequences.{placed}
use Rattle.zw_wasm.specs.Signature.{View}
use Rattle.zw_wasm.specs.Structure.{code_of}

-- ---- an operand as its type fills it

abbrev pub EndsOnOne : Module → View → Config → ℕ → IntTy → IntTy → ℤ → List Num → List Instr → List Instr → Result ℤ NumFault → Type 0
EndsOnOne m v c s from to a os is rest answer = EndsWith m v s to answer (placed (code_of (is ++ rest)) (filled from a ∷ os) c) (code_of rest) os

-- the operand on the others
abbrev pub word : ℤ → List Num → List Num
word a os = I32 (pattern 32 a) ∷ os

pub on_word : (m : Module) (v : View) (c : Config) (s : ℕ) (from to : IntTy) (a : ℤ) (os : List Num) (is rest : List Instr) (answer : Result ℤ NumFault) → IsNarrow from → EndsWith m v s to answer (placed (code_of (is ++ rest)) (word a os) c) (code_of rest) os → EndsOnOne m v c s from to a os is rest answer
on_word m v c s from to a os is rest answer h ends =
    subst (λ x. EndsWith m v s to answer (placed (code_of (is ++ rest)) (x ∷ os) c) (code_of rest) os) (sym (filled-narrow from a h)) ends

-- a piece that leaves the bits of a number
pub one_ends_with : (m : Module) (v : View) (c : Config) (s : ℕ) (from to : IntTy) (a z : ℤ) (os : List Num) (is rest : List Instr) (n most : ℕ) → IsNarrow from → IsNarrow to → most ≤ 128 → n ≡ pattern 32 z → Leads m v c is s (word a os) (I32 n ∷ os) c.frame.locals most → EndsOnOne m v c s from to a os is rest (Ok z)
one_ends_with m v c s from to a z os is rest n most hf ht few e piece =
    on_word m v c s from to a os is rest (Ok z) hf
    (leaves m v c s to z (word a os) os piece.after is rest most ht piece.keeps few
    (subst (λ k. Moves m v c is (having (word a os) c.frame.locals) (having (I32 k ∷ os) piece.after) most) e piece.runs))

-- a piece that leaves its operand as it is, or tells a cause, by a test
pub record Checks (m : Module) (v : View) (c : Config) (is : List Instr) (s : ℕ) (a : ℤ) (os locals : List Num) (t : Bool) (cause : ℕ) : Type 0 where
  pub passes : t ≡ true → Leads m v c is s (word a os) (word a os) locals 13
  pub fails : t ≡ false → Breaks m v c is (having (word a os) locals) cause 13

-- ---- an operand that is tested

pub tested-checks : (m : Module) (v : View) (c : Config) (test : List Instr) (cause s : ℕ) (a : ℤ) (os locals : List Num) (t : Bool) → HasScratch s locals → HasPanicState c.world.store →
    ((after : List Num) → Moves m v c test (having (word a os) after) (having (I32 (bit_of (not t)) ∷ os) after) 4) → Checks m v c (tested test cause s) s a os locals t cause
tested-checks m v c test cause s a os locals t scratch state test-runs =
    let x = I32 (pattern 32 a) in
    let after = slice_set locals s x in
    let first = moves-tee m v c s x os locals (omega (arith, scratch)) in
    record {
      passes = λ e. record {
        after = after;
        keeps = keeps-first s locals locals x (keeps-same s locals);
        runs = (
            let second = subst (λ b. Moves m v c test (having (word a os) after) (having (I32 (bit_of (not b)) ∷ os) after) 4) e (test-runs after) in
            let all = andthen first (andthen second (andthen (moves (steps-passed m v c cause os after)) (moves (steps-get m v c s x os after (slice_get-set_same locals s x (omega (arith, scratch))))))) in
            record { count = all.count; few = omega (arith, all.few); steps = all.steps }
            );
      };
      fails = λ e.
          let second = subst (λ b. Moves m v c test (having (word a os) after) (having (I32 (bit_of (not b)) ∷ os) after) 4) e (test-runs after) in
          let all = behind first (behind second (before (breaks (fails-panics m v c cause os after state)) (LocalGet s ∷ []))) in
          record { count = all.count; few = omega (arith, all.few); fails = all.fails };
    }

-- by a test the operand is the answer, or there is none
pub checked_for : (t : Bool) (m : Module) (v : View) (c : Config) (s : ℕ) (from to : IntTy) (a : ℤ) (os : List Num) (is rest : List Instr) (fault : NumFault) → IsNarrow from → IsNarrow to → Checks m v c is s a os c.frame.locals t (cause_of fault) → EndsOnOne m v c s from to a os is rest (if t then Ok a else Err fault)
checked_for true m v c s from to a os is rest fault hf ht checks =
    one_ends_with m v c s from to a a os is rest (pattern 32 a) 13 hf ht (lit≤ tt) refl (checks.passes refl)
checked_for false m v c s from to a os is rest fault hf ht checks =
    on_word m v c s from to a os is rest (Err fault) hf (panics m v c s to fault (word a os) os is rest 13 (lit≤ tt) (checks.fails refl))

-- nothing stands there
pub stays : (m : Module) (v : View) (c : Config) (s : ℕ) (from to : IntTy) (a z : ℤ) (os : List Num) (rest : List Instr) → IsNarrow from → IsNarrow to → pattern 32 a ≡ pattern 32 z → EndsOnOne m v c s from to a os [] rest (Ok z)
stays m v c s from to a z os rest hf ht e =
    one_ends_with m v c s from to a z os [] rest (pattern 32 a) 0 hf ht (lit≤ tt) e (leads s (moves (steps-none m v c (having (word a os) c.frame.locals))))

-- ---- the tests of a cast

moves-above : (m : Module) (v : View) (c : Config) (top n : ℕ) (t : Bool) (os locals : List Num) → nat_lt top n ≡ not t → Moves m v c (above top) (having (I32 n ∷ os) locals) (having (I32 (bit_of (not t)) ∷ os) locals) 2
moves-above m v c top n t os locals e =
    andthen (moves (steps-const m v c (pos top) (I32 n ∷ os) locals)) (moves (steps-compare_word m v c GtU n top (not t) os locals e))

pub moves-negative : (m : Module) (v : View) (c : Config) (z : ℤ) (os locals : List Num) → FitsSigned w32 z → Moves m v c negative (having (word z os) locals) (having (I32 (bit_of (int_lt z (pos 0))) ∷ os) locals) 2
moves-negative m v c z os locals h =
    andthen (moves (steps-const m v c (pos 0) (word z os) locals))
    (moves (steps-compare_word m v c LtS (pattern 32 z) 0 (int_lt z (pos 0)) os locals (ap (λ x. int_lt x (pos 0)) (read w32 z h))))

-- a number of 32 bits from the least value of a type on
far_word : (y : ℤ) (top : ℕ) → top < 2 ^ 31 → neg_ℤ (pos (2 ^ 31)) ≤ℤ y → y ≤ℤ pos (2 ^ 32 - 1) → nat_lt top (pattern 32 y) ≡ not (int_le (pos 0) y && int_le y (pos top))
far_word (pos n) top h low high = let same : n % 2 ^ 32 ≡ n = omega (arith, ints, high) in grind (arith, ints, same)
far_word (negsuc n) top h low high = let far : 2 ^ 31 ≤ 2 ^ 32 - 1 - n % 2 ^ 32 = omega (arith, ints, low) in grind (arith, ints, far)

from_least : (count : ℕ) (z : ℤ) → (int_le (pos 0) (z -ℤ least (Sized true count)) && int_le (z -ℤ least (Sized true count)) (pos (2 ^ count - 1))) ≡ is_in (Sized true count) z
from_least count z = let some = pow_pos count in grind (arith, ints, some)

lower_power : (count : ℕ) → count ≤ 31 → 2 ^ count ≤ 2 ^ 31
lower_power count h = pow-le-pow_right {n = 2} (omega arith) h

tells_outside : (count : ℕ) (z : ℤ) → count ≤ 31 → FitsSigned w32 z → nat_lt (2 ^ count - 1) (pattern 32 (z -ℤ least (Sized true count))) ≡ not (is_in (Sized true count) z)
tells_outside count z h fits =
    let few = lower_power count h in
    let some = pow_pos count in
    far_word (z -ℤ least (Sized true count)) (2 ^ count - 1) (omega (arith, few, some)) (omega (arith, ints, fits.sfits)) (omega (arith, ints, fits.sfits, few))
    ∙ ap not (from_least count z)

moves-outside : (m : Module) (v : View) (c : Config) (count : ℕ) (z : ℤ) (os locals : List Num) → count ≤ 31 → FitsSigned w32 z → Moves m v c (outside count) (having (word z os) locals) (having (I32 (bit_of (not (is_in (Sized true count) z))) ∷ os) locals) 4
moves-outside m v c count z os locals h fits =
    let wide : count ≤ 32 = omega arith in
    let y = pattern 32 (z -ℤ least (Sized true count)) in
    andthen (moves (steps-const m v c (pos (2 ^ count / 2)) (word z os) locals))
    (andthen (moves (steps-word m v c Add (pattern 32 z) (2 ^ count / 2) y os locals (ap (λ n. Gives n) (lift_word count z wide))))
    (moves-above m v c (2 ^ count - 1) y (is_in (Sized true count) z) os locals (tells_outside count z h fits)))

-- a number from 0 on is a value of a type where it is at most the greatest
unsigned_test : (count n : ℕ) → nat_lt (2 ^ count - 1) n ≡ not (is_in (Sized false count) (pos n))
unsigned_test count n = grind (arith, ints)

signed_test : (count n : ℕ) → nat_lt ((2 ^ count - 1) / 2) n ≡ not (is_in (Sized true count) (pos n))
signed_test count n = grind (arith, ints)

-- a number from 0 on in 32 bits
low_bits : (n : ℕ) (t : IntTy) → IsNarrow t → IsIn t (pos n) → pattern 32 (pos n) ≡ n
low_bits n t h i = let word = word-narrow t (pos n) h i in mod-eq_of_lt (omega (arith, ints, word.high))

pub few-moves : {m : Module} {v : View} {c : Config} {is : List Instr} {s t : State} {few : ℕ} (most : ℕ) → few ≤ most → Moves m v c is s t few → Moves m v c is s t most
few-moves {m} {v} {c} {is} {s} {t} {few} most h runs = record { count = runs.count; few = omega (arith, h, runs.few); steps = runs.steps }

above-checks : (m : Module) (v : View) (c : Config) (top s n : ℕ) (os locals : List Num) (t : Bool) → HasScratch s locals → HasPanicState c.world.store → pattern 32 (pos n) ≡ n → nat_lt top n ≡ not t → Checks m v c (tested (above top) 11 s) s (pos n) os locals t 11
above-checks m v c top s n os locals t scratch state same e =
    tested-checks m v c (above top) 11 s (pos n) os locals t scratch state
    (λ after. few-moves 4 (lit≤ tt) (moves-above m v c top (pattern 32 (pos n)) t os after (ap (λ k. nat_lt top k) same ∙ e)))

-- ---- casts, by the signs of both types

power_more : (n : ℕ) → 2 ^ (n + 1) ≡ 2 * 2 ^ n
power_more n = omega (arith, pow-add 2 n 1)

pub holds_in : (to from : IntTy) (z : ℤ) → holds to from ≡ true → IsIn from z → IsIn to z
holds_in (Sized true to) (Sized true from) z e i = let few : 2 ^ from ≤ 2 ^ to = pow-le-pow_right {n = 2} (omega arith) (grind (arith, e)) in record { at_least = omega (arith, ints, i.at_least, few); at_most = omega (arith, ints, i.at_most, few) }
holds_in (Sized true to) (Sized false from) z e i =
    let few : 2 ^ (from + 1) ≤ 2 ^ to = pow-le-pow_right {n = 2} (omega arith) (grind (arith, e)) in
    record { at_least = omega (arith, ints, i.at_least); at_most = omega (arith, ints, i.at_most, few, power_more from) }
holds_in (Sized false to) (Sized false from) z e i = let few : 2 ^ from ≤ 2 ^ to = pow-le-pow_right {n = 2} (omega arith) (grind (arith, e)) in record { at_least = i.at_least; at_most = omega (arith, ints, i.at_most, few) }
holds_in (Sized false to) (Sized true from) z e i = absurd (cc)
holds_in (Sized false to) Comptime z e i = absurd (cc)
holds_in (Sized true to) Comptime z e i = absurd (cc)
holds_in Comptime from z e i = absurd (cc)

signed_cast_for : (b : Bool) (m : Module) (v : View) (c : Config) (s from to : ℕ) (a : ℤ) (os : List Num) (rest : List Instr) → nat_le from to ≡ b → from ≤ 32 → to ≤ 32 → IsIn (Sized true from) a → HasScratch s c.frame.locals → HasPanicState c.world.store →
    EndsOnOne m v c s (Sized true from) (Sized true to) a os (if b then [] else tested (outside to) 11 s) rest (if is_in (Sized true to) a then Ok a else Err Truncated)
signed_cast_for true m v c s from to a os rest e hf ht i scratch state =
    subst (λ t. EndsOnOne m v c s (Sized true from) (Sized true to) a os [] rest (if t then Ok a else Err Truncated)) (sym (test_from_in (Sized true to) a (holds_in (Sized true to) (Sized true from) a e i)))
    (stays m v c s (Sized true from) (Sized true to) a a os rest hf ht refl)
signed_cast_for false m v c s from to a os rest e hf ht i scratch state =
    let low : to ≤ 31 = grind (arith, e, hf) in
    let t = is_in (Sized true to) a in
    checked_for t m v c s (Sized true from) (Sized true to) a os (tested (outside to) 11 s) rest Truncated hf ht
    (tested-checks m v c (outside to) 11 s a os c.frame.locals t scratch state (λ after. moves-outside m v c to a os after low (fits_signed from a hf i)))

to_signed_for : (b : Bool) (m : Module) (v : View) (c : Config) (s from to n : ℕ) (os : List Num) (rest : List Instr) → nat_lt from to ≡ b → from ≤ 32 → to ≤ 32 → IsIn (Sized false from) (pos n) → HasScratch s c.frame.locals → HasPanicState c.world.store →
    EndsOnOne m v c s (Sized false from) (Sized true to) (pos n) os (if b then [] else tested (above ((2 ^ to - 1) / 2)) 11 s) rest (if is_in (Sized true to) (pos n) then Ok (pos n) else Err Truncated)
to_signed_for true m v c s from to n os rest e hf ht i scratch state =
    subst (λ t. EndsOnOne m v c s (Sized false from) (Sized true to) (pos n) os [] rest (if t then Ok (pos n) else Err Truncated)) (sym (test_from_in (Sized true to) (pos n) (holds_in (Sized true to) (Sized false from) (pos n) e i)))
    (stays m v c s (Sized false from) (Sized true to) (pos n) (pos n) os rest hf ht refl)
to_signed_for false m v c s from to n os rest e hf ht i scratch state =
    let t = is_in (Sized true to) (pos n) in
    let top = (2 ^ to - 1) / 2 in
    checked_for t m v c s (Sized false from) (Sized true to) (pos n) os (tested (above top) 11 s) rest Truncated hf ht
    (above-checks m v c top s n os c.frame.locals t scratch state (low_bits n (Sized false from) hf i) (signed_test to n))

unsigned_cast_for : (b : Bool) (m : Module) (v : View) (c : Config) (s from to n : ℕ) (os : List Num) (rest : List Instr) → nat_le from to ≡ b → from ≤ 32 → to ≤ 32 → IsIn (Sized false from) (pos n) → HasScratch s c.frame.locals → HasPanicState c.world.store →
    EndsOnOne m v c s (Sized false from) (Sized false to) (pos n) os (if b then [] else tested (above (2 ^ to - 1)) 11 s) rest (if is_in (Sized false to) (pos n) then Ok (pos n) else Err Truncated)
unsigned_cast_for true m v c s from to n os rest e hf ht i scratch state =
    subst (λ t. EndsOnOne m v c s (Sized false from) (Sized false to) (pos n) os [] rest (if t then Ok (pos n) else Err Truncated)) (sym (test_from_in (Sized false to) (pos n) (holds_in (Sized false to) (Sized false from) (pos n) e i)))
    (stays m v c s (Sized false from) (Sized false to) (pos n) (pos n) os rest hf ht refl)
unsigned_cast_for false m v c s from to n os rest e hf ht i scratch state =
    let t = is_in (Sized false to) (pos n) in
    let top = 2 ^ to - 1 in
    checked_for t m v c s (Sized false from) (Sized false to) (pos n) os (tested (above top) 11 s) rest Truncated hf ht
    (above-checks m v c top s n os c.frame.locals t scratch state (low_bits n (Sized false from) hf i) (unsigned_test to n))

-- from a signed type to an unsigned one: first the sign
not_negative : (n : ℕ) → int_lt (pos n) (pos 0) ≡ false
not_negative n = grind (arith, ints)

sign-checks : (m : Module) (v : View) (c : Config) (s : ℕ) (a : ℤ) (os locals : List Num) (t : Bool) → HasScratch s locals → HasPanicState c.world.store → FitsSigned w32 a → int_lt a (pos 0) ≡ not t → Checks m v c (tested negative 12 s) s a os locals t 12
sign-checks m v c s a os locals t scratch state fits e =
    tested-checks m v c negative 12 s a os locals t scratch state
    (λ after. few-moves 4 (lit≤ tt) (subst (λ b. Moves m v c negative (having (word a os) after) (having (I32 (bit_of b) ∷ os) after) 2) e (moves-negative m v c a os after fits)))

-- a value from 0 on of a signed type with one bit more
one_bit_more : (from to n : ℕ) → from ≤ to + 1 → IsIn (Sized true from) (pos n) → is_in (Sized false to) (pos n) ≡ true
one_bit_more from to n h i =
    let few : 2 ^ from ≤ 2 ^ (to + 1) = pow-le-pow_right {n = 2} (omega arith) h in
    test_from_in (Sized false to) (pos n) (record { at_least = omega (arith, ints); at_most = omega (arith, ints, i.at_most, few, power_more to) })

to_unsigned_for : (b t : Bool) (m : Module) (v : View) (c : Config) (s from to n : ℕ) (os : List Num) (rest : List Instr) → nat_le from (to + 1) ≡ b → is_in (Sized false to) (pos n) ≡ t → from ≤ 32 → to ≤ 32 → IsIn (Sized true from) (pos n) → HasScratch s c.frame.locals → HasPanicState c.world.store →
    EndsOnOne m v c s (Sized true from) (Sized false to) (pos n) os (tested negative 12 s ++ (if b then [] else tested (above (2 ^ to - 1)) 11 s)) rest (if t then Ok (pos n) else Err Truncated)
to_unsigned_for true true m v c s from to n os rest e f hf ht i scratch state =
    let first = (sign-checks m v c s (pos n) os c.frame.locals true scratch state (fits_signed from (pos n) hf i) (not_negative n)).passes refl in
    one_ends_with m v c s (Sized true from) (Sized false to) (pos n) (pos n) os (tested negative 12 s ++ []) rest (pattern 32 (pos n)) 26 hf ht (lit≤ tt) refl
    (leads-then first (leads s (few-moves 13 (lit≤ tt) (moves (steps-none m v c (having (word (pos n) os) first.after))))))
to_unsigned_for true false m v c s from to n os rest e f hf ht i scratch state =
    let less : from ≤ to + 1 = grind (arith, e) in
    let inside = one_bit_more from to n less i in
    absurd (cc)
to_unsigned_for false true m v c s from to n os rest e f hf ht i scratch state =
    let first = (sign-checks m v c s (pos n) os c.frame.locals true scratch state (fits_signed from (pos n) hf i) (not_negative n)).passes refl in
    let same = low_bits n (Sized true from) hf i in
    let second = above-checks m v c (2 ^ to - 1) s n os first.after true (has-scratch s c.frame.locals first.after first.keeps scratch) state same (unsigned_test to n ∙ ap not f) in
    one_ends_with m v c s (Sized true from) (Sized false to) (pos n) (pos n) os (tested negative 12 s ++ tested (above (2 ^ to - 1)) 11 s) rest (pattern 32 (pos n)) 26 hf ht (lit≤ tt) refl
    (leads-then first (second.passes refl))
to_unsigned_for false false m v c s from to n os rest e f hf ht i scratch state =
    let first = (sign-checks m v c s (pos n) os c.frame.locals true scratch state (fits_signed from (pos n) hf i) (not_negative n)).passes refl in
    let same = low_bits n (Sized true from) hf i in
    let second = above-checks m v c (2 ^ to - 1) s n os first.after false (has-scratch s c.frame.locals first.after first.keeps scratch) state same (unsigned_test to n ∙ ap not f) in
    on_word m v c s (Sized true from) (Sized false to) (pos n) os (tested negative 12 s ++ tested (above (2 ^ to - 1)) 11 s) rest (Err Truncated) hf
    (panics m v c s (Sized false to) Truncated (word (pos n) os) os (tested negative 12 s ++ tested (above (2 ^ to - 1)) 11 s) rest 26 (lit≤ tt) (behind first.runs (second.fails refl)))

negative_to_unsigned : (m : Module) (v : View) (c : Config) (s from to n : ℕ) (os : List Num) (more rest : List Instr) → from ≤ 32 → IsIn (Sized true from) (negsuc n) → HasScratch s c.frame.locals → HasPanicState c.world.store → EndsOnOne m v c s (Sized true from) (Sized false to) (negsuc n) os (tested negative 12 s ++ more) rest (Err Negative)
negative_to_unsigned m v c s from to n os more rest hf i scratch state =
    let first = (sign-checks m v c s (negsuc n) os c.frame.locals false scratch state (fits_signed from (negsuc n) hf i) refl).fails refl in
    on_word m v c s (Sized true from) (Sized false to) (negsuc n) os (tested negative 12 s ++ more) rest (Err Negative) hf
    (panics m v c s (Sized false to) Negative (word (negsuc n) os) os (tested negative 12 s ++ more) rest 13 (lit≤ tt) (before first more))

pub cast-ends : (m : Module) (v : View) (c : Config) (s : ℕ) (from to : IntTy) (a : ℤ) (os : List Num) (rest : List Instr) → IsNarrow from → IsNarrow to → IsIn from a → HasScratch s c.frame.locals → HasPanicState c.world.store → EndsOnOne m v c s from to a os (cast_code from to s) rest (cast_to to a)
cast-ends m v c s (Sized true from) (Sized true to) a os rest hf ht i scratch state = signed_cast_for (nat_le from to) m v c s from to a os rest refl hf ht i scratch state
cast-ends m v c s (Sized false from) (Sized true to) (pos n) os rest hf ht i scratch state = to_signed_for (nat_lt from to) m v c s from to n os rest refl hf ht i scratch state
cast-ends m v c s (Sized false from) (Sized true to) (negsuc n) os rest hf ht i scratch state = absurd (omega (arith, ints, i.at_least))
cast-ends m v c s (Sized false from) (Sized false to) (pos n) os rest hf ht i scratch state = unsigned_cast_for (nat_le from to) m v c s from to n os rest refl hf ht i scratch state
cast-ends m v c s (Sized false from) (Sized false to) (negsuc n) os rest hf ht i scratch state = absurd (omega (arith, ints, i.at_least))
cast-ends m v c s (Sized true from) (Sized false to) (pos n) os rest hf ht i scratch state =
    to_unsigned_for (nat_le from (to + 1)) (is_in (Sized false to) (pos n)) m v c s from to n os rest refl refl hf ht i scratch state
cast-ends m v c s (Sized true from) (Sized false to) (negsuc n) os rest hf ht i scratch state =
    negative_to_unsigned m v c s from to n os (if nat_le from (to + 1) then [] else tested (above (2 ^ to - 1)) 11 s) rest hf i scratch state
cast-ends m v c s Comptime to a os rest hf ht i scratch state = absurd hf
cast-ends m v c s (Sized true from) Comptime a os rest hf ht i scratch state = absurd ht
cast-ends m v c s (Sized false from) Comptime a os rest hf ht i scratch state = absurd ht

-- ---- the lowest bits

pub fits : (m : Module) (v : View) (c : Config) (to : IntTy) (z : ℤ) (os locals : List Num) → IsNarrow to → Moves m v c (fitted to) (having (word z os) locals) (having (word (wrapped to z) os) locals) 6
fits m v c to z os locals h = let steps = steps-fitted m v c to z os locals h in record { count = steps.0; few = steps.1; steps = steps.2 }

pub same_value : (to from : IntTy) (a : ℤ) → IsNarrow to → holds to from ≡ true → IsIn from a → wrapped to a ≡ a
same_value (Sized signed to) from a h e i = wrapped_same signed to a (holds_in (Sized signed to) from a e i)
same_value Comptime from a h e i = absurd h

truncated_for : (b : Bool) (m : Module) (v : View) (c : Config) (s : ℕ) (from to : IntTy) (a : ℤ) (os : List Num) (rest : List Instr) → holds to from ≡ b → IsNarrow from → IsNarrow to → IsIn from a → EndsOnOne m v c s from to a os (if b then [] else fitted to) rest (Ok (wrapped to a))
truncated_for true m v c s from to a os rest e hf ht i = stays m v c s from to a (wrapped to a) os rest hf ht (ap (pattern 32) (sym (same_value to from a ht e i)))
truncated_for false m v c s from to a os rest e hf ht i =
    one_ends_with m v c s from to a (wrapped to a) os (fitted to) rest (pattern 32 (wrapped to a)) 6 hf ht (lit≤ tt) refl (leads s (fits m v c to a os c.frame.locals ht))

pub truncated-ends : (m : Module) (v : View) (c : Config) (s : ℕ) (from to : IntTy) (a : ℤ) (os : List Num) (rest : List Instr) → IsNarrow from → IsNarrow to → IsIn from a → EndsOnOne m v c s from to a os (truncated_code from to) rest (Ok (wrapped to a))
truncated-ends m v c s from to a os rest hf ht i = truncated_for (holds to from) m v c s from to a os rest refl hf ht i

-- ---- the other side of 0

pub minus_one : (z : ℤ) → z *ℤ negsuc 0 ≡ neg_ℤ z
minus_one z = omega (arith, ints)

negates : (m : Module) (v : View) (c : Config) (z : ℤ) (os locals : List Num) → Moves m v c negated (having (word z os) locals) (having (word (neg_ℤ z) os) locals) 2
negates m v c z os locals =
    andthen (moves (steps-const m v c (negsuc 0) (word z os) locals))
    (moves (steps-word m v c Mul (pattern 32 z) (pattern 32 (negsuc 0)) (pattern 32 (neg_ℤ z)) os locals (ap (λ n. Gives n) (mul_bits w32 z (negsuc 0) ∙ ap (pattern 32) (minus_one z)))))

pub negated-ends : (m : Module) (v : View) (c : Config) (s : ℕ) (from to : IntTy) (a : ℤ) (os : List Num) (rest : List Instr) → IsNarrow from → IsNarrow to → EndsOnOne m v c s from to a os (negated_code to) rest (Ok (wrapped to (neg_ℤ a)))
negated-ends m v c s from to a os rest hf ht =
    let z = neg_ℤ a in
    one_ends_with m v c s from to a (wrapped to z) os (negated_code to) rest (pattern 32 (wrapped to z)) 8 hf ht (lit≤ tt) refl
    (leads s (andthen (negates m v c a os c.frame.locals) (fits m v c to z os c.frame.locals ht)))

-- ---- how far a number is from 0

bit-zero : (t : Bool) → nat_eq (bit_of t) 0 ≡ not t
bit-zero true = refl
bit-zero false = refl

chosen_side : (t : Bool) (a : ℤ) → int_lt a (pos 0) ≡ t → (if not t then I32 (pattern 32 a) else I32 (pattern 32 (neg_ℤ a))) ≡ I32 (pattern 32 (pos (unsigned_abs a)))
chosen_side true (negsuc n) e = refl
chosen_side true (pos n) e = absurd (omega (arith, ltb-true n 0 e))
chosen_side false (pos n) e = refl
chosen_side false (negsuc n) e = absurd (cc)

distances : (m : Module) (v : View) (c : Config) (s : ℕ) (a : ℤ) (os locals : List Num) → HasScratch s locals → FitsSigned w32 a → Leads m v c (distance s) s (word a os) (I32 (pattern 32 (pos (unsigned_abs a))) ∷ os) locals 8
distances m v c s a os locals scratch h =
    let x = I32 (pattern 32 a) in
    let after = slice_set locals s x in
    let there = slice_get-set_same locals s x (omega (arith, scratch)) in
    let t = int_lt a (pos 0) in
    let below = word (neg_ℤ a) os in
    let chosen = subst (λ y. Moves m v c (Select ∷ []) (having (I32 (bit_of t) ∷ word a below) after) (having (y ∷ os) after) 1) (chosen_side t a refl)
    (moves-select m v c (bit_of t) (not t) (I32 (pattern 32 (neg_ℤ a))) x os after (bit-zero t)) in
    record {
      after = after;
      keeps = keeps-first s locals locals x (keeps-same s locals);
      runs = andthen (moves-tee m v c s x os locals (omega (arith, scratch)))
          (andthen (negates m v c a os after)
          (andthen (moves (steps-get m v c s x below after there))
          (andthen (moves (steps-get m v c s x (word a below) after there))
          (andthen (moves-negative m v c a (word a below) after h) chosen))));
    }

pub distance-ends : (m : Module) (v : View) (c : Config) (s : ℕ) (from to : IntTy) (a : ℤ) (os : List Num) (rest : List Instr) → IsNarrow from → IsNarrow to → IsIn from a → HasScratch s c.frame.locals → EndsOnOne m v c s from to a os (distance_code from s) rest (Ok (pos (unsigned_abs a)))
distance-ends m v c s (Sized true count) to a os rest hf ht i scratch =
    one_ends_with m v c s (Sized true count) to a (pos (unsigned_abs a)) os (distance s) rest (pattern 32 (pos (unsigned_abs a))) 8 hf ht (lit≤ tt) refl
    (distances m v c s a os c.frame.locals scratch (fits_signed count a hf i))
distance-ends m v c s (Sized false count) to (pos n) os rest hf ht i scratch = stays m v c s (Sized false count) to (pos n) (pos n) os rest hf ht refl
distance-ends m v c s (Sized false count) to (negsuc n) os rest hf ht i scratch = absurd (omega (arith, ints, i.at_least))
distance-ends m v c s Comptime to a os rest hf ht i scratch = absurd hf

-- ---- the other truth value

pub zero_is : (a : ℤ) → IsWord a → pattern 32 a ≡ 0 → a ≡ pos 0
zero_is (pos n) h e = let same : n % 2 ^ 32 ≡ n = omega (arith, ints, h.high) in ap (λ k. pos k) (sym same ∙ e)
zero_is (negsuc n) h e = absurd (omega (arith, ints, h.low, e))

zero_test : (a : ℤ) → IsWord a → nat_eq (pattern 32 a) 0 ≡ int_eq a (pos 0)
zero_test a h =
    let test = Decides-eqb (pattern 32 a) 0 in
    same_from_decides {P = a ≡ pos 0} (nat_eq (pattern 32 a) 0) (int_eq a (pos 0)) (λ e. zero_is a h (test.0 e), λ e. test.1 (ap (pattern 32) e)) (Decides-int_eq a (pos 0))

pub truth_bits : (t : Bool) → bit_of t ≡ pattern 32 (number_of_truth t)
truth_bits true = refl
truth_bits false = refl

pub not-ends : (m : Module) (v : View) (c : Config) (s : ℕ) (from to : IntTy) (a : ℤ) (os : List Num) (rest : List Instr) → IsNarrow from → IsNarrow to → IsIn from a → EndsOnOne m v c s from to a os not_code rest (Ok (number_of_truth (int_eq a (pos 0))))
not-ends m v c s from to a os rest hf ht i =
    let t = int_eq a (pos 0) in
    one_ends_with m v c s from to a (number_of_truth t) os not_code rest (bit_of t) 1 hf ht (lit≤ tt) (truth_bits t)
    (leads s (moves-is_zero m v c (pattern 32 a) t os c.frame.locals (zero_test a (word-narrow from a hf i))))

-- ---- `-` in 64 bits

negates_long : (m : Module) (v : View) (c : Config) (from : IntTy) (s : ℕ) (a : ℤ) (os locals : List Num) → IsNarrow from → IsIn from a → HasScratch s locals → Moves m v c (Convert (extension from) ∷ I64Const (negsuc 0) ∷ Binary ty.I64 Mul ∷ LocalSet (s + 4) ∷ LocalGet (s + 4) ∷ []) (having (word a os) locals) (having (I64 (pattern 64 (neg_ℤ a)) ∷ os) (long_kept s (neg_ℤ a) locals)) 5
negates_long m v c from s a os locals hf i scratch =
    let x = I64 (pattern 64 (neg_ℤ a)) in
    andthen (moves (steps-extension m v c from a os locals hf i))
    (andthen (moves (steps-long_const m v c (negsuc 0) (I64 (pattern 64 a) ∷ os) locals))
    (andthen (moves (steps-long m v c Mul (pattern 64 a) (pattern 64 (negsuc 0)) (pattern 64 (neg_ℤ a)) os locals (ap (λ n. Gives n) (mul_bits w64 a (negsuc 0) ∙ ap (pattern 64) (minus_one a)))))
    (andthen (moves (steps-set m v c (s + 4) x os locals (omega (arith, scratch))))
    (moves (steps-get m v c (s + 4) x os (long_kept s (neg_ℤ a) locals) (long-there s (neg_ℤ a) locals scratch))))))

long_negative : (a : ℤ) → IsWord a → IsLong (neg_ℤ a)
long_negative a h = record { low = omega (arith, ints, h.high); high = omega (arith, ints, h.low) }

opposite_for : (t : Bool) (m : Module) (v : View) (c : Config) (s : ℕ) (from to : IntTy) (a : ℤ) (os : List Num) (rest : List Instr) → is_in to (neg_ℤ a) ≡ t → IsNarrow from → IsNarrow to → IsIn from a → HasScratch s c.frame.locals → HasPanicState c.world.store → EndsOnOne m v c s from to a os (opposite_code from to s) rest (if t then Ok (neg_ℤ a) else Err Overflow)
opposite_for true m v c s from to a os rest e hf ht i scratch state =
    let z = neg_ℤ a in
    let locals = c.frame.locals in
    let after = long_kept s z locals in
    let few = above-few to in
    let long = long_negative a (word-narrow from a hf i) in
    let all = andthen (negates_long m v c from s a os locals hf i scratch) (andthen (moves (in_range-passes m v c to z os after ht long e))
    (andthen (moves (steps-get m v c (s + 4) (I64 (pattern 64 z)) os after (long-there s z locals scratch))) (moves (steps-wrap m v c (pattern 64 z) (pattern 32 z) os after (wrap_long z))))) in
    one_ends_with m v c s from to a z os (opposite_code from to s) rest (pattern 32 z) 12 hf ht (lit≤ tt) refl
    (record { after = after; keeps = keeps-set s 4 locals locals (I64 (pattern 64 z)) (lit< tt) (keeps-same s locals); runs = few-moves 12 (omega (arith, few)) all })
opposite_for false m v c s from to a os rest e hf ht i scratch state =
    let z = neg_ℤ a in
    let locals = c.frame.locals in
    let after = long_kept s z locals in
    let few = above-few to in
    let long = long_negative a (word-narrow from a hf i) in
    let all = behind (negates_long m v c from s a os locals hf i scratch) (before (breaks (in_range-fails m v c to z os after ht long e state)) (LocalGet (s + 4) ∷ Convert Wrap ∷ [])) in
    on_word m v c s from to a os (opposite_code from to s) rest (Err Overflow) hf
    (panics m v c s to Overflow (word a os) os (opposite_code from to s) rest (5 + (above_count to + 10)) (omega (arith, few)) all)

pub opposite-ends : (m : Module) (v : View) (c : Config) (s : ℕ) (from to : IntTy) (a : ℤ) (os : List Num) (rest : List Instr) → IsNarrow from → IsNarrow to → IsIn from a → HasScratch s c.frame.locals → HasPanicState c.world.store → EndsOnOne m v c s from to a os (opposite_code from to s) rest (exact to (neg_ℤ a))
opposite-ends m v c s from to a os rest hf ht i scratch state = opposite_for (is_in to (neg_ℤ a)) m v c s from to a os rest refl hf ht i scratch state

-- ---- turned bits

turn : (n i : ℕ) → (bit_at n i + bit_at 0 i) % 2 ≡ bit_at n i
turn n i = let small = bit_at-lt n i in let none = bit_at-zero i in omega (arith, small, none)

no_bits : (n : ℕ) → bit_xor n 0 ≡ n
no_bits n = same_from_bits (bit_xor n 0) n (λ i. bit_at_xor n 0 i ∙ turn n i)

pub turns : (a : ℤ) → bits_xor a (negsuc 0) ≡ bits_not a
turns (pos n) = ap (λ k. negsuc k) (no_bits n)
turns (negsuc n) = ap (λ k. pos k) (no_bits n)

pub turned-ends : (m : Module) (v : View) (c : Config) (s : ℕ) (from to : IntTy) (a : ℤ) (os : List Num) (rest : List Instr) → IsNarrow from → IsNarrow to → EndsOnOne m v c s from to a os (turned_code to) rest (Ok (wrapped to (bits_not a)))
turned-ends m v c s from to a os rest hf ht =
    let z = bits_not a in
    let locals = c.frame.locals in
    one_ends_with m v c s from to a (wrapped to z) os (turned_code to) rest (pattern 32 (wrapped to z)) 8 hf ht (lit≤ tt) refl
    (leads s (andthen (andthen (moves (steps-const m v c (negsuc 0) (word a os) locals))
    (moves (steps-word m v c Xor (pattern 32 a) (pattern 32 (negsuc 0)) (pattern 32 z) os locals (ap (λ n. Gives n) (xor_pattern a (negsuc 0) ∙ ap (pattern 32) (turns a))))))
    (fits m v c to z os locals ht)))
