-- What the code of operators on types of at most 32 bits does when it runs.
use Rattle.std.proofs.Common.{◌≡◌, ℕ, ℤ, pos, ◌+◌, ◌-◌, ◌/◌, ◌^◌, ◌≤◌, ◌+ℤ◌, ◌-ℤ◌, ◌*ℤ◌, Bool, true, false, not, List, [], ◌∷◌, ◌++◌, Some, Ok, Err, refl, sym, ap, ◌∙◌, subst, arith, lit≤, lit<}
use Rattle.std.specs.Prelude.{nat_lt, slice_get, slice_set, Result, if◌then◌else◌}
use Rattle.std.proofs.lemmas.Bool.{le-leb, ltb-false}
use Rattle.std.proofs.lemmas.List.{length-set}
use Rattle.std.specs.Int.{w32, w64}
use Rattle.zw_num.specs.Arithmetic.{IsIn, is_in, exact, least, pattern, width, wrapped}
use Rattle.zw_num.specs.declared.int_ty.IntTy.{IntTy}
use Rattle.zw_num.specs.declared.int_ty.IntTy.TheVariants.{Sized, Comptime}
use Rattle.zw_num.specs.declared.num_fault.NumFault.{NumFault}
use Rattle.zw_num.specs.declared.num_fault.NumFault.TheVariants.{Overflow}
use Rattle.zw_safety_narrow.proofs.Locals.{slice_get-set_same, keeps-same, keeps-set}
use Rattle.zw_safety_narrow.proofs.Pieces.{having, Steps, Fails, steps-none, steps-then, fails-behind, fails-before, steps-set, steps-get, steps-const, steps-long_const, steps-wrap, steps-extend_s, steps-extend_u, steps-long, steps-word, steps-compare_long, steps-passed, fails-panics}
use Rattle.zw_safety_narrow.proofs.Words.{IsWord, IsLong, word-narrow, add_bits, sub_bits, mul_bits, extend_signed, extend_unsigned, wrap_long, long_sum, long_difference, long_product, tells_range, wrapped_word, masked, wrapped_unsigned, lift_word, lift_long, wrapped_signed, minus_least}
use Rattle.zw_safety_narrow.specs.Checked.{HasScratch, HasPanicState, KeepsOthers}
use Rattle.zw_safety_narrow.specs.NarrowCode.{extension, above_least, extended, in_range_or, in_range, exact_code, narrowed, wrapped_code}
use Rattle.zw_safety_narrow.specs.Operators.{IsNarrow, EndsWith, filled}
use Rattle.zw_session.specs.Causes.{integer_overflow}
use Rattle.zw_wasm.specs.declared.module.BinaryOperator.{BinaryOperator}
use Rattle.zw_wasm.specs.declared.module.BinaryOperator.TheVariants.{Add, Sub, Mul, And}
use Rattle.zw_wasm.specs.declared.module.Comparison.TheVariants.{GtU}
use Rattle.zw_wasm.specs.declared.module.Conversion.TheVariants.{Wrap}
use Rattle.zw_wasm.specs.declared.module.Instr.{Instr}
use Rattle.zw_wasm.specs.declared.module.Instr.TheVariants.{LocalGet, LocalSet, Binary, Convert}
use Rattle.zw_wasm.specs.declared.module.Module.{Module}
use Rattle.zw_wasm.specs.declared.module.ValType.TheVariants as ty
use Rattle.zw_wasm.specs.declared.num.Num.{Num}
use Rattle.zw_wasm.specs.declared.num.Num.TheVariants.{I32, I64}
use Rattle.zw_wasm.specs.Numerics.{Gives, binary_of}
use Rattle.zw_wasm.specs.Reduction.{Config}
use Rattle.zw_wasm.specs.Sequences.{placed, with_locals, Runs}
use Rattle.zw_wasm.specs.Signature.{View}
use Rattle.zw_wasm.specs.Structure.{code_of}

-- an operator that works on bits of any width as on the numbers
pub record Operation (o : BinaryOperator) (f : ℤ → ℤ → ℤ) : Type 0 where
  pub long : (a b : ℤ) → binary_of o w64 (pattern 64 a) (pattern 64 b) ≡ Gives (pattern 64 (f a b))
  pub word : (a b : ℤ) → binary_of o w32 (pattern 32 a) (pattern 32 b) ≡ Gives (pattern 32 (f a b))
  pub bounded : (a b : ℤ) → IsWord a → IsWord b → IsLong (f a b)

pub addition : Operation Add (λ a b. a +ℤ b)
addition = record {
  long = λ a b. ap (λ n. Gives n) (add_bits w64 a b);
  word = λ a b. ap (λ n. Gives n) (add_bits w32 a b);
  bounded = long_sum;
}

pub subtraction : Operation Sub (λ a b. a -ℤ b)
subtraction = record {
  long = λ a b. ap (λ n. Gives n) (sub_bits w64 a b);
  word = λ a b. ap (λ n. Gives n) (sub_bits w32 a b);
  bounded = long_difference;
}

pub multiplication : Operation Mul (λ a b. a *ℤ b)
multiplication = record {
  long = λ a b. ap (λ n. Gives n) (mul_bits w64 a b);
  word = λ a b. ap (λ n. Gives n) (mul_bits w32 a b);
  bounded = long_product;
}

pub filled-narrow : (t : IntTy) (z : ℤ) → IsNarrow t → filled t z ≡ I32 (pattern 32 z)
filled-narrow (Sized signed count) z h = ap (λ b. if b then I32 (pattern 32 z) else I64 (pattern 64 z)) (le-leb count 32 h)
filled-narrow Comptime z h = absurd h

-- ---- in 64 bits

pub steps-extension : (m : Module) (v : View) (c : Config) (t : IntTy) (z : ℤ) (os locals : List Num) → IsNarrow t → IsIn t z → Steps m v c (Convert (extension t) ∷ []) (having (I32 (pattern 32 z) ∷ os) locals) (having (I64 (pattern 64 z) ∷ os) locals) 1
steps-extension m v c (Sized true count) z os locals h i = steps-extend_s m v c (pattern 32 z) (pattern 64 z) os locals (extend_signed count z h i)
steps-extension m v c (Sized false count) z os locals h i = steps-extend_u m v c (pattern 32 z) (pattern 64 z) os locals (extend_unsigned count z h i)
steps-extension m v c Comptime z os locals h i = absurd h

-- the locals with a number in the first of those that hold 64 bits
abbrev pub long_kept : ℕ → ℤ → List Num → List Num
long_kept s z locals = slice_set locals (s + 4) (I64 (pattern 64 z))

pub long-there : (s : ℕ) (z : ℤ) (locals : List Num) → HasScratch s locals → slice_get (long_kept s z locals) (s + 4) ≡ Some (I64 (pattern 64 z))
long-there s z locals h = slice_get-set_same locals (s + 4) (I64 (pattern 64 z)) (omega (arith, h))

pub long-count : (s : ℕ) (z : ℤ) (locals : List Num) → HasScratch s locals → HasScratch s (long_kept s z locals)
long-count s z locals h = omega (arith, h, length-set locals (s + 4) (I64 (pattern 64 z)))

pub steps-extended : (m : Module) (v : View) (c : Config) (left right : IntTy) (s : ℕ) (a b : ℤ) (os locals : List Num) → IsNarrow left → IsNarrow right → IsIn left a → IsIn right b → HasScratch s locals → Steps m v c (extended left right s) (having (I32 (pattern 32 b) ∷ I32 (pattern 32 a) ∷ os) locals) (having (I64 (pattern 64 b) ∷ I64 (pattern 64 a) ∷ os) (long_kept s b locals)) 4
steps-extended m v c left right s a b os locals hl hr il ir h =
    let x = I64 (pattern 64 b) in
    let after = long_kept s b locals in
    steps-then (steps-extension m v c right b (I32 (pattern 32 a) ∷ os) locals hr ir)
    (steps-then (steps-set m v c (s + 4) x (I32 (pattern 32 a) ∷ os) locals (omega (arith, h)))
    (steps-then (steps-extension m v c left a os after hl il)
    (steps-get m v c (s + 4) x (I64 (pattern 64 a) ∷ os) after (long-there s b locals h))))

-- the result in 64 bits, on the operands and in the local
steps-computed : (m : Module) (v : View) (c : Config) (o : BinaryOperator) (f : ℤ → ℤ → ℤ) (s : ℕ) (a b : ℤ) (os locals : List Num) → Operation o f → HasScratch s locals → Steps m v c (Binary ty.I64 o ∷ LocalSet (s + 4) ∷ LocalGet (s + 4) ∷ []) (having (I64 (pattern 64 b) ∷ I64 (pattern 64 a) ∷ os) locals) (having (I64 (pattern 64 (f a b)) ∷ os) (long_kept s (f a b) locals)) 3
steps-computed m v c o f s a b os locals op h =
    let z = f a b in
    let x = I64 (pattern 64 z) in
    steps-then (steps-long m v c o (pattern 64 a) (pattern 64 b) (pattern 64 z) os locals (op.long a b))
    (steps-then (steps-set m v c (s + 4) x os locals (omega (arith, h)))
    (steps-get m v c (s + 4) x os (long_kept s z locals) (long-there s z locals h)))

-- ---- the test that a number in 64 bits is a value of a type

abbrev pub above_count : IntTy → ℕ
above_count (Sized true count) = 2
above_count (Sized false count) = 0
above_count Comptime = 0

pub above-few : (t : IntTy) → above_count t ≤ 2
above-few (Sized true count) = omega arith
above-few (Sized false count) = omega arith
above-few Comptime = omega arith

steps-above : (m : Module) (v : View) (c : Config) (to : IntTy) (z : ℤ) (os locals : List Num) → IsNarrow to → Steps m v c (above_least to) (having (I64 (pattern 64 z) ∷ os) locals) (having (I64 (pattern 64 (z -ℤ least to)) ∷ os) locals) (above_count to)
steps-above m v c (Sized true count) z os locals h =
    let y = z -ℤ least (Sized true count) in
    steps-then (steps-long_const m v c (pos (2 ^ count / 2)) (I64 (pattern 64 z) ∷ os) locals)
    (steps-long m v c Add (pattern 64 z) (2 ^ count / 2) (pattern 64 y) os locals (ap (λ n. Gives n) (lift_long count z h)))
steps-above m v c (Sized false count) z os locals h =
    subst (λ y. Steps m v c [] (having (I64 (pattern 64 z) ∷ os) locals) (having (I64 (pattern 64 y) ∷ os) locals) 0) (minus_least count z)
    (steps-none m v c (having (I64 (pattern 64 z) ∷ os) locals))
steps-above m v c Comptime z os locals h = absurd h

tells-narrow : (to : IntTy) (z : ℤ) (b : Bool) → IsNarrow to → IsLong z → is_in to z ≡ b → nat_lt (2 ^ width to - 1) (pattern 64 (z -ℤ least to)) ≡ not b
tells-narrow (Sized signed count) z b h long e = tells_range signed count z h long ∙ ap not e
tells-narrow Comptime z b h long e = absurd h

pub in_range_or-passes : (m : Module) (v : View) (c : Config) (cause : ℕ) (to : IntTy) (z : ℤ) (os locals : List Num) → IsNarrow to → IsLong z → is_in to z ≡ true → Steps m v c (in_range_or cause to) (having (I64 (pattern 64 z) ∷ os) locals) (having os locals) (above_count to + 3)
in_range_or-passes m v c cause to z os locals h long e =
    let y = pattern 64 (z -ℤ least to) in
    let top = 2 ^ width to - 1 in
    steps-then (steps-above m v c to z os locals h)
    (steps-then (steps-long_const m v c (pos top) (I64 y ∷ os) locals)
    (steps-then (steps-compare_long m v c GtU y top false os locals (tells-narrow to z true h long e))
    (steps-passed m v c cause os locals)))

pub in_range_or-fails : (m : Module) (v : View) (c : Config) (cause : ℕ) (to : IntTy) (z : ℤ) (os locals : List Num) → IsNarrow to → IsLong z → is_in to z ≡ false → HasPanicState c.world.store → Fails m v c (in_range_or cause to) (having (I64 (pattern 64 z) ∷ os) locals) cause (above_count to + 10)
in_range_or-fails m v c cause to z os locals h long e state =
    let y = pattern 64 (z -ℤ least to) in
    let top = 2 ^ width to - 1 in
    fails-behind (steps-above m v c to z os locals h)
    (fails-behind (steps-long_const m v c (pos top) (I64 y ∷ os) locals)
    (fails-behind (steps-compare_long m v c GtU y top true os locals (tells-narrow to z false h long e))
    (fails-panics m v c cause os locals state)))

pub in_range-passes : (m : Module) (v : View) (c : Config) (to : IntTy) (z : ℤ) (os locals : List Num) → IsNarrow to → IsLong z → is_in to z ≡ true → Steps m v c (in_range to) (having (I64 (pattern 64 z) ∷ os) locals) (having os locals) (above_count to + 3)
in_range-passes m v c to z os locals h long e = in_range_or-passes m v c integer_overflow to z os locals h long e

pub in_range-fails : (m : Module) (v : View) (c : Config) (to : IntTy) (z : ℤ) (os locals : List Num) → IsNarrow to → IsLong z → is_in to z ≡ false → HasPanicState c.world.store → Fails m v c (in_range to) (having (I64 (pattern 64 z) ∷ os) locals) integer_overflow (above_count to + 10)
in_range-fails m v c to z os locals h long e state = in_range_or-fails m v c integer_overflow to z os locals h long e state

-- ---- the exact result

pub kept-longs : (s : ℕ) (b z : ℤ) (locals : List Num) → KeepsOthers s locals (long_kept s z (long_kept s b locals))
kept-longs s b z locals =
    keeps-set s 4 locals (long_kept s b locals) (I64 (pattern 64 z)) (lit< tt)
    (keeps-set s 4 locals locals (I64 (pattern 64 b)) (lit< tt) (keeps-same s locals))

-- operands and result as their types fill them
abbrev pub EndsOn : Module → View → Config → ℕ → IntTy → IntTy → IntTy → ℤ → ℤ → List Num → List Instr → List Instr → Result ℤ NumFault → Type 0
EndsOn m v c s left right to a b os is rest answer =
    EndsWith m v s to answer (placed (code_of (is ++ rest)) (filled right b ∷ filled left a ∷ os) c) (code_of rest) os

-- what fills an i32
abbrev pub EndsOnWords : Module → View → Config → ℕ → IntTy → ℤ → ℤ → List Num → List Instr → List Instr → Result ℤ NumFault → Type 0
EndsOnWords m v c s to a b os is rest answer =
    EndsWith m v s to answer (placed (code_of (is ++ rest)) (I32 (pattern 32 b) ∷ I32 (pattern 32 a) ∷ os) c) (code_of rest) os

pub on_words : (m : Module) (v : View) (c : Config) (s : ℕ) (left right to : IntTy) (a b : ℤ) (os : List Num) (is rest : List Instr) (answer : Result ℤ NumFault) → IsNarrow left → IsNarrow right → EndsOnWords m v c s to a b os is rest answer → EndsOn m v c s left right to a b os is rest answer
on_words m v c s left right to a b os is rest answer hl hr ends =
    subst (λ x. EndsWith m v s to answer (placed (code_of (is ++ rest)) (x ∷ filled left a ∷ os) c) (code_of rest) os) (sym (filled-narrow right b hr))
    (subst (λ x. EndsWith m v s to answer (placed (code_of (is ++ rest)) (I32 (pattern 32 b) ∷ x ∷ os) c) (code_of rest) os) (sym (filled-narrow left a hl)) ends)

-- a piece that leaves a word
pub leaves_word : (m : Module) (v : View) (c : Config) (s : ℕ) (to : IntTy) (a b z : ℤ) (os locals : List Num) (is rest : List Instr) (count : ℕ) → IsNarrow to → KeepsOthers s c.frame.locals locals → count ≤ 128 → Steps m v c is (having (I32 (pattern 32 b) ∷ I32 (pattern 32 a) ∷ os) c.frame.locals) (having (I32 (pattern 32 z) ∷ os) locals) count → EndsOnWords m v c s to a b os is rest (Ok z)
leaves_word m v c s to a b z os locals is rest count h keeps few steps =
    let start = placed (code_of (is ++ rest)) (I32 (pattern 32 b) ∷ I32 (pattern 32 a) ∷ os) c in
    record {
      locals = locals;
      kept = keeps;
      taken = count;
      few = few;
      runs = subst (λ x. Runs m v start (placed (code_of rest) (x ∷ os) (with_locals locals start)) count) (sym (filled-narrow to z h)) (steps.by rest);
    }

exact-ends_for : (t : Bool) (m : Module) (v : View) (c : Config) (o : BinaryOperator) (f : ℤ → ℤ → ℤ) (s : ℕ) (left right to : IntTy) (a b : ℤ) (os : List Num) (rest : List Instr) → Operation o f → IsNarrow left → IsNarrow right → IsNarrow to → IsIn left a → IsIn right b → HasScratch s c.frame.locals → HasPanicState c.world.store → is_in to (f a b) ≡ t → EndsOnWords m v c s to a b os (exact_code o left right to s) rest (if t then Ok (f a b) else Err Overflow)
exact-ends_for true m v c o f s left right to a b os rest op hl hr ht il ir scratch state e =
    let z = f a b in
    let long = op.bounded a b (word-narrow left a hl il) (word-narrow right b hr ir) in
    let mid = long_kept s b c.frame.locals in
    let after = long_kept s z mid in
    let there = long-count s b c.frame.locals scratch in
    let steps = steps-then (steps-extended m v c left right s a b os c.frame.locals hl hr il ir scratch)
    (steps-then (steps-computed m v c o f s a b os mid op there)
    (steps-then (in_range-passes m v c to z os after ht long e)
    (steps-then (steps-get m v c (s + 4) (I64 (pattern 64 z)) os after (long-there s z mid there))
    (steps-wrap m v c (pattern 64 z) (pattern 32 z) os after (wrap_long z))))) in
    leaves_word m v c s to a b z os after (exact_code o left right to s) rest (4 + (3 + ((above_count to + 3) + 2))) ht (kept-longs s b z c.frame.locals) (omega (arith, above-few to)) steps
exact-ends_for false m v c o f s left right to a b os rest op hl hr ht il ir scratch state e =
    let z = f a b in
    let long = op.bounded a b (word-narrow left a hl il) (word-narrow right b hr ir) in
    let mid = long_kept s b c.frame.locals in
    let after = long_kept s z mid in
    let there = long-count s b c.frame.locals scratch in
    let fails = fails-behind (steps-extended m v c left right s a b os c.frame.locals hl hr il ir scratch)
    (fails-behind (steps-computed m v c o f s a b os mid op there)
    (fails-before (in_range-fails m v c to z os after ht long e state) (LocalGet (s + 4) ∷ Convert Wrap ∷ []))) in
    record { taken = 4 + (3 + (above_count to + 10)); few = omega (arith, above-few to); halts = fails.by rest }

pub exact-ends : (m : Module) (v : View) (c : Config) (o : BinaryOperator) (f : ℤ → ℤ → ℤ) (s : ℕ) (left right to : IntTy) (a b : ℤ) (os : List Num) (rest : List Instr) → Operation o f → IsNarrow left → IsNarrow right → IsNarrow to → IsIn left a → IsIn right b → HasScratch s c.frame.locals → HasPanicState c.world.store → EndsOn m v c s left right to a b os (exact_code o left right to s) rest (exact to (f a b))
exact-ends m v c o f s left right to a b os rest op hl hr ht il ir scratch state =
    on_words m v c s left right to a b os (exact_code o left right to s) rest (exact to (f a b)) hl hr
    (exact-ends_for (is_in to (f a b)) m v c o f s left right to a b os rest op hl hr ht il ir scratch state refl)

-- ---- the result that wraps around

pub steps-narrowed : (m : Module) (v : View) (c : Config) (signed : Bool) (n : ℕ) (z : ℤ) (os locals : List Num) → n ≤ 32 → (count : ℕ) × (count ≤ 6) × Steps m v c (narrowed (Sized signed n)) (having (I32 (pattern 32 z) ∷ os) locals) (having (I32 (pattern 32 (wrapped (Sized signed n) z)) ∷ os) locals) count
steps-narrowed m v c true n z os locals h =
    let y = z -ℤ least (Sized true n) in
    let half = 2 ^ n / 2 in
    let mask = 2 ^ n - 1 in
    let lifts = steps-then (steps-const m v c (pos half) (I32 (pattern 32 z) ∷ os) locals)
    (steps-word m v c Add (pattern 32 z) half (pattern 32 y) os locals (ap (λ k. Gives k) (lift_word n z h))) in
    let masks = steps-then (steps-const m v c (pos mask) (I32 (pattern 32 y) ∷ os) locals)
    (steps-word m v c And (pattern 32 y) mask (pattern n y) os locals (ap (λ k. Gives k) (masked n y h))) in
    let lowers = steps-then (steps-const m v c (pos half) (I32 (pattern n y) ∷ os) locals)
    (steps-word m v c Sub (pattern n y) half (pattern 32 (wrapped (Sized true n) z)) os locals (ap (λ k. Gives k) (wrapped_signed n z h))) in
    (6, lit≤ tt, steps-then lifts (steps-then masks lowers))
steps-narrowed m v c false n z os locals h =
    let mask = 2 ^ n - 1 in (
      2,
      lit≤ tt,
      steps-then (steps-const m v c (pos mask) (I32 (pattern 32 z) ∷ os) locals)
          (steps-word m v c And (pattern 32 z) mask (pattern 32 (wrapped (Sized false n) z)) os locals (ap (λ k. Gives k) (masked n z h ∙ wrapped_unsigned n z h))),
    )

steps-if_narrower : (b : Bool) (m : Module) (v : View) (c : Config) (signed : Bool) (n : ℕ) (z : ℤ) (os locals : List Num) → n ≤ 32 → nat_lt n 32 ≡ b → (count : ℕ) × (count ≤ 6) × Steps m v c (if b then narrowed (Sized signed n) else []) (having (I32 (pattern 32 z) ∷ os) locals) (having (I32 (pattern 32 (wrapped (Sized signed n) z)) ∷ os) locals) count
steps-if_narrower true m v c signed n z os locals h e = steps-narrowed m v c signed n z os locals h
steps-if_narrower false m v c signed n z os locals h e =
    let whole : n ≡ 32 = omega (arith, h, ltb-false n 32 e) in
    let same : pattern 32 (wrapped (Sized signed n) z) ≡ pattern 32 z = ap (λ k. pattern 32 (wrapped (Sized signed k) z)) whole ∙ wrapped_word signed z in
    (0, lit≤ tt, subst (λ k. Steps m v c [] (having (I32 (pattern 32 z) ∷ os) locals) (having (I32 k ∷ os) locals) 0) (sym same) (steps-none m v c (having (I32 (pattern 32 z) ∷ os) locals)))

-- up to the value of the type, from a number in 32 bits
pub steps-fitted : (m : Module) (v : View) (c : Config) (to : IntTy) (z : ℤ) (os locals : List Num) → IsNarrow to → (count : ℕ) × (count ≤ 6) × Steps m v c (if nat_lt (width to) 32 then narrowed to else []) (having (I32 (pattern 32 z) ∷ os) locals) (having (I32 (pattern 32 (wrapped to z)) ∷ os) locals) count
steps-fitted m v c (Sized signed n) z os locals h = steps-if_narrower (nat_lt n 32) m v c signed n z os locals h refl
steps-fitted m v c Comptime z os locals h = absurd h

pub wrapped-ends : (m : Module) (v : View) (c : Config) (o : BinaryOperator) (f : ℤ → ℤ → ℤ) (s : ℕ) (left right to : IntTy) (a b : ℤ) (os : List Num) (rest : List Instr) → Operation o f → IsNarrow left → IsNarrow right → IsNarrow to → EndsOn m v c s left right to a b os (wrapped_code o to) rest (Ok (wrapped to (f a b)))
wrapped-ends m v c o f s left right to a b os rest op hl hr ht =
    let z = f a b in
    let locals = c.frame.locals in
    let fitted = steps-fitted m v c to z os locals ht in
    let steps = steps-then (steps-word m v c o (pattern 32 a) (pattern 32 b) (pattern 32 z) os locals (op.word a b)) fitted.2 in
    on_words m v c s left right to a b os (wrapped_code o to) rest (Ok (wrapped to z)) hl hr
    (leaves_word m v c s to a b (wrapped to z) os locals (wrapped_code o to) rest (1 + fitted.0) ht (keeps-same s locals) (omega (arith, fitted.1)) steps)
