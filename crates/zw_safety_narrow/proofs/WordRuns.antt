-- The code on `u32` as the code of an operator on exact numbers.
use Rattle.std.proofs.Common.{◌≡◌, ℕ, ℤ, pos, negsuc, ◌+◌, ◌-◌, ◌%◌, ◌^◌, ◌<◌, ◌≤◌, ◌+ℤ◌, ◌-ℤ◌, Bool, true, false, List, ◌∷◌, ◌++◌, Some, None, Ok, Err, refl, sym, ap, ◌∙◌, subst, arith}
use Rattle.std.specs.Prelude.{nat_eq, nat_lt, nat_le, ◌&&◌, if◌then◌else◌}
use Rattle.std.proofs.lemmas.Int.{ints}
use Rattle.std.proofs.Math.Nat.{mod-eq_of_lt}
use Rattle.zw_num.specs.Arithmetic.{IsIn, is_in, exact, pattern}
use Rattle.zw_num.specs.declared.int_ty.IntTy.{IntTy}
use Rattle.zw_num.specs.declared.int_ty.IntTy.TheVariants.{Sized, Comptime}
use Rattle.zw_num.specs.declared.num_fault.NumFault.TheVariants.{Overflow}
use Rattle.zw_safety_narrow.proofs.CheckedRuns.{add-answers, sub-answers}
use Rattle.zw_safety_narrow.proofs.NarrowRuns.{EndsOn, EndsOnWords, on_words}
use Rattle.zw_safety_narrow.specs.Checked.{u32, HasScratch, HasPanicState, Answers}
use Rattle.zw_safety_narrow.specs.Code.{add_code, sub_code}
use Rattle.zw_safety_narrow.specs.NarrowCode.{is_u32, are_u32}
use Rattle.zw_safety_narrow.specs.Operators.{EndsWith}
use Rattle.zw_wasm.specs.declared.module.Instr.{Instr}
use Rattle.zw_wasm.specs.declared.module.Module.{Module}
use Rattle.zw_wasm.specs.declared.num.Num.{Num}
use Rattle.zw_wasm.specs.declared.num.Num.TheVariants.{I32}
use Rattle.zw_wasm.specs.Reduction.{Config}
use Rattle.zw_wasm.specs.Sequences.{placed, with_locals, Runs}
use Rattle.zw_wasm.specs.Signature.{View}
use Rattle.zw_wasm.specs.Structure.{Code, code_of}

-- ---- which types are `u32`

u32-bits : (count : ℕ) → nat_eq count 32 ≡ true → Sized false count ≡ u32
u32-bits count e = let same : count ≡ 32 = grind (arith, e) in ap (λ n. Sized false n) same

u32-is : (t : IntTy) → is_u32 t ≡ true → t ≡ u32
u32-is (Sized false count) e = u32-bits count e
u32-is (Sized true count) e = absurd (cc)
u32-is Comptime e = absurd (cc)

pub both-true : (p q : Bool) → (p && q) ≡ true → (p ≡ true) × (q ≡ true)
both-true true q e = (refl, e)
both-true false q e = absurd (cc)

pub u32-are : (left right to : IntTy) → are_u32 left right to ≡ true → (left ≡ u32) × (right ≡ u32) × (to ≡ u32)
u32-are left right to e =
    let outer = both-true (is_u32 left) (is_u32 right && is_u32 to) e in
    let inner = both-true (is_u32 right) (is_u32 to) outer.1 in
    (u32-is left outer.0, u32-is right inner.0, u32-is to inner.1)

-- ---- an answer in whole numbers

answer-ends : (t : Bool) (m : Module) (v : View) (s n : ℕ) (z : ℤ) (start : Config) (rest : Code) (os : List Num) → (t ≡ true → n ≡ pattern 32 z) → Answers m v s (if t then Some n else None) start rest os → EndsWith m v s u32 (if t then Ok z else Err Overflow) start rest os
answer-ends true m v s n z start rest os e answers = record {
  locals = answers.locals;
  kept = answers.kept;
  taken = answers.taken;
  few = answers.few;
  runs = subst (λ k. Runs m v start (placed rest (I32 k ∷ os) (with_locals answers.locals start)) answers.taken) (e refl) answers.runs;
}
answer-ends false m v s n z start rest os e answers = record { taken = answers.taken; few = answers.few; halts = answers.halts }

-- the same where two tests agree
answer-ends_by : (t u : Bool) (m : Module) (v : View) (s n : ℕ) (z : ℤ) (start : Config) (rest : Code) (os : List Num) → u ≡ t → (t ≡ true → n ≡ pattern 32 z) → Answers m v s (if t then Some n else None) start rest os → EndsWith m v s u32 (if u then Ok z else Err Overflow) start rest os
answer-ends_by t u m v s n z start rest os same e answers =
    subst (λ b. EndsWith m v s u32 (if b then Ok z else Err Overflow) start rest os) (sym same) (answer-ends t m v s n z start rest os e answers)

sum-test : (x y : ℕ) → is_in u32 (pos x +ℤ pos y) ≡ nat_lt (x + y) (2 ^ 32)
sum-test x y = grind (arith, ints)

sum-bits : (x y : ℕ) → nat_lt (x + y) (2 ^ 32) ≡ true → x + y ≡ pattern 32 (pos x +ℤ pos y)
sum-bits x y e = grind (arith, ints, e)

difference-test : (x y : ℕ) → x < 2 ^ 32 → is_in u32 (pos x -ℤ pos y) ≡ nat_le y x
difference-test x y h = grind (arith, ints, h)

difference-bits : (x y : ℕ) → x < 2 ^ 32 → nat_le y x ≡ true → x - y ≡ pattern 32 (pos x -ℤ pos y)
difference-bits x y h e =
    let less : y ≤ x = grind (arith, e) in
    let is : pos x -ℤ pos y ≡ pos (x - y) = omega (arith, ints, less) in
    sym (ap (pattern 32) is ∙ mod-eq_of_lt (omega (arith, h)))

low : (x : ℕ) → IsIn u32 (pos x) → x < 2 ^ 32
low x i = omega (arith, ints, i.at_most)

-- operands that are below 2 ^ 32
from_low : (m : Module) (v : View) (c : Config) (s x y : ℕ) (os : List Num) (is rest : List Instr) (z : ℤ) → x < 2 ^ 32 → y < 2 ^ 32 → EndsWith m v s u32 (exact u32 z) (placed (code_of (is ++ rest)) (I32 y ∷ I32 x ∷ os) c) (code_of rest) os → EndsOnWords m v c s u32 (pos x) (pos y) os is rest (exact u32 z)
from_low m v c s x y os is rest z hx hy ends =
    subst (λ k. EndsWith m v s u32 (exact u32 z) (placed (code_of (is ++ rest)) (I32 k ∷ I32 (x % 2 ^ 32) ∷ os) c) (code_of rest) os) (sym (mod-eq_of_lt hy))
    (subst (λ k. EndsWith m v s u32 (exact u32 z) (placed (code_of (is ++ rest)) (I32 y ∷ I32 k ∷ os) c) (code_of rest) os) (sym (mod-eq_of_lt hx)) ends)

pub word_sum-ends : (m : Module) (v : View) (c : Config) (s : ℕ) (a b : ℤ) (os : List Num) (rest : List Instr) → IsIn u32 a → IsIn u32 b → HasScratch s c.frame.locals → HasPanicState c.world.store → EndsOnWords m v c s u32 a b os (add_code s) rest (exact u32 (a +ℤ b))
word_sum-ends m v c s (pos x) (pos y) os rest i j scratch state =
    let hx = low x i in
    let hy = low y j in
    from_low m v c s x y os (add_code s) rest (pos x +ℤ pos y) hx hy
    (answer-ends_by (nat_lt (x + y) (2 ^ 32)) (is_in u32 (pos x +ℤ pos y)) m v s (x + y) (pos x +ℤ pos y) _ (code_of rest) os (sum-test x y) (sum-bits x y)
    (add-answers m v c s x y rest os scratch state hx hy))
word_sum-ends m v c s (negsuc x) b os rest i j scratch state = absurd (omega (arith, ints, i.at_least))
word_sum-ends m v c s (pos x) (negsuc y) os rest i j scratch state = absurd (omega (arith, ints, j.at_least))

pub word_difference-ends : (m : Module) (v : View) (c : Config) (s : ℕ) (a b : ℤ) (os : List Num) (rest : List Instr) → IsIn u32 a → IsIn u32 b → HasScratch s c.frame.locals → HasPanicState c.world.store → EndsOnWords m v c s u32 a b os (sub_code s) rest (exact u32 (a -ℤ b))
word_difference-ends m v c s (pos x) (pos y) os rest i j scratch state =
    let hx = low x i in
    let hy = low y j in
    from_low m v c s x y os (sub_code s) rest (pos x -ℤ pos y) hx hy
    (answer-ends_by (nat_le y x) (is_in u32 (pos x -ℤ pos y)) m v s (x - y) (pos x -ℤ pos y) _ (code_of rest) os (difference-test x y hx) (difference-bits x y hx)
    (sub-answers m v c s x y rest os scratch state hx))
word_difference-ends m v c s (negsuc x) b os rest i j scratch state = absurd (omega (arith, ints, i.at_least))
word_difference-ends m v c s (pos x) (negsuc y) os rest i j scratch state = absurd (omega (arith, ints, j.at_least))

-- on types that are all `u32`
pub on_u32 : (m : Module) (v : View) (c : Config) (s : ℕ) (left right to : IntTy) (a b : ℤ) (os : List Num) (is rest : List Instr) (z : ℤ) → are_u32 left right to ≡ true → IsIn left a → IsIn right b → (IsIn u32 a → IsIn u32 b → EndsOnWords m v c s u32 a b os is rest (exact u32 z)) → EndsOn m v c s left right to a b os is rest (exact to z)
on_u32 m v c s left right to a b os is rest z e il ir ends =
    let same = u32-are left right to e in
    let il2 : IsIn u32 a = subst (λ t. IsIn t a) same.0 il in
    let ir2 : IsIn u32 b = subst (λ t. IsIn t b) same.1 ir in
    let there = on_words m v c s u32 u32 u32 a b os is rest (exact u32 z) (omega arith) (omega arith) (ends il2 ir2) in
    subst (λ t. EndsOn m v c s t right to a b os is rest (exact to z)) (sym same.0)
    (subst (λ t. EndsOn m v c s u32 t to a b os is rest (exact to z)) (sym same.1)
    (subst (λ t. EndsOn m v c s u32 u32 t a b os is rest (exact t z)) (sym same.2) there))
