-- What the code of each operator does when it runs.
use Rattle.std.proofs.Common.{◌≡◌, ℕ, ◌+◌, ◌-◌, ◌%◌, ◌^◌, ◌<◌, ◌≤◌, Bool, true, false, List, ◌∷◌, ◌++◌, length, Some, None, refl, sym, ◌∙◌, subst, arith, lit≤, lit<}
use Rattle.std.specs.Prelude.{nat_lt, nat_le, slice_get, slice_set, if◌then◌else◌}
use Rattle.std.proofs.lemmas.List.{length-set}
use Rattle.std.proofs.lemmas.Bool.{ltb-true, ltb-false, lt-ltb, le-ltb, le-leb}
use Rattle.std.proofs.lemmas.Bool.Decides.{nat_tests}
use Rattle.std.proofs.Math.Nat.{mod-eq_of_lt}
use Rattle.zw_num.specs.Arithmetic.{sum_in, difference_in}
use Rattle.zw_safety_narrow.proofs.Locals.{slice_get-set_same, slice_get-set_other, keeps-same, keeps-set}
use Rattle.zw_safety_narrow.proofs.Panics.{if_panics-halts, if_panics-passed}
use Rattle.zw_safety_narrow.specs.Checked.{HasScratch, HasPanicState, KeepsOthers, Answers}
use Rattle.zw_safety_narrow.specs.Code.{kept, add_code, sub_code, if_panics}
use Rattle.zw_session.specs.Causes.{integer_overflow}
use Rattle.zw_wasm.proofs.RunsCompose.{runs-then, halts-then, runs-local_get, runs-local_set, runs-i32_add, runs-i32_sub, runs-i32_lt_u}
use Rattle.zw_wasm.specs.declared.module.Instr.{Instr}
use Rattle.zw_wasm.specs.declared.module.Instr.TheVariants.{LocalGet, LocalSet}
use Rattle.zw_wasm.specs.declared.module.Module.{Module}
use Rattle.zw_wasm.specs.declared.num.Num.{Num}
use Rattle.zw_wasm.specs.declared.num.Num.TheVariants.{I32}
use Rattle.zw_wasm.specs.Reduction.{Config}
use Rattle.zw_wasm.specs.Sequences.{placed, with_locals, Runs}
use Rattle.zw_wasm.specs.Signature.{View}
use Rattle.zw_wasm.specs.Structure.{code_of, i32_add, i32_lt_u, i32_sub}

-- the locals with both operands in the first two of the eight
abbrev both : ℕ → ℕ → ℕ → List Num → List Num
both s x y locals = slice_set (slice_set locals s (I32 y)) (s + 1) (I32 x)

both-right : (s x y : ℕ) (locals : List Num) → HasScratch s locals → slice_get (both s x y locals) s ≡ Some (I32 y)
both-right s x y locals h =
    slice_get-set_other (slice_set locals s (I32 y)) (s + 1) s (I32 x) (λ e. omega (arith, e)) ∙ slice_get-set_same locals s (I32 y) (omega (arith, h))

both-left : (s x y : ℕ) (locals : List Num) → HasScratch s locals → slice_get (both s x y locals) (s + 1) ≡ Some (I32 x)
both-left s x y locals h = slice_get-set_same (slice_set locals s (I32 y)) (s + 1) (I32 x) (omega (arith, h, length-set locals s (I32 y)))

both-keeps : (s x y : ℕ) (locals : List Num) → KeepsOthers s locals (both s x y locals)
both-keeps s x y locals =
    keeps-set s 1 locals (slice_set locals s (I32 y)) (I32 x) (lit< tt)
    (subst (λ n. KeepsOthers s locals (slice_set locals n (I32 y))) (omega arith) (keeps-set s 0 locals locals (I32 y) (lit< tt) (keeps-same s locals)))

-- both operands are kept, and stand on the operands again
kept-runs : (m : Module) (v : View) (c : Config) (s x y : ℕ) (rest : List Instr) (os : List Num) → HasScratch s c.frame.locals → Runs m v (placed (code_of (kept s ++ rest)) (I32 y ∷ I32 x ∷ os) c) (placed (code_of rest) (I32 y ∷ I32 x ∷ os) (with_locals (both s x y c.frame.locals) c)) 4
kept-runs m v c s x y rest os h =
    let locals = c.frame.locals in
    let d = with_locals (both s x y locals) c in
    let first = runs-local_set m v c s (I32 y) (code_of (LocalSet (s + 1) ∷ LocalGet (s + 1) ∷ LocalGet s ∷ rest)) (I32 x ∷ os) (omega (arith, h)) in
    let second = runs-local_set m v (with_locals (slice_set locals s (I32 y)) c) (s + 1) (I32 x) (code_of (LocalGet (s + 1) ∷ LocalGet s ∷ rest)) os (omega (arith, h, length-set locals s (I32 y))) in
    let third = runs-local_get m v d (s + 1) (I32 x) (code_of (LocalGet s ∷ rest)) os (both-left s x y locals h) in
    let fourth = runs-local_get m v d s (I32 y) (code_of rest) (I32 x ∷ os) (both-right s x y locals h) in
    runs-then first (runs-then second (runs-then third fourth))

-- the number that a comparison gives
abbrev bit : Bool → ℕ
bit b = if b then 1 else 0

-- ---- the difference

sub-less : (x y : ℕ) → y ≤ x → x < 2 ^ 32 → (x + (2 ^ 32 - y)) % 2 ^ 32 ≡ x - y
sub-less x y h small = omega (arith, h, small)

-- up to the choice, for what the comparison gives
sub-compares : (m : Module) (v : View) (c : Config) (s x y : ℕ) (rest : List Instr) (os : List Num) → HasScratch s c.frame.locals → Runs m v (placed (code_of (sub_code s ++ rest)) (I32 y ∷ I32 x ∷ os) c) (placed (code_of (if_panics integer_overflow ++ (LocalGet (s + 1) ∷ LocalGet s ∷ i32_sub ∷ rest))) (I32 (bit (nat_lt x y)) ∷ os) (with_locals (both s x y c.frame.locals) c)) 5
sub-compares m v c s x y rest os h =
    let tail = if_panics integer_overflow ++ (LocalGet (s + 1) ∷ LocalGet s ∷ i32_sub ∷ rest) in
    runs-then (kept-runs m v c s x y (i32_lt_u ∷ tail) os h) (runs-i32_lt_u m v (with_locals (both s x y c.frame.locals) c) x y (code_of tail) os)

sub-ends : (m : Module) (v : View) (c : Config) (s x y : ℕ) (rest : List Instr) (os : List Num) → HasScratch s c.frame.locals → y ≤ x → x < 2 ^ 32 → Runs m v (placed (code_of (LocalGet (s + 1) ∷ LocalGet s ∷ i32_sub ∷ rest)) os (with_locals (both s x y c.frame.locals) c)) (placed (code_of rest) (I32 (x - y) ∷ os) (with_locals (both s x y c.frame.locals) c)) 3
sub-ends m v c s x y rest os h less small =
    let locals = c.frame.locals in
    let d = with_locals (both s x y locals) c in
    let first = runs-local_get m v d (s + 1) (I32 x) (code_of (LocalGet s ∷ i32_sub ∷ rest)) os (both-left s x y locals h) in
    let second = runs-local_get m v d s (I32 y) (code_of (i32_sub ∷ rest)) (I32 x ∷ os) (both-right s x y locals h) in
    let third = runs-i32_sub m v d x y (code_of rest) os in
    subst (λ n. Runs m v (placed (code_of (LocalGet (s + 1) ∷ LocalGet s ∷ i32_sub ∷ rest)) os d) (placed (code_of rest) (I32 n ∷ os) d) 3) (sub-less x y less small)
    (runs-then first (runs-then second third))

sub-answers_for : (b : Bool) (m : Module) (v : View) (c : Config) (s x y : ℕ) (rest : List Instr) (os : List Num) → nat_lt x y ≡ b → HasScratch s c.frame.locals → HasPanicState c.world.store → x < 2 ^ 32 → Answers m v s (difference_in 32 x y) (placed (code_of (sub_code s ++ rest)) (I32 y ∷ I32 x ∷ os) c) (code_of rest) os
sub-answers_for true m v c s x y rest os e h state small =
    let locals = both s x y c.frame.locals in
    let more : nat_le y x ≡ false = grind (arith, nat_tests, ltb-true x y e) in
    let start = placed (code_of (sub_code s ++ rest)) (I32 y ∷ I32 x ∷ os) c in
    let tail = LocalGet (s + 1) ∷ LocalGet s ∷ i32_sub ∷ rest in
    let compares = subst (λ b. Runs m v start (placed (code_of (if_panics integer_overflow ++ tail)) (I32 (bit b) ∷ os) (with_locals locals c)) 5) e (sub-compares m v c s x y rest os h) in
    subst (λ b. Answers m v s (if b then Some (x - y) else None) start (code_of rest) os) (sym more)
    (record { taken = 13; few = lit≤ tt; halts = halts-then compares (if_panics-halts m v (with_locals locals c) integer_overflow tail os state) })
sub-answers_for false m v c s x y rest os e h state small =
    let locals = both s x y c.frame.locals in
    let less : y ≤ x = ltb-false x y e in
    let start = placed (code_of (sub_code s ++ rest)) (I32 y ∷ I32 x ∷ os) c in
    let tail = LocalGet (s + 1) ∷ LocalGet s ∷ i32_sub ∷ rest in
    let compares = subst (λ b. Runs m v start (placed (code_of (if_panics integer_overflow ++ tail)) (I32 (bit b) ∷ os) (with_locals locals c)) 5) e (sub-compares m v c s x y rest os h) in
    let passes = runs-then compares (if_panics-passed m v (with_locals locals c) integer_overflow tail os) in
    subst (λ b. Answers m v s (if b then Some (x - y) else None) start (code_of rest) os) (sym (le-leb y x less))
    (record { locals = locals; kept = both-keeps s x y c.frame.locals; taken = 9; few = lit≤ tt; runs = runs-then passes (sub-ends m v c s x y rest os h less small) })

pub sub-answers : (m : Module) (v : View) (c : Config) (s x y : ℕ) (rest : List Instr) (os : List Num) → HasScratch s c.frame.locals → HasPanicState c.world.store → x < 2 ^ 32 → Answers m v s (difference_in 32 x y) (placed (code_of (sub_code s ++ rest)) (I32 y ∷ I32 x ∷ os) c) (code_of rest) os
sub-answers m v c s x y rest os h state small = sub-answers_for (nat_lt x y) m v c s x y rest os refl h state small

-- ---- the sum

-- the locals with the sum in the place of the right operand
abbrev summed : ℕ → ℕ → ℕ → List Num → List Num
summed s x y locals = slice_set (both s x y locals) s (I32 ((x + y) % 2 ^ 32))

both-count : (s x y : ℕ) (locals : List Num) → length (both s x y locals) ≡ length locals
both-count s x y locals = length-set (slice_set locals s (I32 y)) (s + 1) (I32 x) ∙ length-set locals s (I32 y)

summed-sum : (s x y : ℕ) (locals : List Num) → HasScratch s locals → slice_get (summed s x y locals) s ≡ Some (I32 ((x + y) % 2 ^ 32))
summed-sum s x y locals h = slice_get-set_same (both s x y locals) s (I32 ((x + y) % 2 ^ 32)) (omega (arith, h, both-count s x y locals))

summed-left : (s x y : ℕ) (locals : List Num) → HasScratch s locals → slice_get (summed s x y locals) (s + 1) ≡ Some (I32 x)
summed-left s x y locals h = slice_get-set_other (both s x y locals) s (s + 1) (I32 ((x + y) % 2 ^ 32)) (λ e. omega (arith, e)) ∙ both-left s x y locals h

summed-keeps : (s x y : ℕ) (locals : List Num) → KeepsOthers s locals (summed s x y locals)
summed-keeps s x y locals =
    subst (λ n. KeepsOthers s locals (slice_set (both s x y locals) n (I32 ((x + y) % 2 ^ 32)))) (omega arith)
    (keeps-set s 0 locals (both s x y locals) (I32 ((x + y) % 2 ^ 32)) (lit< tt) (both-keeps s x y locals))

-- what the comparison of the sum with the left operand says
sum-overflows : (x y : ℕ) → x < 2 ^ 32 → y < 2 ^ 32 → nat_lt ((x + y) % 2 ^ 32) x ≡ true → nat_lt (x + y) (2 ^ 32) ≡ false
sum-overflows x y h k e = le-ltb (x + y) (2 ^ 32) (omega (arith, h, k, ltb-true ((x + y) % 2 ^ 32) x e))

sum-fits : (x y : ℕ) → x < 2 ^ 32 → y < 2 ^ 32 → nat_lt ((x + y) % 2 ^ 32) x ≡ false → x + y < 2 ^ 32
sum-fits x y h k e = omega (arith, h, k, ltb-false ((x + y) % 2 ^ 32) x e)

add-compares : (m : Module) (v : View) (c : Config) (s x y : ℕ) (rest : List Instr) (os : List Num) → HasScratch s c.frame.locals → Runs m v (placed (code_of (add_code s ++ rest)) (I32 y ∷ I32 x ∷ os) c) (placed (code_of (if_panics integer_overflow ++ (LocalGet s ∷ rest))) (I32 (bit (nat_lt ((x + y) % 2 ^ 32) x)) ∷ os) (with_locals (summed s x y c.frame.locals) c)) 9
add-compares m v c s x y rest os h =
    let locals = c.frame.locals in
    let sum = (x + y) % 2 ^ 32 in
    let tail = if_panics integer_overflow ++ (LocalGet s ∷ rest) in
    let d = with_locals (both s x y locals) c in
    let e = with_locals (summed s x y locals) c in
    let first = kept-runs m v c s x y (i32_add ∷ LocalSet s ∷ LocalGet s ∷ LocalGet (s + 1) ∷ i32_lt_u ∷ tail) os h in
    let second = runs-i32_add m v d x y (code_of (LocalSet s ∷ LocalGet s ∷ LocalGet (s + 1) ∷ i32_lt_u ∷ tail)) os in
    let third = runs-local_set m v d s (I32 sum) (code_of (LocalGet s ∷ LocalGet (s + 1) ∷ i32_lt_u ∷ tail)) os (omega (arith, h, both-count s x y locals)) in
    let fourth = runs-local_get m v e s (I32 sum) (code_of (LocalGet (s + 1) ∷ i32_lt_u ∷ tail)) os (summed-sum s x y locals h) in
    let fifth = runs-local_get m v e (s + 1) (I32 x) (code_of (i32_lt_u ∷ tail)) (I32 sum ∷ os) (summed-left s x y locals h) in
    let sixth = runs-i32_lt_u m v e sum x (code_of tail) os in
    runs-then first (runs-then second (runs-then third (runs-then fourth (runs-then fifth sixth))))

add-answers_for : (b : Bool) (m : Module) (v : View) (c : Config) (s x y : ℕ) (rest : List Instr) (os : List Num) → nat_lt ((x + y) % 2 ^ 32) x ≡ b → HasScratch s c.frame.locals → HasPanicState c.world.store → x < 2 ^ 32 → y < 2 ^ 32 → Answers m v s (sum_in 32 x y) (placed (code_of (add_code s ++ rest)) (I32 y ∷ I32 x ∷ os) c) (code_of rest) os
add-answers_for true m v c s x y rest os e h state small_x small_y =
    let locals = summed s x y c.frame.locals in
    let start = placed (code_of (add_code s ++ rest)) (I32 y ∷ I32 x ∷ os) c in
    let tail = LocalGet s ∷ rest in
    let compares = subst (λ b. Runs m v start (placed (code_of (if_panics integer_overflow ++ tail)) (I32 (bit b) ∷ os) (with_locals locals c)) 9) e (add-compares m v c s x y rest os h) in
    subst (λ b. Answers m v s (if b then Some (x + y) else None) start (code_of rest) os) (sym (sum-overflows x y small_x small_y e))
    (record { taken = 17; few = lit≤ tt; halts = halts-then compares (if_panics-halts m v (with_locals locals c) integer_overflow tail os state) })
add-answers_for false m v c s x y rest os e h state small_x small_y =
    let locals = summed s x y c.frame.locals in
    let fits = sum-fits x y small_x small_y e in
    let start = placed (code_of (add_code s ++ rest)) (I32 y ∷ I32 x ∷ os) c in
    let tail = LocalGet s ∷ rest in
    let compares = subst (λ b. Runs m v start (placed (code_of (if_panics integer_overflow ++ tail)) (I32 (bit b) ∷ os) (with_locals locals c)) 9) e (add-compares m v c s x y rest os h) in
    let passes = runs-then compares (if_panics-passed m v (with_locals locals c) integer_overflow tail os) in
    let ends = runs-local_get m v (with_locals locals c) s (I32 ((x + y) % 2 ^ 32)) (code_of rest) os (summed-sum s x y c.frame.locals h) in
    let runs = subst (λ n. Runs m v start (placed (code_of rest) (I32 n ∷ os) (with_locals locals c)) 11) (mod-eq_of_lt fits) (runs-then passes ends) in
    subst (λ b. Answers m v s (if b then Some (x + y) else None) start (code_of rest) os) (sym (lt-ltb (x + y) (2 ^ 32) fits))
    (record { locals = locals; kept = summed-keeps s x y c.frame.locals; taken = 11; few = lit≤ tt; runs = runs })

pub add-answers : (m : Module) (v : View) (c : Config) (s x y : ℕ) (rest : List Instr) (os : List Num) → HasScratch s c.frame.locals → HasPanicState c.world.store → x < 2 ^ 32 → y < 2 ^ 32 → Answers m v s (sum_in 32 x y) (placed (code_of (add_code s ++ rest)) (I32 y ∷ I32 x ∷ os) c) (code_of rest) os
add-answers m v c s x y rest os h state small_x small_y = add-answers_for (nat_lt ((x + y) % 2 ^ 32) x) m v c s x y rest os refl h state small_x small_y
