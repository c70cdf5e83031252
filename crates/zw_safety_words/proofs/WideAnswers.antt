-- Pieces behind both operands in their locals, that leave the value of the result or tell a cause.
use Rattle.std.proofs.Common.{◌≡◌, ℕ, zero, suc, ℤ, pos, negsuc, ◌+◌, ◌-◌, ◌%◌, ◌^◌, ◌<◌, ◌≤◌, Bool, true, false, List, [], ◌∷◌, ◌++◌, Result, Ok, Err, refl, ap, ◌∙◌, subst, arith, append_assoc}
use Rattle.std.specs.Prelude.{nat_eq, if◌then◌else◌}
use Rattle.std.proofs.lemmas.Int.{ints}
use Rattle.std.proofs.Math.Nat.{mod-eq_of_lt}
use Rattle.zw_num.specs.Arithmetic.{IsIn, pattern, divided}
use Rattle.zw_num.specs.declared.int_ty.IntTy.{IntTy}
use Rattle.zw_num.specs.declared.num_fault.NumFault.{NumFault}
use Rattle.zw_num.specs.declared.num_fault.NumFault.TheVariants.{DivZero}
use Rattle.zw_safety_narrow.proofs.NarrowRuns.{EndsOn}
use Rattle.zw_safety_narrow.proofs.Pieces.{having, Steps, Fails, steps-then, fails-behind, fails-before, steps-get, steps-passed, fails-panics}
use Rattle.zw_safety_narrow.specs.Checked.{HasScratch, HasPanicState, KeepsOthers}
use Rattle.zw_safety_narrow.specs.Code.{if_panics}
use Rattle.zw_safety_narrow.specs.Operators.{IsStored, filled, cause_of}
use Rattle.zw_safety_words.proofs.WideBitRuns.{brings-value}
use Rattle.zw_safety_words.proofs.WideRuns.{Reaches, HasOperands, has-operands, reaches, reaches-then, reaches-within, steps-spread, with_operands}
use Rattle.zw_safety_words.proofs.WideWords.{IsHeld, held}
use Rattle.zw_safety_words.specs.WideBitCode.{zero_tested}
use Rattle.zw_safety_words.specs.WideCode.{spread}
use Rattle.zw_wasm.proofs.RunsCompose.{runs-step}
use Rattle.zw_wasm.specs.declared.module.Instr.{Instr}
use Rattle.zw_wasm.specs.declared.module.Instr.TheVariants.{LocalGet, IsZero}
use Rattle.zw_wasm.specs.declared.module.Module.{Module}
use Rattle.zw_wasm.specs.declared.module.ValType.TheVariants.{I64 as long}
use Rattle.zw_wasm.specs.declared.num.Num.{Num}
use Rattle.zw_wasm.specs.declared.num.Num.TheVariants.{I32, I64}
use Rattle.zw_wasm.specs.Numerics.{bit_of}
use Rattle.zw_wasm.specs.Reduction.{Config}
use Rattle.zw_wasm.specs.Signature.{View}

-- a piece that leaves a value of the result's type
pub record LeavesValue (m : Module) (v : View) (c : Config) (is : List Instr) (s : ℕ) (to : IntTy) (z : ℤ) (os before locals : List Num) (most : ℕ) : Type 0 where
  pub after : List Num
  pub keeps : KeepsOthers s before after
  pub runs : Reaches m v c is (having os locals) (having (filled to z ∷ os) after) most

-- a piece that tells a cause and traps
pub record TellsCause (m : Module) (v : View) (c : Config) (is : List Instr) (cause : ℕ) (os locals : List Num) (most : ℕ) : Type 0 where
  pub count : ℕ
  pub few : count ≤ most
  pub fails : Fails m v c is (having os locals) cause count

-- the one or the other, by an operator's answer
abbrev pub Answers : Module → View → Config → List Instr → ℕ → IntTy → Result ℤ NumFault → List Num → List Num → List Num → ℕ → Type 0
Answers m v c is s to (Ok z) os before locals most = LeavesValue m v c is s to z os before locals most
Answers m v c is s to (Err fault) os before locals most = TellsCause m v c is (cause_of fault) os locals most

-- with room for more instructions
pub answers-within : (r : Result ℤ NumFault) (m : Module) (v : View) (c : Config) (is : List Instr) (s : ℕ) (to : IntTy) (os before locals : List Num) (i j : ℕ) → i ≤ j → Answers m v c is s to r os before locals i → Answers m v c is s to r os before locals j
answers-within (Ok z) m v c is s to os before locals i j h a = record { after = a.after; keeps = a.keeps; runs = reaches-within a.runs j h }
answers-within (Err fault) m v c is s to os before locals i j h a = let few = a.few in record { count = a.count; few = omega (arith, h, few); fails = a.fails }

-- behind a piece that leaves nothing
pub answers-behind : (r : Result ℤ NumFault) (m : Module) (v : View) (c : Config) (is js : List Instr) (s : ℕ) (to : IntTy) (os before first second : List Num) (i j : ℕ) → Reaches m v c is (having os first) (having os second) i → Answers m v c js s to r os before second j → Answers m v c (is ++ js) s to r os before first (i + j)
answers-behind (Ok z) m v c is js s to os before first second i j a b = record { after = b.after; keeps = b.keeps; runs = reaches-then a b.runs }
answers-behind (Err fault) m v c is js s to os before first second i j a b =
    let one = a.few in
    let two = b.few in
    record { count = a.count + b.count; few = omega (arith, one, two); fails = fails-behind a.steps b.fails }

-- a test that leaves 1 where some piece tells its cause, and else 0
pub tells : (m : Module) (v : View) (c : Config) (test js : List Instr) (s : ℕ) (to : IntTy) (fault : NumFault) (os before first second : List Num) (i : ℕ) → HasPanicState c.world.store → Reaches m v c test (having os first) (having (I32 1 ∷ os) second) i → Answers m v c ((test ++ if_panics (cause_of fault)) ++ js) s to (Err fault) os before first (i + 8)
tells m v c test js s to fault os before first second i state a =
    let one = a.few in
    record { count = a.count + 8; few = omega (arith, one); fails = fails-before (fails-behind a.steps (fails-panics m v c (cause_of fault) os second state)) js }

pub passes : (m : Module) (v : View) (c : Config) (test : List Instr) (cause : ℕ) (os first second : List Num) (i : ℕ) → Reaches m v c test (having os first) (having (I32 0 ∷ os) second) i → Reaches m v c (test ++ if_panics cause) (having os first) (having os second) (i + 1)
passes m v c test cause os first second i a = reaches-then a (reaches (steps-passed m v c cause os second))

regrouped : (is js ps ks : List Instr) → ((is ++ js) ++ ps) ++ ks ≡ is ++ ((js ++ ps) ++ ks)
regrouped is js ps ks = ap (λ l. l ++ ks) (append_assoc is js ps) ∙ append_assoc is (js ++ ps) ks

-- a test by which a piece is reached, or a cause is told
pub tested-answers : (t : Bool) (r : Result ℤ NumFault) (m : Module) (v : View) (c : Config) (test js : List Instr) (s : ℕ) (to : IntTy) (fault : NumFault) (os before first second : List Num) (i j : ℕ) → HasPanicState c.world.store → Reaches m v c test (having os first) (having (I32 (bit_of t) ∷ os) second) i →
    (t ≡ false → Answers m v c js s to r os before second j) → 8 ≤ j → Answers m v c ((test ++ if_panics (cause_of fault)) ++ js) s to (if t then Err fault else r) os before first (i + 1 + j)
tested-answers true r m v c test js s to fault os before first second i j state a b more =
    let all = tells m v c test js s to fault os before first second i state a in
    let few = all.few in
    record { count = all.count; few = omega (arith, few, more); fails = all.fails }
tested-answers false r m v c test js s to fault os before first second i j state a b more =
    answers-behind r m v c (test ++ if_panics (cause_of fault)) js s to os before first second (i + 1) j (passes m v c test (cause_of fault) os first second i a) (b refl)

-- behind a piece that leaves a number, and a test of the number
pub tested_behind : (t : Bool) (m : Module) (v : View) (c : Config) (is js : List Instr) (s : ℕ) (to : IntTy) (fault : NumFault) (w : ℤ) (ks : List Instr) (os before first second : List Num) (i j : ℕ) → HasPanicState c.world.store → Reaches m v c (is ++ js) (having os first) (having (I32 (bit_of t) ∷ os) second) i →
    LeavesValue m v c ks s to w os before second j → 8 ≤ j → Answers m v c (is ++ ((js ++ if_panics (cause_of fault)) ++ ks)) s to (if t then Err fault else Ok w) os before first (i + 1 + j)
tested_behind t m v c is js s to fault w ks os before first second i j state a b more =
    let all = tested-answers t (Ok w) m v c (is ++ js) ks s to fault os before first second i j state a (λ e. b) more in
    subst (λ l. Answers m v c l s to (if t then Err fault else Ok w) os before first (i + 1 + j)) (regrouped is js (if_panics (cause_of fault)) ks) all

-- behind both operands
pub spread-ends : (r : Result ℤ NumFault) (m : Module) (v : View) (c : Config) (s : ℕ) (left right to : IntTy) (a b : ℤ) (os : List Num) (is rest : List Instr) (most : ℕ) → most ≤ 124 → IsStored left → IsStored right → IsIn left a → IsIn right b → HasScratch s c.frame.locals →
    Answers m v c is s to r os c.frame.locals (with_operands s (pattern 64 a) (pattern 64 b) c.frame.locals) most → EndsOn m v c s left right to a b os (spread left right s ++ is) rest r
spread-ends (Ok z) m v c s left right to a b os is rest most few hl hr il ir room answer =
    brings-value m v c s left right to a b z os (spread left right s ++ is) rest (4 + most) (omega (arith, few))
    (record { after = answer.after; keeps = answer.keeps; runs = reaches-then (steps-spread m v c left right s a b os c.frame.locals hl hr il ir room) answer.runs })
spread-ends (Err fault) m v c s left right to a b os is rest most few hl hr il ir room answer =
    let first = steps-spread m v c left right s a b os c.frame.locals hl hr il ir room in
    let one = first.few in
    let two = answer.few in
    record { taken = first.count + answer.count; few = omega (arith, one, two, few); halts = (fails-behind first.steps answer.fails).by rest }

-- ---- the divisor

pub steps-is_zero : (m : Module) (v : View) (c : Config) (n : ℕ) (b : Bool) (os locals : List Num) → nat_eq n 0 ≡ b → Steps m v c (IsZero long ∷ []) (having (I64 n ∷ os) locals) (having (I32 (bit_of b) ∷ os) locals) 1
steps-is_zero m v c n b os locals e =
    subst (λ b. Steps m v c (IsZero long ∷ []) (having (I64 n ∷ os) locals) (having (I32 (bit_of b) ∷ os) locals) 1) e
    (record { by = λ rest. runs-step m v _ _ refl })

some_long : (n : ℕ) → suc n < 2 ^ 64 → nat_eq (pattern 64 (pos (suc n))) 0 ≡ false
some_long n h = let same : suc n % 2 ^ 64 ≡ suc n = mod-eq_of_lt h in grind (arith, same)

pub negative_long : (n : ℕ) → n < 2 ^ 63 → nat_eq (pattern 64 (negsuc n)) 0 ≡ false
negative_long n h = let far : 2 ^ 63 ≤ 2 ^ 64 - 1 - n % 2 ^ 64 = omega (arith, h) in grind (arith, far)

-- a divisor that isn't 0, in 64 bits
pub record IsDivisor (b : ℤ) : Type 0 where
  pub long : nat_eq (pattern 64 b) 0 ≡ false
  pub some : b ≡ pos 0 → ⊥

pub divisor_from : (n : ℕ) → IsHeld (pos (suc n)) → IsDivisor (pos (suc n))
divisor_from n h = record { long = some_long n (omega (arith, ints, h.high)); some = λ e. omega (arith, ints, e) }

pub divisor_below : (n : ℕ) → IsHeld (negsuc n) → IsDivisor (negsuc n)
divisor_below n h = record { long = negative_long n (omega (arith, ints, h.low)); some = λ e. omega (arith, ints, e) }

steps-zero : (m : Module) (v : View) (c : Config) (s : ℕ) (a b : ℤ) (t : Bool) (os before locals : List Num) → HasOperands s before locals (pattern 64 a) (pattern 64 b) → nat_eq (pattern 64 b) 0 ≡ t → Reaches m v c (LocalGet (s + 4) ∷ IsZero long ∷ []) (having os locals) (having (I32 (bit_of t) ∷ os) locals) 2
steps-zero m v c s a b t os before locals has e = reaches (steps-then (steps-get m v c (s + 4) (I64 (pattern 64 b)) os locals has.right) (steps-is_zero m v c (pattern 64 b) t os locals e))

zero-answers : (r : Result ℤ NumFault) (m : Module) (v : View) (c : Config) (s : ℕ) (to : IntTy) (a b : ℤ) (js : List Instr) (os before locals : List Num) (most : ℕ) → 8 ≤ most → HasPanicState c.world.store → IsHeld b → HasOperands s before locals (pattern 64 a) (pattern 64 b) → (IsDivisor b → Answers m v c js s to r os before locals most) → Answers m v c (zero_tested s ++ js) s to (divided b r) os before locals (3 + most)
zero-answers r m v c s to a (pos zero) js os before locals most more state h has piece =
    tested-answers true r m v c (LocalGet (s + 4) ∷ IsZero long ∷ []) js s to DivZero os before locals locals 2 most state (steps-zero m v c s a (pos 0) true os before locals has refl) (λ e. absurd (cc)) more
zero-answers r m v c s to a (pos (suc n)) js os before locals most more state h has piece =
    let d = divisor_from n h in
    tested-answers false r m v c (LocalGet (s + 4) ∷ IsZero long ∷ []) js s to DivZero os before locals locals 2 most state (steps-zero m v c s a (pos (suc n)) false os before locals has d.long) (λ e. piece d) more
zero-answers r m v c s to a (negsuc n) js os before locals most more state h has piece =
    let d = divisor_below n h in
    tested-answers false r m v c (LocalGet (s + 4) ∷ IsZero long ∷ []) js s to DivZero os before locals locals 2 most state (steps-zero m v c s a (negsuc n) false os before locals has d.long) (λ e. piece d) more

-- an answer of a division
pub divided-ends : (r : Result ℤ NumFault) (m : Module) (v : View) (c : Config) (s : ℕ) (left right to : IntTy) (a b : ℤ) (os : List Num) (js rest : List Instr) (most : ℕ) → 8 ≤ most → most ≤ 121 → IsStored left → IsStored right → IsIn left a → IsIn right b → HasScratch s c.frame.locals → HasPanicState c.world.store →
    ((locals : List Num) → HasOperands s c.frame.locals locals (pattern 64 a) (pattern 64 b) → IsDivisor b → Answers m v c js s to r os c.frame.locals locals most) → EndsOn m v c s left right to a b os (spread left right s ++ (zero_tested s ++ js)) rest (divided b r)
divided-ends r m v c s left right to a b os js rest most more few hl hr il ir room state piece =
    let locals = with_operands s (pattern 64 a) (pattern 64 b) c.frame.locals in
    let has = has-operands s (pattern 64 a) (pattern 64 b) c.frame.locals room in
    spread-ends (divided b r) m v c s left right to a b os (zero_tested s ++ js) rest (3 + most) (omega (arith, few)) hl hr il ir room
    (zero-answers r m v c s to a b js os c.frame.locals locals most more state (held right b hr ir) has (piece locals has))
