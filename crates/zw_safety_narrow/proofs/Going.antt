-- Pieces of code with the most instructions that they take, and how they end an operator's code.
use Rattle.std.proofs.Common.{◌≡◌, ℕ, ℤ, ◌+◌, ◌<◌, ◌≤◌, Bool, List, [], ◌∷◌, ◌++◌, length, Ok, Err, refl, sym, ap, subst, arith, cond}
use Rattle.std.specs.Prelude.{nat_eq, slice_set, if◌then◌else◌}
use Rattle.std.proofs.lemmas.Bool.{lt-ltb}
use Rattle.zw_num.specs.Arithmetic.{pattern}
use Rattle.zw_num.specs.declared.int_ty.IntTy.{IntTy}
use Rattle.zw_num.specs.declared.num_fault.NumFault.{NumFault}
use Rattle.zw_safety_narrow.proofs.NarrowRuns.{filled-narrow}
use Rattle.zw_safety_narrow.proofs.Pieces.{State, having, Steps, Fails, steps-then, fails-behind, fails-before}
use Rattle.zw_safety_narrow.specs.Checked.{KeepsOthers}
use Rattle.zw_safety_narrow.specs.Operators.{IsNarrow, EndsWith, cause_of}
use Rattle.zw_wasm.proofs.RunsCompose.{runs-step}
use Rattle.zw_wasm.specs.declared.module.Instr.{Instr}
use Rattle.zw_wasm.specs.declared.module.Instr.TheVariants.{LocalTee, Select, IsZero}
use Rattle.zw_wasm.specs.declared.module.Module.{Module}
use Rattle.zw_wasm.specs.declared.module.ValType.TheVariants as ty
use Rattle.zw_wasm.specs.declared.num.Num.{Num}
use Rattle.zw_wasm.specs.declared.num.Num.TheVariants.{I32}
use Rattle.zw_wasm.specs.Numerics.{bit_of}
use Rattle.zw_wasm.specs.Reduction.{Config, Goes, Traps, no_rule, resolved}
use Rattle.zw_wasm.specs.Sequences.{placed, with_locals, Runs}
use Rattle.zw_wasm.specs.Signature.{View}
use Rattle.zw_wasm.specs.Structure.{code_of}

pub record Moves (m : Module) (v : View) (c : Config) (is : List Instr) (s t : State) (most : ℕ) : Type 0 where
  pub count : ℕ
  pub few : count ≤ most
  pub steps : Steps m v c is s t count

pub record Breaks (m : Module) (v : View) (c : Config) (is : List Instr) (s : State) (cause most : ℕ) : Type 0 where
  pub count : ℕ
  pub few : count ≤ most
  pub fails : Fails m v c is s cause count

pub moves : {m : Module} {v : View} {c : Config} {is : List Instr} {s t : State} {count : ℕ} → Steps m v c is s t count → Moves m v c is s t count
moves {m} {v} {c} {is} {s} {t} {count} steps = record { count = count; few = omega arith; steps = steps }

pub breaks : {m : Module} {v : View} {c : Config} {is : List Instr} {s : State} {cause count : ℕ} → Fails m v c is s cause count → Breaks m v c is s cause count
breaks {m} {v} {c} {is} {s} {cause} {count} fails = record { count = count; few = omega arith; fails = fails }

pub andthen : {m : Module} {v : View} {c : Config} {is js : List Instr} {s t u : State} {i j : ℕ} → Moves m v c is s t i → Moves m v c js t u j → Moves m v c (is ++ js) s u (i + j)
andthen a b = record { count = a.count + b.count; few = omega (arith, a.few, b.few); steps = steps-then a.steps b.steps }

pub behind : {m : Module} {v : View} {c : Config} {is js : List Instr} {s t : State} {cause i j : ℕ} → Moves m v c is s t i → Breaks m v c js t cause j → Breaks m v c (is ++ js) s cause (i + j)
behind a b = record { count = a.count + b.count; few = omega (arith, a.few, b.few); fails = fails-behind a.steps b.fails }

pub before : {m : Module} {v : View} {c : Config} {is : List Instr} {s : State} {cause i : ℕ} → Breaks m v c is s cause i → (js : List Instr) → Breaks m v c (is ++ js) s cause i
before a js = record { count = a.count; few = a.few; fails = fails-before a.fails js }

-- ---- single instructions

pub moves-tee : (m : Module) (v : View) (c : Config) (n : ℕ) (x : Num) (os locals : List Num) → n < length locals → Moves m v c (LocalTee n ∷ []) (having (x ∷ os) locals) (having (x ∷ os) (slice_set locals n x)) 1
moves-tee m v c n x os locals h =
    moves (record { by = λ rest. runs-step m v _ _ (ap (λ b. resolved m v c.world (cond b (Goes (placed (code_of rest) (x ∷ os) (with_locals (slice_set locals n x) c))) (Traps no_rule))) (lt-ltb n (length locals) h)) })

pub moves-select : (m : Module) (v : View) (c : Config) (n : ℕ) (b : Bool) (x y : Num) (os locals : List Num) → nat_eq n 0 ≡ b → Moves m v c (Select ∷ []) (having (I32 n ∷ y ∷ x ∷ os) locals) (having ((if b then y else x) ∷ os) locals) 1
moves-select m v c n b x y os locals e =
    subst (λ b. Moves m v c (Select ∷ []) (having (I32 n ∷ y ∷ x ∷ os) locals) (having ((if b then y else x) ∷ os) locals) 1) e
    (moves (record { by = λ rest. runs-step m v _ _ refl }))

pub moves-is_zero : (m : Module) (v : View) (c : Config) (n : ℕ) (b : Bool) (os locals : List Num) → nat_eq n 0 ≡ b → Moves m v c (IsZero ty.I32 ∷ []) (having (I32 n ∷ os) locals) (having (I32 (bit_of b) ∷ os) locals) 1
moves-is_zero m v c n b os locals e =
    subst (λ b. Moves m v c (IsZero ty.I32 ∷ []) (having (I32 n ∷ os) locals) (having (I32 (bit_of b) ∷ os) locals) 1) e
    (moves (record { by = λ rest. runs-step m v _ _ refl }))

-- ---- whole codes

pub leaves : (m : Module) (v : View) (c : Config) (s : ℕ) (to : IntTy) (z : ℤ) (below os locals : List Num) (is rest : List Instr) (most : ℕ) → IsNarrow to → KeepsOthers s c.frame.locals locals → most ≤ 128 → Moves m v c is (having below c.frame.locals) (having (I32 (pattern 32 z) ∷ os) locals) most → EndsWith m v s to (Ok z) (placed (code_of (is ++ rest)) below c) (code_of rest) os
leaves m v c s to z below os locals is rest most h keeps few runs =
    let start = placed (code_of (is ++ rest)) below c in
    record {
      locals = locals;
      kept = keeps;
      taken = runs.count;
      few = omega (arith, few, runs.few);
      runs = subst (λ x. Runs m v start (placed (code_of rest) (x ∷ os) (with_locals locals start)) runs.count) (sym (filled-narrow to z h)) (runs.steps.by rest);
    }

pub panics : (m : Module) (v : View) (c : Config) (s : ℕ) (to : IntTy) (fault : NumFault) (below os : List Num) (is rest : List Instr) (most : ℕ) → most ≤ 128 → Breaks m v c is (having below c.frame.locals) (cause_of fault) most → EndsWith m v s to (Err fault) (placed (code_of (is ++ rest)) below c) (code_of rest) os
panics m v c s to fault below os is rest most few broken =
    record { taken = broken.count; few = omega (arith, few, broken.few); halts = broken.fails.by rest }
