-- What pieces of code do to the operands and the locals, wherever they stand.
use Rattle.std.proofs.Common.{◌≡◌, ℕ, ℤ, ◌+◌, ◌%◌, ◌^◌, ◌<◌, Bool, false, List, [], ◌∷◌, ◌++◌, length, Some, refl, sym, ap, subst, append_assoc}
use Rattle.std.specs.Prelude.{nat_eq, slice_get, slice_set}
use Rattle.std.specs.Int.{w32, w64}
use Rattle.zw_safety_narrow.proofs.Panics.{if_panics-halts, if_panics-halts_at, if_panics-passed}
use Rattle.zw_safety_narrow.specs.Checked.{HasPanicState, panicked}
use Rattle.zw_safety_narrow.specs.Code.{if_panics}
use Rattle.zw_wasm.proofs.RunsCompose.{runs-none, runs-then, runs-step, halts-then, runs-local_get, runs-local_set}
use Rattle.zw_wasm.specs.declared.module.BinaryOperator.{BinaryOperator}
use Rattle.zw_wasm.specs.declared.module.Comparison.{Comparison}
use Rattle.zw_wasm.specs.declared.module.Instr.{Instr}
use Rattle.zw_wasm.specs.declared.module.Instr.TheVariants.{LocalGet, LocalSet, I32Const, I64Const, Binary, Compare, Convert}
use Rattle.zw_wasm.specs.declared.module.Conversion.TheVariants.{Wrap, ExtendS, ExtendU}
use Rattle.zw_wasm.specs.declared.module.Module.{Module}
use Rattle.zw_wasm.specs.declared.module.ValType.TheVariants as ty
use Rattle.zw_wasm.specs.declared.num.Num.{Num}
use Rattle.zw_wasm.specs.declared.num.Num.TheVariants.{I32, I64}
use Rattle.zw_wasm.specs.Numerics.{Gives, binary_of, bit_of, extend_s, is_related}
use Rattle.zw_wasm.specs.Reduction.{Config, Trap, unreachable_trap, answered, resolved}
use Rattle.zw_wasm.specs.Sequences.{placed, with_locals, Runs, Halts}
use Rattle.zw_wasm.specs.Signature.{View}
use Rattle.zw_wasm.specs.Structure.{code_of, long_of, word_of}

-- what a piece of code finds and leaves
pub record State : Type 0 where
  pub operands : List Num
  pub locals : List Num

abbrev pub having : List Num → List Num → State
having os locals = record { operands = os; locals = locals }

abbrev pub stands : Config → List Instr → State → Config
stands c is s = placed (code_of is) s.operands (with_locals s.locals c)

-- it takes one to the other
pub record Steps (m : Module) (v : View) (c : Config) (is : List Instr) (s t : State) (count : ℕ) : Type 0 where
  pub by : (rest : List Instr) → Runs m v (stands c (is ++ rest) s) (stands c rest t) count

-- it tells a cause and traps
pub record Fails (m : Module) (v : View) (c : Config) (is : List Instr) (s : State) (cause count : ℕ) : Type 0 where
  pub by : (rest : List Instr) → Halts m v (stands c (is ++ rest) s) (Trap unreachable_trap) (panicked cause c.world) count

pub steps-none : (m : Module) (v : View) (c : Config) (s : State) → Steps m v c [] s s 0
steps-none m v c s = record { by = λ rest. runs-none m v (stands c rest s) }

pub steps-then : {m : Module} {v : View} {c : Config} {is js : List Instr} {s t u : State} {i j : ℕ} → Steps m v c is s t i → Steps m v c js t u j → Steps m v c (is ++ js) s u (i + j)
steps-then {m} {v} {c} {is} {js} {s} {t} {u} {i} {j} a b =
    record { by = λ rest. subst (λ l. Runs m v (stands c l s) (stands c rest u) (i + j)) (sym (append_assoc is js rest)) (runs-then (a.by (js ++ rest)) (b.by rest)) }

pub fails-behind : {m : Module} {v : View} {c : Config} {is js : List Instr} {s t : State} {cause i j : ℕ} → Steps m v c is s t i → Fails m v c js t cause j → Fails m v c (is ++ js) s cause (i + j)
fails-behind {m} {v} {c} {is} {js} {s} {t} {cause} {i} {j} a b =
    record { by = λ rest. subst (λ l. Halts m v (stands c l s) (Trap unreachable_trap) (panicked cause c.world) (i + j)) (sym (append_assoc is js rest)) (halts-then (a.by (js ++ rest)) (b.by rest)) }

pub fails-before : {m : Module} {v : View} {c : Config} {is : List Instr} {s : State} {cause i : ℕ} → Fails m v c is s cause i → (js : List Instr) → Fails m v c (is ++ js) s cause i
fails-before {m} {v} {c} {is} {s} {cause} {i} a js =
    record { by = λ rest. subst (λ l. Halts m v (stands c l s) (Trap unreachable_trap) (panicked cause c.world) i) (sym (append_assoc is js rest)) (a.by (js ++ rest)) }

-- ---- single instructions

pub steps-set : (m : Module) (v : View) (c : Config) (n : ℕ) (x : Num) (os locals : List Num) → n < length locals → Steps m v c (LocalSet n ∷ []) (having (x ∷ os) locals) (having os (slice_set locals n x)) 1
steps-set m v c n x os locals h = record { by = λ rest. runs-local_set m v (with_locals locals c) n x (code_of rest) os h }

pub steps-get : (m : Module) (v : View) (c : Config) (n : ℕ) (x : Num) (os locals : List Num) → slice_get locals n ≡ Some x → Steps m v c (LocalGet n ∷ []) (having os locals) (having (x ∷ os) locals) 1
steps-get m v c n x os locals e = record { by = λ rest. runs-local_get m v (with_locals locals c) n x (code_of rest) os e }

pub steps-const : (m : Module) (v : View) (c : Config) (z : ℤ) (os locals : List Num) → Steps m v c (I32Const z ∷ []) (having os locals) (having (I32 (word_of z) ∷ os) locals) 1
steps-const m v c z os locals = record { by = λ rest. runs-step m v _ _ refl }

pub steps-long_const : (m : Module) (v : View) (c : Config) (z : ℤ) (os locals : List Num) → Steps m v c (I64Const z ∷ []) (having os locals) (having (I64 (long_of z) ∷ os) locals) 1
steps-long_const m v c z os locals = record { by = λ rest. runs-step m v _ _ refl }

pub steps-wrap : (m : Module) (v : View) (c : Config) (n k : ℕ) (os locals : List Num) → n % 2 ^ 32 ≡ k → Steps m v c (Convert Wrap ∷ []) (having (I64 n ∷ os) locals) (having (I32 k ∷ os) locals) 1
steps-wrap m v c n k os locals e =
    subst (λ x. Steps m v c (Convert Wrap ∷ []) (having (I64 n ∷ os) locals) (having (I32 x ∷ os) locals) 1) e
    (record { by = λ rest. runs-step m v _ _ refl })

pub steps-extend_s : (m : Module) (v : View) (c : Config) (n k : ℕ) (os locals : List Num) → extend_s w32 w64 n ≡ k → Steps m v c (Convert ExtendS ∷ []) (having (I32 n ∷ os) locals) (having (I64 k ∷ os) locals) 1
steps-extend_s m v c n k os locals e =
    subst (λ x. Steps m v c (Convert ExtendS ∷ []) (having (I32 n ∷ os) locals) (having (I64 x ∷ os) locals) 1) e
    (record { by = λ rest. runs-step m v _ _ refl })

pub steps-extend_u : (m : Module) (v : View) (c : Config) (n k : ℕ) (os locals : List Num) → n ≡ k → Steps m v c (Convert ExtendU ∷ []) (having (I32 n ∷ os) locals) (having (I64 k ∷ os) locals) 1
steps-extend_u m v c n k os locals e =
    subst (λ x. Steps m v c (Convert ExtendU ∷ []) (having (I32 n ∷ os) locals) (having (I64 x ∷ os) locals) 1) e
    (record { by = λ rest. runs-step m v _ _ refl })

pub steps-long : (m : Module) (v : View) (c : Config) (o : BinaryOperator) (x y z : ℕ) (os locals : List Num) → binary_of o w64 x y ≡ Gives z → Steps m v c (Binary ty.I64 o ∷ []) (having (I64 y ∷ I64 x ∷ os) locals) (having (I64 z ∷ os) locals) 1
steps-long m v c o x y z os locals e =
    record { by = λ rest. runs-step m v _ _ (ap (λ r. resolved m v c.world (answered ty.I64 r (placed (code_of rest) os (with_locals locals c)))) e) }

pub steps-word : (m : Module) (v : View) (c : Config) (o : BinaryOperator) (x y z : ℕ) (os locals : List Num) → binary_of o w32 x y ≡ Gives z → Steps m v c (Binary ty.I32 o ∷ []) (having (I32 y ∷ I32 x ∷ os) locals) (having (I32 z ∷ os) locals) 1
steps-word m v c o x y z os locals e =
    record { by = λ rest. runs-step m v _ _ (ap (λ r. resolved m v c.world (answered ty.I32 r (placed (code_of rest) os (with_locals locals c)))) e) }

pub steps-compare_long : (m : Module) (v : View) (c : Config) (o : Comparison) (x y : ℕ) (b : Bool) (os locals : List Num) → is_related o w64 x y ≡ b → Steps m v c (Compare ty.I64 o ∷ []) (having (I64 y ∷ I64 x ∷ os) locals) (having (I32 (bit_of b) ∷ os) locals) 1
steps-compare_long m v c o x y b os locals e =
    subst (λ z. Steps m v c (Compare ty.I64 o ∷ []) (having (I64 y ∷ I64 x ∷ os) locals) (having (I32 (bit_of z) ∷ os) locals) 1) e
    (record { by = λ rest. runs-step m v _ _ refl })

pub steps-compare_word : (m : Module) (v : View) (c : Config) (o : Comparison) (x y : ℕ) (b : Bool) (os locals : List Num) → is_related o w32 x y ≡ b → Steps m v c (Compare ty.I32 o ∷ []) (having (I32 y ∷ I32 x ∷ os) locals) (having (I32 (bit_of b) ∷ os) locals) 1
steps-compare_word m v c o x y b os locals e =
    subst (λ z. Steps m v c (Compare ty.I32 o ∷ []) (having (I32 y ∷ I32 x ∷ os) locals) (having (I32 (bit_of z) ∷ os) locals) 1) e
    (record { by = λ rest. runs-step m v _ _ refl })

-- ---- a panic where the operand isn't 0

pub steps-passed : (m : Module) (v : View) (c : Config) (cause : ℕ) (os locals : List Num) → Steps m v c (if_panics cause) (having (I32 0 ∷ os) locals) (having os locals) 1
steps-passed m v c cause os locals = record { by = λ rest. if_panics-passed m v (with_locals locals c) cause rest os }

pub fails-panics_at : (m : Module) (v : View) (c : Config) (cause n : ℕ) (os locals : List Num) → nat_eq n 0 ≡ false → HasPanicState c.world.store → Fails m v c (if_panics cause) (having (I32 n ∷ os) locals) cause 8
fails-panics_at m v c cause n os locals e h = record { by = λ rest. if_panics-halts_at m v (with_locals locals c) cause n rest os e h }

pub fails-panics : (m : Module) (v : View) (c : Config) (cause : ℕ) (os locals : List Num) → HasPanicState c.world.store → Fails m v c (if_panics cause) (having (I32 1 ∷ os) locals) cause 8
fails-panics m v c cause os locals h = record { by = λ rest. if_panics-halts m v (with_locals locals c) cause rest os h }
