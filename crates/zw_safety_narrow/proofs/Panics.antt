-- What the code of a panic does.
use Rattle.std.proofs.Common.{◌≡◌, ℕ, pos, ◌<◌, false, List, [], ◌∷◌, ◌++◌, length, None, refl, arith}
use Rattle.std.specs.Prelude.{nat_eq, slice_set}
use Rattle.std.proofs.lemmas.List.{length-set}
use Rattle.zw_safety_narrow.specs.Checked.{HasPanicState, panicked}
use Rattle.zw_safety_narrow.specs.Code.{if_panics}
use Rattle.zw_wasm.proofs.RunsCompose.{runs-then, halts-then, halts-unreachable, runs-i32_const, runs-global_set, runs-choice_first, runs-choice_passed}
use Rattle.zw_wasm.specs.declared.module.Instr.{Instr}
use Rattle.zw_wasm.specs.declared.module.Instr.TheVariants.{Unreachable, GlobalSet, I32Const}
use Rattle.zw_wasm.specs.declared.module.Module.{Module}
use Rattle.zw_wasm.specs.declared.num.Num.{Num}
use Rattle.zw_wasm.specs.declared.num.Num.TheVariants.{I32}
use Rattle.zw_wasm.specs.Reduction.{Config, World, Trap, unreachable_trap, under_label, with_world}
use Rattle.zw_wasm.specs.Sequences.{placed, Runs, Halts}
use Rattle.zw_wasm.specs.Signature.{View}
use Rattle.zw_wasm.specs.Structure.{Code, Ends, Plain, code_of}

-- the world in which a global has this value
abbrev set_global : ℕ → Num → World → World
set_global n x w = record w { store = record w.store { globals = slice_set w.store.globals n x } }

-- a constant into a global
const_to_global : (m : Module) (v : View) (c : Config) (value n : ℕ) (rest : Code) → n < length c.world.store.globals → Runs m v (placed (Plain (I32Const (pos value)) (Plain (GlobalSet n) rest)) [] c) (placed rest [] (with_world (set_global n (I32 value) c.world) c)) 2
const_to_global m v c value n rest h =
    runs-then (runs-i32_const m v c (pos value) (Plain (GlobalSet n) rest) []) (runs-global_set m v c n (I32 value) rest [] h)

abbrev panic_nodes : ℕ → Code
panic_nodes cause = code_of (I32Const (pos cause) ∷ GlobalSet 0 ∷ I32Const (pos 0) ∷ GlobalSet 1 ∷ I32Const (pos 0) ∷ GlobalSet 2 ∷ Unreachable ∷ [])

-- the code of a panic, in any label
panic_halts : (m : Module) (v : View) (c : Config) (cause : ℕ) → HasPanicState c.world.store → Halts m v (placed (panic_nodes cause) [] c) (Trap unreachable_trap) (panicked cause c.world) 7
panic_halts m v c cause h =
    let gs = c.world.store.globals in
    let c1 = with_world (set_global 0 (I32 cause) c.world) c in
    let c2 = with_world (set_global 1 (I32 0) c1.world) c1 in
    let c3 = with_world (set_global 2 (I32 0) c2.world) c2 in
    let second : 1 < length (slice_set gs 0 (I32 cause)) = omega (arith, length-set gs 0 (I32 cause), h) in
    let third : 2 < length (slice_set (slice_set gs 0 (I32 cause)) 1 (I32 0)) =
    omega (arith, length-set (slice_set gs 0 (I32 cause)) 1 (I32 0), length-set gs 0 (I32 cause), h) in
    halts-then (const_to_global m v c cause 0 _ (omega (arith, h)))
    (halts-then (const_to_global m v c1 0 1 _ second)
    (halts-then (const_to_global m v c2 0 2 _ third) (halts-unreachable m v c3 Ends [])))

-- where its operand isn't 0
pub if_panics-halts_at : (m : Module) (v : View) (c : Config) (cause n : ℕ) (rest : List Instr) (os : List Num) → nat_eq n 0 ≡ false → HasPanicState c.world.store → Halts m v (placed (code_of (if_panics cause ++ rest)) (I32 n ∷ os) c) (Trap unreachable_trap) (panicked cause c.world) 8
if_panics-halts_at m v c cause n rest os e h =
    halts-then (runs-choice_first m v c None (panic_nodes cause) Ends n (code_of rest) os e)
    (panic_halts m v (under_label None (panic_nodes cause) (placed (code_of rest) os c)) cause h)

pub if_panics-halts : (m : Module) (v : View) (c : Config) (cause : ℕ) (rest : List Instr) (os : List Num) → HasPanicState c.world.store → Halts m v (placed (code_of (if_panics cause ++ rest)) (I32 1 ∷ os) c) (Trap unreachable_trap) (panicked cause c.world) 8
if_panics-halts m v c cause rest os h = if_panics-halts_at m v c cause 1 rest os refl h

-- where it is 0
pub if_panics-passed : (m : Module) (v : View) (c : Config) (cause : ℕ) (rest : List Instr) (os : List Num) → Runs m v (placed (code_of (if_panics cause ++ rest)) (I32 0 ∷ os) c) (placed (code_of rest) os c) 1
if_panics-passed m v c cause rest os = runs-choice_passed m v c (panic_nodes cause) (code_of rest) os
