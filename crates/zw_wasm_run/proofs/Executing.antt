-- Executing: instructions on operands and on locals, on the stacks of a call.
use Rattle.std.proofs.Common.{◌≡◌}
use Rattle.zw_wasm.specs.declared.module.Instr.{Instr}
use Rattle.zw_wasm.specs.declared.module.Module.{Module}
use Rattle.zw_wasm.specs.Reduction.{act}
use Rattle.zw_wasm_words.specs.declared.effect.Effect.{Effect}
use Rattle.zw_wasm_words.specs.Frames.{ActsInFrame}
use Rattle.zw_wasm_words.specs.Operands.{ActsOnWords}
use Rattle.zw_wasm_run.specs.declared.pause.Taken.{Taken}
use Rattle.zw_wasm_run.specs.declared.stacks.Stacks.{Stacks}
use Rattle.zw_wasm_run.specs.declared.store.Store.{Store}
use Rattle.zw_wasm_run.specs.Stores.{Executes, taken_of}
use Rattle.zw_wasm_run.proofs.Calling.{on_locals, on_words}
use Rattle.zw_wasm_run.proofs.StoreSteps.{executes_so}

-- an instruction on the operands of the frame that runs
pub executes_words : (m : Module) (i : Instr) (store : Store) (old : Stacks) (e : Effect) (t : Taken) (new : Stacks) → t ≡ taken_of e → ActsOnWords (act m i) old.words.items e new.words.items → new.frame ≡ old.frame → new.frames.items ≡ old.frames.items → new.labels.items ≡ old.labels.items → Executes m i store old t store new
executes_words m i store old e t new is acts frame frames labels = executes_so m i store old e t new is (on_words m (act m i) old e new acts frame frames labels)

-- an instruction on its locals
pub executes_locals : (m : Module) (i : Instr) (store : Store) (old : Stacks) (e : Effect) (t : Taken) (new : Stacks) → t ≡ taken_of e → ActsInFrame old.frame (act m i) old.words.items e new.words.items → new.frame ≡ old.frame → new.frames.items ≡ old.frames.items → new.labels.items ≡ old.labels.items → Executes m i store old t store new
executes_locals m i store old e t new is acts frame frames labels = executes_so m i store old e t new is (on_locals m (act m i) old e new acts frame frames labels)
