-- Performing: what an instruction comes to where the frame's place is behind it already.
use Rattle.std.specs.Prelude.{◌≡◌, ◌-◌, true}
use Rattle.zw_wasm.specs.declared.module.Instr.{Instr}
use Rattle.zw_wasm.specs.declared.module.Module.{Module}
use Rattle.zw_wasm.specs.Reduction.{act}
use Rattle.zw_wasm.specs.Structure.{is_plain}
use Rattle.zw_wasm_run.specs.declared.pause.Taken.{Taken}
use Rattle.zw_wasm_run.specs.declared.stacks.Stacks.{Stacks}
use Rattle.zw_wasm_run.specs.declared.store.Store.{Store}
use Rattle.zw_wasm_run.specs.Rooms.{StepWants, Wants}
use Rattle.zw_wasm_run.specs.Stores.{Executes, Steps}

-- the stacks whose frame stands at the instruction before its place
abbrev pub back : Stacks → Stacks
back s = record s { frame = record s.frame { at = s.frame.at - 1 } }

-- a plain instruction executes behind its place, and any other takes a step from its place
pub data Performs (m : Module) (i : Instr) (store : Store) (old : Stacks) (t : Taken) (left : Store) (new : Stacks) : Type 0 where
  of_plain : is_plain i ≡ true → Executes m i store old t left new → Performs m i store old t left new
  of_other : Steps m store (back old) t left new → Performs m i store old t left new

-- why it wants memory
pub data PerformWants (m : Module) (i : Instr) (store : Store) (old : Stacks) : Type 0 where
  plain_wants : is_plain i ≡ true → Wants m (act m i) store old → PerformWants m i store old
  other_wants : StepWants m store (back old) → PerformWants m i store old
