-- Settling: what is due behind the ends of labels and frames.
use Rattle.std.specs.Prelude.{◌≡◌, ℕ, Bool, true, false, List, Some, slice_get}
use Rattle.zw_wasm.specs.declared.module.Instr.{Instr}
use Rattle.zw_wasm.specs.declared.module.Instr.TheVariants as instr
use Rattle.zw_wasm.specs.declared.module.Module.{Module}
use Rattle.zw_wasm.specs.Reduction.{Config}
use Rattle.zw_wasm_run.specs.declared.stacks.Stacks.{Stacks}
use Rattle.zw_wasm_run.specs.Running.{CallEnds, SameNext, StacksStand, StandsLike, body_of}

-- whether an instruction ends a sequence
abbrev pub closes : Instr → Bool
closes instr.End = true
closes instr.Else = true
closes _ = false

-- the stacks stand for some configuration
pub record IsStanding (m : Module) (stacks : Stacks) : Type 0 where
  pub config : Config
  pub stand : StacksStand m stacks config

-- an instruction is due at the frame's place
pub record IsAt (m : Module) (stacks : Stacks) (i : Instr) : Type 0 where
  pub here : slice_get (body_of m stacks.frame.body) stacks.frame.at ≡ Some i
  pub opens : closes i ≡ false

-- an instruction is due, and the same comes next as before
pub record IsReached (m : Module) (old : Stacks) (i : Instr) (new : Stacks) : Type 0 where
  pub at : IsAt m new i
  pub by : (c : Config) → StacksStand m old c → StandsLike m c new

-- a call has come to its end, and these words are the results
pub record Finishes (words : List ℕ) (c : Config) : Type 0 where
  pub next : Config
  pub ends : CallEnds words next
  pub same : SameNext c next

pub record IsAtEnd (m : Module) (old : Stacks) (words : List ℕ) : Type 0 where
  pub by : (c : Config) → StacksStand m old c → Finishes words c
