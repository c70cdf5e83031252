-- Ends: how lines tell the end of a call, and which status a session has.
use Rattle.std.specs.Prelude.{ℕ, true, ◌&&◌, nat_eq, nat_le, List, [], ◌∷◌, codes, Option, Some, None, if◌then◌else◌}
use Rattle.zw_exec.specs.declared.end.SessionEnd.{SessionEnd}
use Rattle.zw_exec.specs.declared.end.SessionEnd.TheVariants as session
use Rattle.zw_report.specs.declared.end.End.{End}
use Rattle.zw_report.specs.declared.end.End.TheVariants as ends
use Rattle.zw_report.specs.declared.item.ItemTy.{ItemTy}
use Rattle.zw_report.specs.declared.item.ItemTy.TheVariants.{Int, Void}
use Rattle.zw_session.specs.Causes.{message_cause, last_cause}
use Rattle.zw_wasm.specs.declared.module.Module.{Module}
use Rattle.zw_wasm.specs.declared.num.Num.{Num}
use Rattle.zw_wasm.specs.declared.num.Num.TheVariants as num
use Rattle.zw_wasm.specs.ModuleMachine.{exported_global}
use Rattle.zw_wasm.specs.Reduction.{Ended, Finished, Going, NoReply, Run, Store, Trap}
use Rattle.zw_wasm_run.specs.declared.event.Outcome.{Outcome}
use Rattle.zw_wasm_run.specs.declared.event.Outcome.TheVariants as outcome
use Rattle.zw_wasm_run.specs.Machines.{bytes_of_memory}

-- the type by which a number is printed with its sign
abbrev pub type_of : Num → ItemTy
type_of (num.I32 n) = Int true 32
type_of (num.I64 n) = Int true 64

-- a call returned: a number, or nothing
abbrev pub returned : Option Num → End
returned None = ends.Result Void None
returned (Some n) = ends.Result (type_of n) (Some n)

abbrev pub first_of : List Num → Option Num
first_of [] = None
first_of (n ∷ ns) = Some n

-- a panic with a message, where all its bytes are in the memory
abbrev pub panic_with : Option (List ℕ) → End
panic_with None = ends.Trap
panic_with (Some bytes) = ends.Panic message_cause bytes

-- a trap is a panic where the three numbers are there, with a cause that there is, and for a message with its bytes
abbrev pub panic_of : Module → List ℕ → Option ℕ → Option ℕ → Option ℕ → End
panic_of m memory (Some cause) (Some at) (Some count) =
    if nat_eq cause message_cause then panic_with (bytes_of_memory m.memories memory at count)
    else (if nat_le 1 cause && nat_le cause last_cause then ends.Panic cause [] else ends.Trap)
panic_of m memory _ _ _ = ends.Trap

abbrev pub trapped : Module → Store → End
trapped m store =
    panic_of m store.memory (exported_global m store (codes "panic_cause")) (exported_global m store (codes "panic_ptr")) (exported_global m store (codes "panic_len"))

-- how a run is told that ended so, or that has taken all steps
abbrev pub end_of : Module → Run → End
end_of m (Going w) = ends.StepsOut
end_of m (Ended (Finished results) w left) = returned (first_of results)
end_of m (Ended (Trap code) w left) = trapped m w.store
end_of m (Ended NoReply w left) = ends.WantsReply

-- how a session ends whose last call ended so
abbrev pub session_end : End → SessionEnd
session_end (ends.Result ty number) = session.Done
session_end (ends.Panic cause message) = session.Panicked
session_end ends.WantsReply = session.WantsReply
session_end ends.StepsOut = session.StepsOut
session_end ends.Trap = session.Trapped

abbrev pub status_of : SessionEnd → ℕ
status_of session.Done = 0
status_of session.Panicked = 3
status_of session.StepsOut = 4
status_of session.WantsReply = 5
status_of session.Trapped = 12

-- how an outcome is told, with what the frames share after it
abbrev pub outcome_end : Module → Store → Outcome → End
outcome_end m store (outcome.Result number) = returned number
outcome_end m store outcome.WantsReply = ends.WantsReply
outcome_end m store outcome.StepsOut = ends.StepsOut
outcome_end m store (outcome.Trap code) = trapped m store
outcome_end m store outcome.Over = trapped m store
