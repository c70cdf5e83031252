-- Runs: what a machine is before a call of a session and after it.
use Rattle.std.specs.Prelude.{◌≡◌, ℕ, false, List, []}
use Rattle.zw_exec.specs.Ends.{end_of, session_end}
use Rattle.zw_exec.specs.Sessions.{left_by, lines_of, run_of}
use Rattle.zw_exec.specs.declared.call.SessionCall.{SessionCall}
use Rattle.zw_exec.specs.declared.end.SessionEnd.TheVariants.{Done}
use Rattle.zw_exec.specs.declared.told.CallLines.{CallLines}
use Rattle.zw_wasm_run.specs.Calls.{State}
use Rattle.zw_wasm_run.specs.Machines.{store_of}
use Rattle.zw_wasm_run.specs.declared.held.Machine.{Machine}

-- no call of the machine ended otherwise than by a result, and it shows no bytes
pub record IsIdle (x : Machine) : Type 0 where
  pub goes_on : x.over ≡ false
  pub shows_none : x.shows ≡ []

-- what a machine and its host have
abbrev pub state_of : Machine → List ℕ → ℕ → State
state_of x replies steps = record { store = store_of x; replies = replies; steps = steps }

-- the lines of a call and its end, behind which a machine and its host have what its run leaves
pub record CallTold (old : Machine) (c : SessionCall) (before : State) (told : CallLines) (new : Machine) (replies : List ℕ) (steps : ℕ) : Type 0 where
  pub lines : told.text.items ≡ lines_of old.code c (run_of old.code c before)
  pub ends : told.end ≡ session_end (end_of old.code (run_of old.code c before))
  pub left : state_of new replies steps ≡ left_by (run_of old.code c before)
  pub code : new.code ≡ old.code
  pub idle : told.end ≡ Done → IsIdle new
