-- MachineCalls: what a call of an exported function makes of a machine.
use Rattle.std.specs.Prelude.{◌≡◌, ℕ, Bool, true, false, List, ◌++◌}
use Rattle.std.specs.List.{AllByRecursion}
use Rattle.zw_wasm.specs.declared.num.Num.{Num}
use Rattle.zw_wasm_run.specs.declared.event.Event.{Event}
use Rattle.zw_wasm_run.specs.declared.event.Outcome.{Outcome}
use Rattle.zw_wasm_run.specs.declared.event.Outcome.TheVariants as outcome
use Rattle.zw_wasm_run.specs.declared.held.Machine.{Machine}
use Rattle.zw_wasm_run.specs.Calls.{CallRuns, State}
use Rattle.zw_wasm_run.specs.Hosting.{HostState, IsShownCall}
use Rattle.zw_wasm_run.specs.Machines.{store_of}

-- what a machine and its host have, before a call or after it
pub record Around : Type 0 where
  pub machine : Machine
  pub host : HostState
  pub steps : ℕ

abbrev pub state_around : Around → State
state_around a = record { store = store_of a.machine; replies = a.host.replies; steps = a.steps }

-- whether a machine is over behind a call that ended so
abbrev pub is_over : Outcome → Bool
is_over (outcome.Result r) = false
is_over outcome.WantsReply = true
is_over outcome.StepsOut = true
is_over (outcome.Trap code) = true
is_over outcome.Over = true

-- a machine that isn't over runs the function, and logs its events
pub record Runs (func : ℕ) (given : List Num) (old : Around) (end : Outcome) (new : Around) : Type 0 where
  pub events : List Event
  pub log : new.host.log ≡ old.host.log ++ events
  pub each : AllByRecursion (IsShownCall old.machine.code old.machine.shows) events
  pub runs : CallRuns old.machine.code old.machine.shows func given (state_around old) events end (state_around new)
  pub over : new.machine.over ≡ is_over end

-- on a machine that is over nothing is done
pub record IsOver (old : Around) (e : Outcome) (new : Around) : Type 0 where
  pub end : e ≡ outcome.Over
  pub same : new ≡ old

abbrev pub CallEnds : Bool → ℕ → List Num → Around → Outcome → Around → Type 0
CallEnds true func given old end new = IsOver old end new
CallEnds false func given old end new = Runs func given old end new

-- a machine has the same code, and the same is shown
pub record SameCode (old new : Machine) : Type 0 where
  pub code : new.code ≡ old.code
  pub shows : new.shows ≡ old.shows

-- only the stacks have changed, between calls
pub record SameButStacks (old new : Machine) : Type 0 where
  pub code : new.code ≡ old.code
  pub shows : new.shows ≡ old.shows
  pub store : new.store ≡ old.store
  pub over : new.over ≡ old.over
