-- Calls: what a call of an exported function comes to, by reduction, whatever the host reads its arguments as, and whatever
-- names the imports have, by which it tells them apart.
use Rattle.std.specs.Prelude.{◌≡◌, ℕ, suc, ◌<◌, nat_eq, Bool, true, false, ◌&&◌, ◌||◌, List, [], ◌∷◌, length, map, Option, Some, None, slice_get}
use Rattle.std.specs.Option.{option_to_list}
use Rattle.zw_session.specs.Sessions.{HostEvent, Scalar}
use Rattle.zw_wasm.specs.declared.module.Module.{Module}
use Rattle.zw_wasm.specs.declared.module.ValType.{ValType}
use Rattle.zw_wasm.specs.declared.num.Num.{Num}
use Rattle.zw_wasm.specs.Functions.{func_type}
use Rattle.zw_wasm.specs.ModuleMachine.{param_types, run_function}
use Rattle.zw_wasm.specs.Reduction.{Ended, Finished, Going, NoReply, Run, Store, Trap, World, field_of}
use Rattle.zw_wasm.specs.Signature.{Bytes, Shown, Value, View, scalar_of}
use Rattle.zw_wasm_run.specs.Naming.{named}
use Rattle.zw_wasm_run.specs.declared.event.Event.{Event}
use Rattle.zw_wasm_run.specs.declared.event.Outcome.{Outcome}
use Rattle.zw_wasm_run.specs.declared.event.Outcome.TheVariants as outcome
use Rattle.zw_wasm_run.specs.declared.machine.Show.{Show}

-- whether this parameter of an import and the next one show bytes
abbrev pub is_shown : List Show → ℕ → ℕ → Bool
is_shown [] import param = false
is_shown (s ∷ shows) import param = (nat_eq s.import import && nat_eq s.param param) || is_shown shows import param

-- what the host is given of the parameters from this one on: bytes where they are shown, and else numbers, read somehow
abbrev pub ShowParams : List Show → ℕ → ℕ → List ValType → List Shown → Type 0
ShowParams shows import param [] [] = Unit {0}
ShowParams shows import param (t ∷ ts) (Value r ∷ given) = (is_shown shows import param ≡ false) × ShowParams shows import (suc param) ts given
ShowParams shows import param (t ∷ u ∷ ts) (Bytes ∷ given) = (is_shown shows import param ≡ true) × ShowParams shows import (suc (suc param)) ts given
ShowParams shows import param [] (g ∷ given) = ⊥
ShowParams shows import param (t ∷ ts) [] = ⊥
ShowParams shows import param (t ∷ []) (Bytes ∷ given) = ⊥

-- a host that is shown these bytes, and reads numbers somehow
pub record ShowsTo (m : Module) (shows : List Show) (v : View) : Type 0 where
  pub params : (k : ℕ) → k < length m.imports → ShowParams shows k 0 (param_types (func_type m k)) (v.import_params k)

-- the numbers of an event, as the host reads them
abbrev pub numbers_read : List Shown → List Num → List Scalar
numbers_read [] args = []
numbers_read (Bytes ∷ given) args = numbers_read given args
numbers_read (Value r ∷ given) [] = []
numbers_read (Value r ∷ given) (a ∷ args) = scalar_of r a ∷ numbers_read given args

-- what the host sees of an event
abbrev pub seen : Module → View → Event → HostEvent
seen m v e = record {
  name = field_of (slice_get m.imports e.import);
  args = numbers_read (v.import_params e.import) e.args;
  shown = e.shown;
}

-- what a machine and its host have, before a call or after it
pub record State : Type 0 where
  pub store : Store
  pub replies : List ℕ
  pub steps : ℕ

-- the run that ended so, or goes on
abbrev pub run_to : Outcome → World → ℕ → Option Run
run_to (outcome.Result r) w left = Some (Ended (Finished (option_to_list r)) w left)
run_to outcome.WantsReply w left = Some (Ended NoReply w left)
run_to outcome.StepsOut w left = Some (Going w)
run_to (outcome.Trap code) w left = Some (Ended (Trap code) w left)
run_to outcome.Over w left = None

-- a call of a function with these arguments, from one state to another, with these events
pub record CallRuns (m : Module) (shows : List Show) (func : ℕ) (args : List Num) (before : State) (events : List Event) (end : Outcome) (after : State) : Type 0 where
  pub by : (names : ℕ → List ℕ) (v : View) → ShowsTo m shows v → Some (run_function (named names m) v func args (record { store = before.store; replies = before.replies; events = [] }) before.steps) ≡ run_to end (record { store = after.store; replies = after.replies; events = map (seen (named names m) v) events }) after.steps
  pub spent : end ≡ outcome.StepsOut → after.steps ≡ 0
