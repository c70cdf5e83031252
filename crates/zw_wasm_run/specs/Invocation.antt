-- Invocation: a call that runs, with its calls of the host, from one configuration to its end (WebAssembly Core Specification
-- 1.0, 4.5.5).
use Rattle.std.specs.Prelude.{◌≡◌, ℕ, ◌≤◌, List, ◌++◌, length, map, reverse, Option, Some, None, slice_get}
use Rattle.std.specs.List.{AllByRecursion}
use Rattle.zw_wasm.specs.declared.module.Module.{Module}
use Rattle.zw_wasm.specs.declared.module.ValType.{ValType}
use Rattle.zw_wasm.specs.declared.num.Num.{Num}
use Rattle.zw_wasm.specs.Functions.{func_type}
use Rattle.zw_wasm.specs.ModuleMachine.{idle, param_types}
use Rattle.zw_wasm.specs.Reduction.{Config, Ended, Finished, Goes, Going, NoReply, Run, Trap, World, enter, run}
use Rattle.zw_wasm.specs.Signature.{View}
use Rattle.zw_wasm.specs.Structure.{number}
use Rattle.zw_wasm_sound.specs.Configurations.{IsTypedStore}
use Rattle.zw_wasm_words.specs.Words.{Hold, bits_in}
use Rattle.zw_wasm_run.specs.declared.event.Event.{Event}
use Rattle.zw_wasm_run.specs.declared.event.Outcome.{Outcome}
use Rattle.zw_wasm_run.specs.declared.event.Outcome.TheVariants as outcome
use Rattle.zw_wasm_run.specs.declared.invoke.RunEnd.{RunEnd}
use Rattle.zw_wasm_run.specs.declared.invoke.RunEnd.TheVariants as ends
use Rattle.zw_wasm_run.specs.declared.machine.Show.{Show}
use Rattle.zw_wasm_run.specs.declared.stacks.Stacks.{Stacks}
use Rattle.zw_wasm_run.specs.declared.store.Store.{Store}
use Rattle.zw_wasm_run.specs.Calls.{CallRuns, ShowsTo, State}
use Rattle.zw_wasm_run.specs.Hosting.{Extends, HostState, IsShownCall, world_in}
use Rattle.zw_wasm_run.specs.Loops.{Stand}
use Rattle.zw_wasm_run.specs.Naming.{named}
use Rattle.zw_wasm_run.specs.Premises.{AreSound, type_of}
use Rattle.zw_wasm_run.specs.Running.{StacksStand}
use Rattle.zw_wasm_run.specs.Shows.{AreShows, IsExported}
use Rattle.zw_wasm_run.specs.Stores.{stored}

-- what a call that runs has: the store, the stacks, the steps that are left, and what the host has
pub record Live : Type 0 where
  pub store : Store
  pub stacks : Stacks
  pub steps : ℕ
  pub host : HostState

-- the world of it
abbrev pub world_now : (ℕ → List ℕ) → Module → View → ℕ → Live → World
world_now names m v first now = world_in names m v (stored now.store) first now.host

-- a call that runs is at a configuration, from which on each step is sound
pub record IsAt (m : Module) (ts : List ValType) (names : ℕ → List ℕ) (v : View) (first : ℕ) (now : Live) (c : Config) : Type 0 where
  pub stand : Stand m now.store now.stacks c
  pub sound : AreSound m ts now.steps c
  pub world : c.world ≡ world_now names m v first now

-- it is at some configuration
pub record IsSomewhere (m : Module) (ts : List ValType) (names : ℕ → List ℕ) (v : View) (first : ℕ) (now : Live) : Type 0 where
  pub config : Config
  pub is : IsAt m ts names v first now config

-- whatever the host and the names of imports
pub record IsReady (m : Module) (shows : List Show) (now : Live) : Type 0 where
  pub types : List ValType
  pub at : (names : ℕ → List ℕ) (v : View) (first : ℕ) → ShowsTo m shows v → first ≤ length now.host.log → IsSomewhere m types names v first now

-- a run ended with results of these types, the last first, which the words hold
pub record HasResults (ts : List ValType) (r : Run) (words : List ℕ) (w : World) (left : ℕ) : Type 0 where
  pub results : List Num
  pub is : r ≡ Ended (Finished results) w left
  pub held : Hold (reverse words) results
  pub types : map type_of results ≡ ts

abbrev pub RunEnds : List ValType → Run → RunEnd → Live → World → Type 0
RunEnds ts r ends.Finished new w = HasResults ts r new.stacks.words.items w new.steps
RunEnds ts r (ends.Traps code) new w = r ≡ Ended (Trap code) w new.steps
RunEnds ts r ends.WantsReply new w = r ≡ Ended NoReply w new.steps
RunEnds ts r ends.StepsOut new w = (new.steps ≡ 0) × (r ≡ Going w)

-- what a call that runs comes to, whatever the host and the names of imports
pub record RunsSo (m : Module) (shows : List Show) (old : Live) (e : RunEnd) (new : Live) : Type 0 where
  pub grows : Extends m shows old.host.log new.host.log
  pub by : (ts : List ValType) (names : ℕ → List ℕ) (v : View) (first : ℕ) (c : Config) → ShowsTo m shows v → first ≤ length old.host.log → IsAt m ts names v first old c → RunEnds ts (run (named names m) v old.steps c) e new (world_now names m v first new)

-- stacks begin a call of a function with a body, in this world
pub record IsFirst (m : Module) (func : ℕ) (given : List Num) (w : World) (held : Stacks) : Type 0 where
  pub first : Config
  pub goes : enter m func given (idle w) ≡ Goes first
  pub stand : StacksStand m held first
  pub world : first.world ≡ w

pub record BeginsCall (m : Module) (func : ℕ) (given : List Num) (held : Stacks) : Type 0 where
  pub by : (w : World) → IsFirst m func given w held

-- the number of a type that a word holds, where there are both
abbrev pub number_in : Option ValType → Option ℕ → Option Num
number_in (Some t) (Some w) = Some (number t (bits_in t w))
number_in _ _ = None

-- what a call comes to
abbrev pub outcome_of : Option ValType → RunEnd → List ℕ → Outcome
outcome_of t ends.Finished words = outcome.Result (number_in t (slice_get words 0))
outcome_of t (ends.Traps code) words = outcome.Trap code
outcome_of t ends.WantsReply words = outcome.WantsReply
outcome_of t ends.StepsOut words = outcome.StepsOut

abbrev pub state_of : Live → State
state_of l = record { store = stored l.store; replies = l.host.replies; steps = l.steps }

-- a call of a function with these arguments, and what is logged of it; it leaves a store of the module
pub record Called (m : Module) (shows : List Show) (func : ℕ) (given : List Num) (old : Live) (end : Outcome) (new : Live) : Type 0 where
  pub events : List Event
  pub log : new.host.log ≡ old.host.log ++ events
  pub each : AllByRecursion (IsShownCall m shows) events
  pub runs : CallRuns m shows func given (state_of old) events end (state_of new)
  pub stays : IsTypedStore m (stored new.store)

-- an exported function of a module, with arguments of its types, a store of the module, and what is shown
pub record MayCall (m : Module) (shows : List Show) (func : ℕ) (given : List Num) (now : Live) : Type 0 where
  pub exported : IsExported m func
  pub given_typed : map type_of given ≡ param_types (func_type m func)
  pub stored_typed : IsTypedStore m (stored now.store)
  pub shown : AreShows m shows
