-- Hosting: what a call of a function of the host shows, and what it comes to on the stacks of a call (WebAssembly Core
-- Specification 1.0, 4.4.7.3).
use Rattle.std.specs.Prelude.{◌≡◌, ℕ, zero, suc, ◌+◌, ◌^◌, ◌<◌, ◌≤◌, Bool, true, false, ◌||◌, List, [], ◌∷◌, ◌++◌, length, drop, map, Option, Some, None, slice_get, if◌then◌else◌}
use Rattle.std.specs.List.{AllByRecursion}
use Rattle.zw_wasm.specs.declared.module.FuncType.{FuncType}
use Rattle.zw_wasm.specs.declared.module.Module.{Module}
use Rattle.zw_wasm.specs.declared.module.ValType.{ValType}
use Rattle.zw_wasm.specs.declared.module.ValType.TheVariants as ty
use Rattle.zw_wasm.specs.declared.num.Num.{Num}
use Rattle.zw_wasm.specs.Functions.{func_type}
use Rattle.zw_wasm.specs.ModuleMachine.{param_types}
use Rattle.zw_wasm.specs.Reduction.{Action, Config, Goes, CallsHost, Traps, NoReply, Step, Next, Stops, Store, Trap, World, bounds_trap, called, pushed, resolved, result_of, with_world}
use Rattle.zw_wasm.specs.Signature.{View, before_others, bytes_at}
use Rattle.zw_wasm.specs.Structure.{bits_of, num_of, number}
use Rattle.zw_wasm_words.specs.Operands.{IsRuled}
use Rattle.zw_wasm_words.specs.Words.{bits_in}
use Rattle.zw_wasm_run.specs.Calls.{ShowsTo, is_shown, seen}
use Rattle.zw_wasm_run.specs.Naming.{named}
use Rattle.zw_wasm_run.specs.Premises.{type_of}
use Rattle.zw_wasm_run.specs.Running.{StacksStand}
use Rattle.zw_wasm_run.specs.declared.event.Event.{Event}
use Rattle.zw_wasm_run.specs.declared.ask.Answer.{Answer}
use Rattle.zw_wasm_run.specs.declared.ask.Answer.TheVariants as answer
use Rattle.zw_wasm_run.specs.declared.host.Hosted.{Hosted}
use Rattle.zw_wasm_run.specs.declared.host.Hosted.TheVariants as hosted
use Rattle.zw_wasm_run.specs.declared.machine.Show.{Show}
use Rattle.zw_wasm_run.specs.declared.stacks.Stacks.{Stacks}

-- the numbers of these types that words hold
abbrev pub numbers_held : List ValType → List ℕ → List Num
numbers_held [] words = []
numbers_held (t ∷ ts) [] = []
numbers_held (t ∷ ts) (w ∷ ws) = number t (bits_in t w) ∷ numbers_held ts ws

-- whether the parameter before this one shows bytes, of which this one is the length
abbrev pub is_length : List Show → ℕ → ℕ → Bool
is_length shows import zero = false
is_length shows import (suc param) = is_shown shows import param

-- whether a parameter is a part of what is shown
abbrev pub is_part : List Show → ℕ → ℕ → Bool
is_part shows import param = is_shown shows import param || is_length shows import param

-- of the arguments from this parameter on, those that are shown as numbers
abbrev pub numbers_in : List Show → ℕ → ℕ → List Num → List Num
numbers_in shows import param [] = []
numbers_in shows import param (a ∷ args) =
    if is_part shows import param then numbers_in shows import (suc param) args else a ∷ numbers_in shows import (suc param) args

-- the bytes that a pointer and a length show, which come first
abbrev pub first_range : List ℕ → List Num → Option (List ℕ)
first_range memory (a ∷ b ∷ args) = bytes_at memory (bits_of a) (bits_of b)
first_range memory _ = None

-- the bytes that the arguments from this parameter on show, where all are in the memory
abbrev pub ranges_in : List Show → ℕ → List ℕ → ℕ → List Num → Option (List (List ℕ))
ranges_in shows import memory param [] = Some []
ranges_in shows import memory param (a ∷ args) =
    if is_shown shows import param then before_others (first_range memory (a ∷ args)) (ranges_in shows import memory (suc param) args)
    else ranges_in shows import memory (suc param) args

-- a parameter and the next one are a pointer and a length
pub record IsPair (params : List ValType) (param : ℕ) : Type 0 where
  pub pointer : slice_get params param ≡ Some ty.I32
  pub count : slice_get params (param + 1) ≡ Some ty.I32

-- where a parameter of an import shows bytes
abbrev pub ArePairs : List ValType → List Show → ℕ → Type 0
ArePairs params shows import = (param : ℕ) → is_shown shows import param ≡ true → IsPair params param

-- an event shows these arguments of an import
pub record IsEventOf (shows : List Show) (k : ℕ) (memory : List ℕ) (given : List Num) (e : Event) : Type 0 where
  pub import : e.import ≡ k
  pub args : e.args ≡ numbers_in shows k 0 given
  pub shown : ranges_in shows k memory 0 given ≡ Some e.shown

-- the world of a call that runs, with what a host has seen so far, to which the imports have these names
abbrev pub world_of : (ℕ → List ℕ) → Module → View → Store → List ℕ → List Event → World
world_of names m v store replies log = record { store = store; replies = replies; events = map (seen (named names m) v) log }

-- a host call has arguments of the types of its parameters
abbrev pub ArgsFit : Module → Action → Type 0
ArgsFit m (Goes c) = Unit {0}
ArgsFit m (CallsHost k args c) = map type_of args ≡ param_types (func_type m k)
ArgsFit m (Traps code) = Unit {0}

-- the replies and the log of a call that runs
pub record HostState : Type 0 where
  pub replies : List ℕ
  pub log : List Event

-- an event of a call of an import that is there, with arguments of its types
pub record IsShownCall (m : Module) (shows : List Show) (e : Event) : Type 0 where
  pub given : List Num
  pub memory : List ℕ
  pub imported : e.import < length m.imports
  pub types : map type_of given ≡ param_types (func_type m e.import)
  pub args : e.args ≡ numbers_in shows e.import 0 given
  pub shown : ranges_in shows e.import memory 0 given ≡ Some e.shown

-- a log that has grown by events of such calls
pub record Extends (m : Module) (shows : List Show) (old new : List Event) : Type 0 where
  pub more : List Event
  pub is : new ≡ old ++ more
  pub each : AllByRecursion (IsShownCall m shows) more

-- the world of a call that runs, where a host has seen the log from its first event on
abbrev pub world_in : (ℕ → List ℕ) → Module → View → Store → ℕ → HostState → World
world_in names m v store first h = world_of names m v store h.replies (drop first h.log)

-- a reply is the result, where there is one
abbrev pub answered : Option ValType → Option ℕ → Config → Config
answered (Some t) (Some reply) c = pushed (num_of t reply) c
answered _ _ c = c

abbrev pub HasReply : Option ValType → Option ℕ → Type 0
HasReply None None = Unit {0}
HasReply (Some t) (Some reply) = reply < 2 ^ 64
HasReply _ _ = ⊥

-- a step that calls the host goes on, with the reply where there is a result, or ends
abbrev pub AnswersSo : Option ValType → Step → Config → Answer → World → Type 0
AnswersSo t s c (answer.Goes reply) after = HasReply t reply × (s ≡ Next (answered t reply (with_world after c)))
AnswersSo t s c answer.Outside after = s ≡ Stops (Trap bounds_trap) after
AnswersSo t s c answer.NoReply after = s ≡ Stops NoReply after

-- what the host answers to a call of an import of this type with these arguments, whatever the host and the names of imports
pub record AsksHost (m : Module) (shows : List Show) (import : ℕ) (t : FuncType) (memory : List ℕ) (given : List Num) (old : HostState) (a : Answer) (new : HostState) : Type 0 where
  pub grows : Extends m shows old.log new.log
  pub by : (names : ℕ → List ℕ) (v : View) (store : Store) (first : ℕ) (c : Config) → ShowsTo m shows v → store.memory ≡ memory → first ≤ length old.log → c.world ≡ world_in names m v store first old → AnswersSo t.result (resolved (named names m) v c.world (CallsHost import given c)) c a (world_in names m v store first new)

-- a call of an imported function with a result of this type goes on: the stacks stand for the configuration behind the answer
pub record GoesOnWith (m : Module) (import : ℕ) (r : Option ValType) (c : Config) (s : Step) (new : Stacks) (after : World) : Type 0 where
  pub given : List Num
  pub waits : Config
  pub reply : Option ℕ
  pub calls : called m import (func_type m import) c ≡ CallsHost import given waits
  pub kept : waits.world ≡ c.world
  pub has : HasReply r reply
  pub goes : s ≡ Next (answered r reply (with_world after waits))
  pub stand : StacksStand m new (answered r reply (with_world after waits))

-- a step that calls the host goes on so, or ends in this world
abbrev pub HostEnds : Module → ℕ → Config → Step → Hosted → Stacks → World → Type 0
HostEnds m import c s hosted.Goes new after = GoesOnWith m import (result_of (func_type m import)) c s new after
HostEnds m import c s (hosted.Traps code) new after = s ≡ Stops (Trap code) after
HostEnds m import c s hosted.WantsReply new after = s ≡ Stops NoReply after

-- a call of an imported function on the stacks of a call, whatever the host and the names of imports
pub record CallsHostOn (m : Module) (shows : List Show) (import : ℕ) (memory : List ℕ) (old : Stacks) (before : HostState) (e : Hosted) (new : Stacks) (after : HostState) : Type 0 where
  pub grows : Extends m shows before.log after.log
  pub by : (names : ℕ → List ℕ) (v : View) (store : Store) (first : ℕ) (c : Config) → ShowsTo m shows v → store.memory ≡ memory → first ≤ length before.log → c.world ≡ world_in names m v store first before → StacksStand m old c → IsRuled (called m import (func_type m import) c) → ArgsFit m (called m import (func_type m import) c) → HostEnds m import c (resolved (named names m) v c.world (called (named names m) import (func_type (named names m) import) c)) e new (world_in names m v store first after)
