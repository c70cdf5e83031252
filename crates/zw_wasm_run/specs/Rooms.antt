-- Rooms: what a machine's stacks have room for, and what a call has come to that wants memory.
use Rattle.std.specs.Prelude.{◌≡◌, ℕ, ◌<◌, ◌≤◌, vec_capacity, List, [], length}
use Rattle.zw_wasm.specs.declared.module.Module.{Module}
use Rattle.zw_wasm.specs.declared.module.ValType.{ValType}
use Rattle.zw_wasm.specs.declared.num.Num.{Num}
use Rattle.zw_wasm.specs.Functions.{func_type}
use Rattle.zw_wasm.specs.ModuleMachine.{idle}
use Rattle.zw_wasm.specs.Reduction as reduction
use Rattle.zw_wasm.specs.Reduction.{Action, Config, Does, Goes, Work, World, called, done, enter, stands_in}
use Rattle.zw_wasm.specs.Signature.{View}
use Rattle.zw_wasm_reach.specs.Counts.{active_frames, labels_of, values_of}
use Rattle.zw_wasm_reach.specs.Reaches.{CallsOut, Moves, Reaches}
use Rattle.zw_wasm_words.specs.FullLists.{IsFullList}
use Rattle.zw_wasm_words.specs.Operands.{IsRuled}
use Rattle.zw_wasm_run.specs.declared.machine.Show.{Show}
use Rattle.zw_wasm_run.specs.declared.stacks.Stacks.{Stacks}
use Rattle.zw_wasm_run.specs.declared.store.Store.{Store}
use Rattle.zw_wasm_run.specs.Calls.{ShowsTo}
use Rattle.zw_wasm_run.specs.Invocation.{IsAt, Live}
use Rattle.zw_wasm_run.specs.Loops.{Stand}
use Rattle.zw_wasm_run.specs.Premises.{AreSound, WorkIsSound}
use Rattle.zw_wasm_run.specs.Running.{StacksStand, at_doing}
use Rattle.zw_wasm_run.specs.Stores.{stored}

-- the capacities of the lists don't fall
pub record KeepsRoom (old new : Stacks) : Type 0 where
  pub frames : vec_capacity old.frames ≤ vec_capacity new.frames
  pub labels : vec_capacity old.labels ≤ vec_capacity new.labels
  pub words : vec_capacity old.words ≤ vec_capacity new.words

-- the lists don't grow
pub record HoldsFewer (old new : Stacks) : Type 0 where
  pub frames : length new.frames.items ≤ length old.frames.items
  pub labels : length new.labels.items ≤ length old.labels.items
  pub words : length new.words.items ≤ length old.words.items

-- one of the lists has no room for one more
pub data IsFull (s : Stacks) : Type 0 where
  of_words : IsFullList s.words → IsFull s
  of_labels : IsFullList s.labels → IsFull s
  of_frames : IsFullList s.frames → IsFull s

-- a configuration has more values than the stacks have room for, or a larger memory than the one before
pub data Overfills (s : Stacks) (c next : Config) : Type 0 where
  of_values : vec_capacity s.words < values_of next → Overfills s c next
  of_memory : length c.world.store.memory < length next.world.store.memory → Overfills s c next

-- an action leads to a configuration with more values than there is room for, or with a larger memory
pub record LeadsBeyond (a : Action) (s : Stacks) (c : Config) : Type 0 where
  pub next : Config
  pub goes : a ≡ Goes next
  pub over : Overfills s c next

-- why an action on the stacks wants memory
pub data Wants (m : Module) (action : Config → Action) (store : Store) (old : Stacks) : Type 0 where
  of_room : IsFull old → Wants m action store old
  of_next : ((c : Config) → StacksStand m old c → c.world.store ≡ stored store → IsRuled (action c) → LeadsBeyond (action c) old c) → Wants m action store old

-- why a call of a function with a body wants memory
pub record WantsForCall (m : Module) (func : ℕ) (old : Stacks) : Type 0 where
  pub by : (store : Store) → Wants m (called m func (func_type m func)) store old

-- what is done in a configuration leads beyond what the stacks have room for
pub record WorkLeads (m : Module) (old : Stacks) (c : Config) : Type 0 where
  pub work : Work
  pub frame : reduction.Frame
  pub stands : stands_in c.frame ≡ Does work frame
  pub leads : WorkIsSound m work (at_doing frame c) → LeadsBeyond (done m work (at_doing frame c)) old (at_doing frame c)

-- why a step wants memory
pub data StepWants (m : Module) (store : Store) (old : Stacks) : Type 0 where
  of_room : IsFull old → StepWants m store old
  of_next : ((c : Config) → StacksStand m old c → c.world.store ≡ stored store → WorkLeads m old c) → StepWants m store old

-- a configuration has as many values or labels as the stacks have room for, or more frames
pub data IsBeyond (s : Stacks) (c : Config) : Type 0 where
  of_values : vec_capacity s.words ≤ values_of c → IsBeyond s c
  of_labels : vec_capacity s.labels ≤ labels_of c → IsBeyond s c
  of_frames : vec_capacity s.frames < active_frames c → IsBeyond s c

-- a run of so many instructions comes to a configuration beyond the room of the stacks, grows the memory, or calls the host
pub data LeavesRoom (m : Module) (s : Stacks) (steps : ℕ) (c : Config) : Type 0 where
  of_place : (n : ℕ) (d : Config) → n ≤ steps → Reaches m c n d → IsBeyond s d → LeavesRoom m s steps c
  of_memory : (n : ℕ) (d e : Config) → n < steps → Reaches m c n d → Moves m d e → length d.world.store.memory < length e.world.store.memory → LeavesRoom m s steps c
  of_host : (n : ℕ) (d : Config) → n < steps → Reaches m c n d → CallsOut m d → LeavesRoom m s steps c

-- why instructions want memory, from each configuration that is sound for so many steps
pub record RunWants (m : Module) (store : Store) (stacks : Stacks) (steps : ℕ) : Type 0 where
  pub by : (ts : List ValType) (c : Config) → Stand m store stacks c → AreSound m ts steps c → LeavesRoom m stacks steps c

-- the first configuration of a call has more values than there is room for
pub record FirstIsBeyond (m : Module) (func : ℕ) (given : List Num) (w : World) (s : Stacks) : Type 0 where
  pub first : Config
  pub goes : enter m func given (idle w) ≡ Goes first
  pub beyond : vec_capacity s.words < values_of first

-- a call of a function with a body begins with more values than there is room for
pub record BeginsBeyond (m : Module) (func : ℕ) (given : List Num) (s : Stacks) : Type 0 where
  pub by : (w : World) → FirstIsBeyond m func given w s

-- why a call that runs wants memory
pub record CallWants (m : Module) (shows : List Show) (now : Live) : Type 0 where
  pub by : (ts : List ValType) (names : ℕ → List ℕ) (v : View) (first : ℕ) (c : Config) → ShowsTo m shows v → first ≤ length now.host.log → IsAt m ts names v first now c → LeavesRoom m now.stacks now.steps c

-- the world in which a call begins
abbrev pub calling : reduction.Store → List ℕ → World
calling store replies = record { store = store; replies = replies; events = [] }

-- the first configuration of a call, from which on it leaves the room of the stacks
pub record FunctionLeaves (m : Module) (func : ℕ) (given : List Num) (w : World) (s : Stacks) (steps : ℕ) : Type 0 where
  pub first : Config
  pub goes : enter m func given (idle w) ≡ Goes first
  pub leaves : LeavesRoom m s steps first

-- why a call of a function wants memory: it is the host's, or it leaves the room
pub data FunctionWants (m : Module) (func : ℕ) (given : List Num) (now : Live) : Type 0 where
  of_host : func < length m.imports → FunctionWants m func given now
  of_run : length m.imports ≤ func → FunctionLeaves m func given (calling (stored now.store) now.host.replies) now.stacks now.steps → FunctionWants m func given now
