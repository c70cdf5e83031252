-- Loops: what the instructions of a call come to, up to its end, the last of its steps, a trap, or a call of the host.
use Rattle.std.specs.Prelude.{◌≡◌, ℕ, ◌<◌, List, length, map}
use Rattle.zw_wasm.specs.declared.module.Module.{Module}
use Rattle.zw_wasm.specs.declared.module.ValType.{ValType}
use Rattle.zw_wasm.specs.declared.num.Num.{Num}
use Rattle.zw_wasm.specs.Functions.{func_type}
use Rattle.zw_wasm.specs.ModuleMachine.{param_types}
use Rattle.zw_wasm.specs.Reduction.{CallsHost, Config, Ended, Going, Trap, Work, after_step, called, done, resolved, run}
use Rattle.zw_wasm.specs.Signature.{View}
use Rattle.zw_wasm_reach.specs.Reaches.{CallsOut, Reaches}
use Rattle.zw_wasm_words.specs.Operands.{IsRuled}
use Rattle.zw_wasm_run.specs.declared.pause.Pause.{Pause}
use Rattle.zw_wasm_run.specs.declared.pause.Pause.TheVariants as pause
use Rattle.zw_wasm_run.specs.declared.stacks.Stacks.{Stacks}
use Rattle.zw_wasm_run.specs.declared.store.Store.{Store}
use Rattle.zw_wasm_run.specs.Premises.{AreSound, Leaves, type_of}
use Rattle.zw_wasm_run.specs.Running.{CallEnds, StacksStand}
use Rattle.zw_wasm_run.specs.Stores.{stored, with_store}

-- two modules in which the same is done: they may differ in the names of imports
pub record SameActions (m n : Module) : Type 0 where
  pub does : (work : Work) (c : Config) → done n work c ≡ done m work c

-- these stacks and this store stand for a configuration
pub record Stand (m : Module) (kept : Store) (held : Stacks) (c : Config) : Type 0 where
  pub stacks : StacksStand m held c
  pub store : c.world.store ≡ stored kept

-- a run goes on in another configuration with fewer steps, whatever the host sees
pub record RunsTo (m : Module) (steps : ℕ) (c : Config) (left : ℕ) (d : Config) : Type 0 where
  pub by : (n : Module) (v : View) → SameActions m n → run n v steps c ≡ run n v left d

-- the call has ended, and the words are the results, whose types these are
pub record IsOver (m : Module) (ts : List ValType) (steps : ℕ) (c : Config) (store : Store) (stacks : Stacks) (left : ℕ) : Type 0 where
  pub next : Config
  pub ends : CallEnds stacks.words.items next
  pub types : map type_of next.frame.operands ≡ ts
  pub world : next.world ≡ with_store store c.world
  pub same : RunsTo m steps c left next

-- no step was left
pub record HasNoStep (m : Module) (steps : ℕ) (c : Config) (store : Store) (left : ℕ) : Type 0 where
  pub none : left ≡ 0
  pub by : (n : Module) (v : View) → SameActions m n → run n v steps c ≡ Going (with_store store c.world)

-- a trap
pub record EndsInTrap (m : Module) (steps : ℕ) (c : Config) (code : ℕ) (store : Store) (left : ℕ) : Type 0 where
  pub by : (n : Module) (v : View) → SameActions m n → run n v steps c ≡ Ended (Trap code) (with_store store c.world) left

-- within so many instructions a function of the host is called
pub record ComesToHost (m : Module) (steps : ℕ) (c : Config) : Type 0 where
  pub taken : ℕ
  pub place : Config
  pub within : taken < steps
  pub reached : Reaches m c taken place
  pub calls : CallsOut m place

-- an imported function is called: its arguments are the last words still, and a step was taken for it
pub record WaitsForHost (m : Module) (ts : List ValType) (steps : ℕ) (c : Config) (f : ℕ) (store : Store) (stacks : Stacks) (left : ℕ) : Type 0 where
  pub next : Config
  pub imported : f < length m.imports
  pub stand : Stand m store stacks next
  pub world : next.world ≡ with_store store c.world
  pub ruled : IsRuled (called m f (func_type m f) next)
  pub args : (k : ℕ) (args : List Num) (d : Config) → called m f (func_type m f) next ≡ CallsHost k args d → map type_of args ≡ param_types (func_type m k)
  pub after : Leaves m (AreSound m ts left) (called m f (func_type m f) next)
  pub comes : ComesToHost m steps c
  pub same : (n : Module) (v : View) → SameActions m n → run n v steps c ≡ after_step (resolved n v next.world (called m f (func_type m f) next)) next.world left (run n v left)

abbrev pub PausesSo : Module → List ValType → ℕ → Config → Pause → Store → Stacks → ℕ → Type 0
PausesSo m ts steps c pause.Over store stacks left = IsOver m ts steps c store stacks left
PausesSo m ts steps c pause.StepsOut store stacks left = HasNoStep m steps c store left
PausesSo m ts steps c (pause.Traps code) store stacks left = EndsInTrap m steps c code store left
PausesSo m ts steps c (pause.Calls f) store stacks left = WaitsForHost m ts steps c f store stacks left

-- what instructions come to, from each configuration that is sound for so many steps
pub record Pauses (m : Module) (store : Store) (stacks : Stacks) (steps : ℕ) (p : Pause) (kept : Store) (new : Stacks) (left : ℕ) : Type 0 where
  pub spent : (f : ℕ) → p ≡ pause.Calls f → left < steps
  pub by : (ts : List ValType) (c : Config) → Stand m store stacks c → AreSound m ts steps c → PausesSo m ts steps c p kept new left

-- there is such a configuration
pub record IsSound (m : Module) (store : Store) (stacks : Stacks) (steps : ℕ) : Type 0 where
  pub types : List ValType
  pub config : Config
  pub stand : Stand m store stacks config
  pub sound : AreSound m types steps config
