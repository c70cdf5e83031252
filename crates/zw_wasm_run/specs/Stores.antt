-- Stores: what an instruction does to the stacks of a call and to what all frames share.
use Rattle.std.specs.Prelude.{◌≡◌, ℕ, ◌<◌, Option, Some, None, length, reverse}
use Rattle.zw_wasm.specs.declared.module.Instr.{Instr}
use Rattle.zw_wasm.specs.declared.module.Module.{Module}
use Rattle.zw_wasm.specs.Functions.{func_type}
use Rattle.zw_wasm.specs.Reduction as reduction
use Rattle.zw_wasm.specs.Reduction.{Action, Config, Does, Single, Traps, Work, World, act, called, done, stands_in}
use Rattle.zw_wasm_words.specs.declared.effect.Effect.{Effect}
use Rattle.zw_wasm_words.specs.declared.effect.Effect.TheVariants as effect
use Rattle.zw_wasm_run.specs.declared.pause.Taken.{Taken}
use Rattle.zw_wasm_run.specs.declared.pause.Taken.TheVariants as taken
use Rattle.zw_wasm_run.specs.declared.stacks.Stacks.{Stacks}
use Rattle.zw_wasm_run.specs.declared.store.Store.{Store}
use Rattle.zw_wasm_run.specs.Premises.{WorkIsSound}
use Rattle.zw_wasm_run.specs.Running.{ActsOnStacks, GoesTo, SameParts, StacksStand, at_doing}

-- what a step comes to that has this effect
abbrev pub taken_of : Effect → Taken
taken_of effect.Goes = taken.Goes
taken_of (effect.Traps code) = taken.Traps code

-- what a store of the machine stands for
abbrev pub stored : Store → reduction.Store
stored s = record { globals = s.globals; memory = s.memory.items; table = s.table.items }

-- the world with this store
abbrev pub with_store : Store → World → World
with_store s w = record w { store = stored s }

-- an imported function is called, and the stacks stand for the configuration that has its arguments
pub record CallsOut (m : Module) (a : Action) (f : ℕ) (store : Store) (new : Stacks) (before : World) : Type 0 where
  pub next : Config
  pub imported : f < length m.imports
  pub calls : a ≡ called m f (func_type m f) next
  pub stand : StacksStand m new next
  pub world : next.world ≡ before
  pub kept : stored store ≡ before.store

-- an action goes on with other stacks and another store, calls the host, or traps
abbrev pub EndsWith : Module → Action → Taken → Store → Stacks → World → Type 0
EndsWith m a taken.Goes store new before = GoesTo m a new.frame (reverse new.frames.items) new.labels.items new.words.items (with_store store before)
EndsWith m a (taken.Calls f) store new before = CallsOut m a f store new before
EndsWith m a (taken.Traps code) store new before = (a ≡ Traps code) × (stored store ≡ before.store)

-- an instruction, on the stacks behind it
pub record Executes (m : Module) (i : Instr) (store : Store) (old : Stacks) (t : Taken) (left : Store) (new : Stacks) : Type 0 where
  pub by : (c : Config) → StacksStand m old c → c.world.store ≡ stored store → WorkIsSound m (Single i) c → EndsWith m (act m i c) t left new c.world

-- what is done in a configuration ends so
pub record WorkDone (m : Module) (c : Config) (t : Taken) (left : Store) (new : Stacks) : Type 0 where
  pub work : Work
  pub frame : reduction.Frame
  pub stands : stands_in c.frame ≡ Does work frame
  pub does : WorkIsSound m work (at_doing frame c) → EndsWith m (done m work (at_doing frame c)) t left new c.world

-- a step, from the place where what is due stands
pub record Steps (m : Module) (store : Store) (old : Stacks) (t : Taken) (left : Store) (new : Stacks) : Type 0 where
  pub by : (c : Config) → StacksStand m old c → c.world.store ≡ stored store → WorkDone m c t left new

-- the function at a place of a table
abbrev pub entry_of : Option (Option ℕ) → Option ℕ
entry_of None = None
entry_of (Some entry) = entry

-- a call of a function with a body acts on the stacks, and that of an imported one is left to the host
abbrev pub Calls : Module → ℕ → Stacks → Taken → Stacks → Type 0
Calls m f old (taken.Calls g) new = (g ≡ f) × (f < length m.imports) × SameParts old new
Calls m f old taken.Goes new = ActsOnStacks m (called m f (func_type m f)) old effect.Goes new
Calls m f old (taken.Traps code) new = ActsOnStacks m (called m f (func_type m f)) old (effect.Traps code) new
