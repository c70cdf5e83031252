-- Reserves: how many frames and values a machine has room for, and calls that stay within it.
use Rattle.std.specs.Prelude.{◌≡◌, ℕ, ◌*◌, ◌<◌, ◌≤◌, vec_capacity, List, length}
use Rattle.zw_wasm.specs.declared.module.Module.{Module}
use Rattle.zw_wasm.specs.declared.num.Num.{Num}
use Rattle.zw_wasm.specs.ModuleMachine.{idle}
use Rattle.zw_wasm.specs.Reduction.{Config, Goes, World, enter}
use Rattle.zw_wasm_reach.specs.Counts.{active_frames, deepest, values_of}
use Rattle.zw_wasm_reach.specs.Reaches.{CallsOut, Moves, Reaches}
use Rattle.zw_wasm_run.specs.declared.held.Machine.{Machine}

-- A machine has room for so many active frames, and for so many operands and locals over all frames: of the frames one
-- runs and the others wait, and each has at most as many labels as the code nests deep.
pub record HasRoom (x : Machine) (frames values : ℕ) : Type 0 where
  pub for_frames : frames ≤ vec_capacity x.stacks.frames
  pub for_labels : frames * deepest x.code < vec_capacity x.stacks.labels
  pub for_values : values < vec_capacity x.stacks.words

-- a machine has still the room that it had
pub record KeepsReserve (old new : Machine) : Type 0 where
  pub by : (frames values : ℕ) → HasRoom old frames values → HasRoom new frames values

-- from a configuration on a run of so many instructions has at most so many frames and values, leaves the memory as long as it is, and calls
-- no function of the host
pub record RunStaysWithin (m : Module) (steps frames values : ℕ) (c : Config) : Type 0 where
  pub few_frames : (n : ℕ) (d : Config) → n ≤ steps → Reaches m c n d → active_frames d ≤ frames
  pub few_values : (n : ℕ) (d : Config) → n ≤ steps → Reaches m c n d → values_of d ≤ values
  pub memory : (n : ℕ) (d e : Config) → n < steps → Reaches m c n d → Moves m d e → length e.world.store.memory ≡ length d.world.store.memory
  pub alone : (n : ℕ) (d : Config) → n < steps → Reaches m c n d → CallsOut m d → ⊥

-- a call of a function with a body does so
pub record StaysWithin (m : Module) (func : ℕ) (given : List Num) (w : World) (steps frames values : ℕ) : Type 0 where
  pub own : length m.imports ≤ func
  pub run : (first : Config) → enter m func given (idle w) ≡ Goes first → RunStaysWithin m steps frames values first

-- a call doesn't stay within what a machine has room for
abbrev pub IsOutside : Machine → ℕ → List Num → World → ℕ → Type 0
IsOutside x func given w steps = (frames values : ℕ) → HasRoom x frames values → StaysWithin x.code func given w steps frames values → ⊥
