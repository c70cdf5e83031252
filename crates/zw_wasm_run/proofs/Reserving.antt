-- Reserving: a call that wants memory doesn't stay within what the machine has room for.
use Rattle.std.proofs.Common.{◌≡◌, ℕ, ◌≤◌, List, arith}
use Rattle.std.proofs.Math.Nat.{mul-le-mul_right}
use Rattle.zw_wasm.specs.declared.num.Num.{Num}
use Rattle.zw_wasm.specs.ModuleMachine.{idle}
use Rattle.zw_wasm.specs.Reduction.{Config, Goes, World, enter}
use Rattle.zw_wasm_reach.specs.Counts.{deepest}
use Rattle.zw_wasm_reach.specs.Reaches.{Reaches}
use Rattle.zw_wasm_reach.proofs.Reaching.{labels_few}
use Rattle.zw_wasm_run.specs.declared.held.Machine.{Machine}
use Rattle.zw_wasm_run.specs.Hosting.{HostState}
use Rattle.zw_wasm_run.specs.Reserves.{HasRoom, IsOutside, RunStaysWithin}
use Rattle.zw_wasm_run.specs.Rooms.{FunctionWants, IsBeyond, LeavesRoom, calling, of_frames, of_host, of_labels, of_memory, of_place, of_run, of_values}
use Rattle.zw_wasm_run.specs.Stores.{stored}

module _ (x : Machine) (func : ℕ) (given : List Num) (w : World) (steps frames values : ℕ) (room : HasRoom x frames values) (first : Config) (goes : enter x.code func given (idle w) ≡ Goes first) (within : RunStaysWithin x.code steps frames values first) where
  -- a place of the run isn't beyond the room
  not_beyond : (n : ℕ) (d : Config) → n ≤ steps → Reaches x.code first n d → IsBeyond x.stacks d → ⊥
  not_beyond n d inside reached (of_values more) = omega (arith, room.for_values, within.few_values n d inside reached, more)
  not_beyond n d inside reached (of_labels more) =
      let few = labels_few x.code func given w first d n goes reached in
      let most = mul-le-mul_right (deepest x.code) (within.few_frames n d inside reached) in
      omega (arith, room.for_labels, few, most, more)
  not_beyond n d inside reached (of_frames more) = omega (arith, room.for_frames, within.few_frames n d inside reached, more)

  stays : LeavesRoom x.code x.stacks steps first → ⊥
  stays (of_place n d inside reached beyond) = not_beyond n d inside reached beyond
  stays (of_memory n d e inside reached moves more) = omega (arith, within.memory n d e inside reached moves, more)
  stays (of_host n d inside reached calls) = within.alone n d inside reached calls

pub is_outside : (x : Machine) (func : ℕ) (given : List Num) (host : HostState) (steps : ℕ) → FunctionWants x.code func given (record { store = x.store; stacks = x.stacks; steps = steps; host = host }) → IsOutside x func given (calling (stored x.store) host.replies) steps
is_outside x func given host steps (of_host imported) = λ frames values room within. omega (arith, imported, within.own)
is_outside x func given host steps (of_run own leaves) = λ frames values room within.
    stays x func given (calling (stored x.store) host.replies) steps frames values room leaves.first leaves.goes (within.run leaves.first leaves.goes) leaves.leaves
