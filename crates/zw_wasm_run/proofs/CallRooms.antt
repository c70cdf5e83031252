-- CallRooms: why a call wants memory, while it runs and from its beginning.
use Rattle.std.proofs.Common.{◌≡◌, ℕ, ◌≤◌, List, [], length, reverse, refl, subst, arith}
use Rattle.std.specs.Option.{option_to_list}
use Rattle.zw_wasm.specs.declared.module.Module.{Module}
use Rattle.zw_wasm.specs.declared.num.Num.{Num}
use Rattle.zw_wasm.specs.Reduction.{Config}
use Rattle.zw_wasm_reach.specs.Reaches.{here}
use Rattle.zw_wasm_run.specs.declared.pause.Pause.TheVariants as pause
use Rattle.zw_wasm_run.specs.declared.machine.Show.{Show}
use Rattle.zw_wasm_run.specs.declared.stacks.Stacks.{Stacks}
use Rattle.zw_wasm_run.specs.declared.store.Store.{Store}
use Rattle.zw_wasm_run.specs.Hosting.{world_in}
use Rattle.zw_wasm_run.specs.Invocation.{BeginsCall, Live}
use Rattle.zw_wasm_run.specs.Loops.{ComesToHost, Pauses}
use Rattle.zw_wasm_run.specs.Rooms.{BeginsBeyond, CallWants, FunctionLeaves, FunctionWants, KeepsRoom, LeavesRoom, RunWants, calling, of_host, of_place, of_run, of_values}
use Rattle.zw_wasm_run.specs.Stores.{stored}
use Rattle.zw_wasm_run.proofs.Functions.{Callable, first_at, log_before}
use Rattle.zw_wasm_run.proofs.Invoking.{ComesTo, comes_begin, some_host}
use Rattle.zw_wasm_run.proofs.LoopRooms.{leaves_less, room_kept}

-- a call is where it began, or a function of the host was called, for which no room is kept
pub data HasAsked (m : Module) (shows : List Show) (old now : Live) : Type 0 where
  not_yet : now ≡ old → HasAsked m shows old now
  once : CallWants m shows old → HasAsked m shows old now

-- a call's course, from pause to pause
pub record CallGoesOn (m : Module) (shows : List Show) (old now : Live) : Type 0 where
  pub comes : ComesTo m shows old now
  pub asked : HasAsked m shows old now
  pub room : KeepsRoom old.stacks now.stacks

pub call_begins : (m : Module) (shows : List Show) (now : Live) → CallGoesOn m shows now now
call_begins m shows now = record { comes = comes_begin m shows now; asked = not_yet refl; room = room_kept now.stacks }

host_leaves : (m : Module) (s : Stacks) (steps : ℕ) (c : Config) → ComesToHost m steps c → LeavesRoom m s steps c
host_leaves m s steps c comes = of_host comes.taken comes.place comes.within comes.reached comes.calls

-- the host is called
pub asks_host : (m : Module) (shows : List Show) (old now : Live) (f : ℕ) (kept : Store) (held : Stacks) (left : ℕ) → HasAsked m shows old now → Pauses m now.store now.stacks now.steps (pause.Calls f) kept held left → CallWants m shows old
asks_host m shows old now f kept held left (once wants) pauses = wants
asks_host m shows old now f kept held left (not_yet same) pauses = record {
  by = λ ts names v first c to inside is.
      let first_pauses = subst (λ (x : Live). Pauses m x.store x.stacks x.steps (pause.Calls f) kept held left) same pauses in
      let waits = first_pauses.by ts c is.stand is.sound in
      host_leaves m old.stacks old.steps c waits.comes;
}

-- instructions want memory
pub call_wants : (m : Module) (shows : List Show) (old now : Live) → HasAsked m shows old now → RunWants m now.store now.stacks now.steps → CallWants m shows old
call_wants m shows old now (once wants) run = wants
call_wants m shows old now (not_yet same) run = record {
  by = λ ts names v first c to inside is. (subst (λ (x : Live). RunWants m x.store x.stacks x.steps) same run).by ts c is.stand is.sound;
}

-- ---- from the beginning

-- a call begins with more values than there is room for
pub begin_wants : (m : Module) (func : ℕ) (given : List Num) (now : Live) → length m.imports ≤ func → BeginsBeyond m func given now.stacks → FunctionWants m func given now
begin_wants m func given now own begins =
    let f = begins.by (calling (stored now.store) now.host.replies) in
    of_run own (record { first = f.first; goes = f.goes; leaves = of_place 0 f.first (omega arith) here (of_values (omega (arith, f.beyond))) })

-- a call runs on stacks with no less room
pub function_wants : (m : Module) (shows : List Show) (func : ℕ) (given : List Num) (now : Live) (held : Stacks) → Callable m shows func given now → length m.imports ≤ func → BeginsCall m func given held → KeepsRoom now.stacks held → CallWants m shows (record now { stacks = held }) → FunctionWants m func given now
function_wants m shows func given now held may own begins room wants =
    let host = some_host m shows may.shown in
    let names : ℕ → List ℕ = λ k. [] in
    let first = length now.host.log in
    let f = begins.by (world_in names m host.view (stored now.store) first now.host) in
    let leaves = wants.by (reverse (option_to_list may.ty.result)) names host.view first f.first host.shown (omega arith) (first_at m shows func given now held may begins names host.view first) in
    of_run own
    (subst (λ w. FunctionLeaves m func given w now.stacks now.steps) (log_before names m host.view now.store now.host)
    (record { first = f.first; goes = f.goes; leaves = leaves_less m now.stacks held now.steps f.first room leaves }))
