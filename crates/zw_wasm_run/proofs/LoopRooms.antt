-- LoopRooms: where the instructions of a run have led, and what of it leaves the room that the stacks had.
use Rattle.std.proofs.Common.{◌≡◌, ℕ, suc, ◌+◌, ◌<◌, List, Option, Some, None, length, drop, reverse, take, refl, sym, ap, subst, ◌∙◌, arith}
use Rattle.std.proofs.lemmas.Bool.{lt-ltb}
use Rattle.zw_wasm.specs.declared.module.FuncType.{FuncType}
use Rattle.zw_wasm.specs.declared.module.Module.{Module}
use Rattle.zw_wasm.specs.declared.module.ValType.{ValType}
use Rattle.zw_wasm.specs.declared.num.Num.{Num}
use Rattle.zw_wasm.specs.Functions.{func_type}
use Rattle.zw_wasm.specs.Reduction as reduction
use Rattle.zw_wasm.specs.Reduction.{Action, CallsHost, Config, Does, Goes, Work, called, done, stands_in, with_operands}
use Rattle.zw_wasm_reach.specs.Reaches.{Moves, Reaches, further, here}
use Rattle.zw_wasm_words.specs.Operands.{IsRuled}
use Rattle.zw_wasm_run.specs.declared.stacks.Stacks.{Stacks}
use Rattle.zw_wasm_run.specs.declared.store.Store.{Store}
use Rattle.zw_wasm_run.specs.Loops.{ComesToHost, Stand}
use Rattle.zw_wasm_run.specs.Premises.{IsDue}
use Rattle.zw_wasm_run.specs.Rooms.{HoldsFewer, IsBeyond, IsFull, KeepsRoom, LeavesRoom, Overfills, StepWants, of_frames, of_host, of_labels, of_memory, of_next, of_place, of_room, of_values, of_words}
use Rattle.zw_wasm_run.specs.Running.{SameNext, StacksStand, at_doing}
use Rattle.zw_wasm_run.proofs.AllCalls.{enter_is_host, no_function, takes_arguments}
use Rattle.zw_wasm_run.proofs.CountRooms.{frames_counted, labels_counted, words_counted}
use Rattle.zw_wasm_run.proofs.Runs.{found}
use Rattle.zw_wasm_run.proofs.StepRooms.{full_before}

-- ---- room

pub room_kept : (s : Stacks) → KeepsRoom s s
room_kept s = record { frames = omega arith; labels = omega arith; words = omega arith }

pub more_room : (old mid new : Stacks) → KeepsRoom old mid → KeepsRoom mid new → KeepsRoom old new
more_room old mid new first second = record {
  frames = omega (arith, first.frames, second.frames);
  labels = omega (arith, first.labels, second.labels);
  words = omega (arith, first.words, second.words);
}

-- a full list is one of a configuration beyond the room of the first stacks
full_beyond : (m : Module) (first now : Stacks) (c : Config) → StacksStand m now c → KeepsRoom first now → IsFull now → IsBeyond first c
full_beyond m first now c stands room (of_words full) = of_values (omega (arith, room.words, full, words_counted m now c stands))
full_beyond m first now c stands room (of_labels full) = of_labels (omega (arith, room.labels, full, labels_counted m now c stands))
full_beyond m first now c stands room (of_frames full) = of_frames (omega (arith, room.frames, full, frames_counted m now c stands))

-- what is beyond more room is beyond less
beyond_less : (old new : Stacks) (c : Config) → KeepsRoom old new → IsBeyond new c → IsBeyond old c
beyond_less old new c room (of_values more) = of_values (omega (arith, room.words, more))
beyond_less old new c room (of_labels more) = of_labels (omega (arith, room.labels, more))
beyond_less old new c room (of_frames more) = of_frames (omega (arith, room.frames, more))

pub leaves_less : (m : Module) (old new : Stacks) (steps : ℕ) (c : Config) → KeepsRoom old new → LeavesRoom m new steps c → LeavesRoom m old steps c
leaves_less m old new steps c room (of_place n d inside reached beyond) = of_place n d inside reached (beyond_less old new d room beyond)
leaves_less m old new steps c room (of_memory n d e inside reached moves more) = of_memory n d e inside reached moves more
leaves_less m old new steps c room (of_host n d inside reached calls) = of_host n d inside reached calls

-- ---- places

-- So many instructions have led to a place, and so many are left. In the configuration that the stacks stand for now the same comes next; and
-- where one of their lists is full, the place is beyond the room of the first stacks.
pub record HasCome (m : Module) (first : Stacks) (steps : ℕ) (c : Config) (now : Stacks) (left : ℕ) (next : Config) : Type 0 where
  pub taken : ℕ
  pub place : Config
  pub count : taken + left ≡ steps
  pub reached : Reaches m c taken place
  pub same : SameNext place next
  pub full : IsFull now → IsBeyond first place

pub comes_first : (m : Module) (s : Stacks) (steps : ℕ) (c : Config) → StacksStand m s c → HasCome m s steps c s steps c
comes_first m s steps c stands = record {
  taken = 0;
  place = c;
  count = omega arith;
  reached = here;
  same = record { next = refl; world = refl };
  full = λ full. full_beyond m s s c stands (room_kept s) full;
}

-- behind the ends of labels and frames
pub comes_settled : (m : Module) (first : Stacks) (steps : ℕ) (c : Config) (old new : Stacks) (left : ℕ) (next settled : Config) → KeepsRoom old new → HoldsFewer old new → SameNext next settled → HasCome m first steps c old left next → HasCome m first steps c new left settled
comes_settled m first steps c old new left next settled room fewer same come = record {
  taken = come.taken;
  place = come.place;
  count = come.count;
  reached = come.reached;
  same = record { next = come.same.next ∙ same.next; world = come.same.world ∙ same.world };
  full = λ full. come.full (full_before old new room fewer full);
}

moves_from : (m : Module) (place next d : Config) (work : Work) (f : reduction.Frame) → SameNext place next → stands_in next.frame ≡ Does work f → done m work (at_doing f next) ≡ Goes d → Moves m place d
moves_from m place next d work f same stands goes = record {
  work = work;
  frame = f;
  below = next.below;
  found = same.next ∙ found next work f stands;
  goes = ap (λ w. done m work (let x : Config = record { frame = f; below = next.below; world = w } in x)) same.world ∙ goes;
}

-- an instruction leads further
pub comes_further : (m : Module) (first : Stacks) (steps : ℕ) (c : Config) (old new : Stacks) (left : ℕ) (next d : Config) (work : Work) (f : reduction.Frame) → HasCome m first steps c old (suc left) next → stands_in next.frame ≡ Does work f → done m work (at_doing f next) ≡ Goes d → StacksStand m new d → KeepsRoom first new → HasCome m first steps c new left d
comes_further m first steps c old new left next d work f come stands goes behind room = record {
  taken = suc come.taken;
  place = d;
  count = omega (arith, come.count);
  reached = further come.taken come.place d come.reached (moves_from m come.place next d work f come.same stands goes);
  same = record { next = refl; world = refl };
  full = λ full. full_beyond m first new d behind room full;
}

-- ---- what wants memory

next_leaves : (m : Module) (first : Stacks) (steps : ℕ) (c : Config) (now : Stacks) (left : ℕ) (next d : Config) (work : Work) (f : reduction.Frame) → HasCome m first steps c now (suc left) next → KeepsRoom first now → stands_in next.frame ≡ Does work f → done m work (at_doing f next) ≡ Goes d → Overfills now (at_doing f next) d → LeavesRoom m first steps c
next_leaves m first steps c now left next d work f come room stands goes (of_values more) =
    of_place (suc come.taken) d (omega (arith, come.count)) (further come.taken come.place d come.reached (moves_from m come.place next d work f come.same stands goes)) (of_values (omega (arith, room.words, more)))
next_leaves m first steps c now left next d work f come room stands goes (of_memory more) =
    of_memory come.taken come.place d (omega (arith, come.count)) come.reached (moves_from m come.place next d work f come.same stands goes)
    (subst (λ w. length w.store.memory < length d.world.store.memory) (sym come.same.world) more)

-- a step that wants memory
pub step_leaves : (m : Module) (first : Stacks) (store : Store) (ts : List ValType) (steps : ℕ) (c : Config) (now : Stacks) (left : ℕ) (next : Config) → HasCome m first steps c now (suc left) next → KeepsRoom first now → Stand m store now next → IsDue m ts next → StepWants m store now → LeavesRoom m first steps c
step_leaves m first store ts steps c now left next come room stand due (of_room full) =
    of_place come.taken come.place (omega (arith, come.count)) come.reached (come.full full)
step_leaves m first store ts steps c now left next come room stand due (of_next leads) =
    let w = leads next stand.stacks stand.store in
    let x = w.leads (due.found w.work w.frame next.below (found next w.work w.frame w.stands)) in
    next_leaves m first steps c now left next x.next w.work w.frame come room w.stands x.goes x.over

-- ---- calls of the host

-- a call of an imported function waits for the host
record WaitsThere (f : ℕ) (a : Action) : Type 0 where
  args : List Num
  waits : Config
  calls : a ≡ CallsHost f args waits

imported_waits : (m : Module) (f : ℕ) (c : Config) (o : Option FuncType) → func_type m f ≡ o → f < length m.imports → IsRuled (called m f (func_type m f) c) → WaitsThere f (called m f (func_type m f) c)
imported_waits m f c None is imported ruled = absurd (ruled (no_function m f c is))
imported_waits m f c (Some t) is imported ruled =
    let n = length t.params in
    let args = reverse (take n c.frame.operands) in
    let waits = with_operands (drop n c.frame.operands) c in
    record { args = args; waits = waits; calls = (takes_arguments m f t c is ruled).calls ∙ enter_is_host m f args waits (lt-ltb f (length m.imports) imported) }

pub comes_to_host : (m : Module) (first : Stacks) (steps : ℕ) (c : Config) (now : Stacks) (left : ℕ) (next waits : Config) (work : Work) (fr : reduction.Frame) (f : ℕ) → HasCome m first steps c now (suc left) next → stands_in next.frame ≡ Does work fr → done m work (at_doing fr next) ≡ called m f (func_type m f) waits → f < length m.imports → IsRuled (called m f (func_type m f) waits) → ComesToHost m steps c
comes_to_host m first steps c now left next waits work fr f come stands does imported ruled =
    let w = imported_waits m f waits (func_type m f) refl imported ruled in
    record {
      taken = come.taken;
      place = come.place;
      within = omega (arith, come.count);
      reached = come.reached;
      calls = record {
        work = work;
        frame = fr;
        below = next.below;
        found = come.same.next ∙ found next work fr stands;
        import = f;
        args = w.args;
        waits = w.waits;
        calls = ap (λ w. done m work (let x : Config = record { frame = fr; below = next.below; world = w } in x)) come.same.world ∙ does ∙ w.calls;
      };
    }
