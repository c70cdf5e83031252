-- Looping: a run of a call goes on from step to step.
use Rattle.std.proofs.Common.{◌≡◌, ℕ, zero, suc, ◌+◌, ◌≤◌, Bool, true, false, List, ◌∷◌, Option, drop, map, refl, sym, ap, subst, ◌∙◌, arith}
use Rattle.std.specs.Prelude.{if◌then◌else◌}
use Rattle.zw_wasm.specs.declared.module.Instr.{Instr}
use Rattle.zw_wasm.specs.declared.module.Instr.TheVariants as instr
use Rattle.zw_wasm.specs.declared.module.Module.{Module}
use Rattle.zw_wasm.specs.declared.module.ValType.{ValType}
use Rattle.zw_wasm.specs.declared.num.Num.{Num}
use Rattle.zw_wasm.specs.Functions.{func_type}
use Rattle.zw_wasm.specs.Reduction as reduction
use Rattle.zw_wasm.specs.Reduction.{Config, Does, Ended, Going, Over, Trap, Single, Begins, BeginsLoop, Chooses, Work, after_step, at_work, called, done, resolved, run, stands_next}
use Rattle.zw_wasm.specs.Structure.{Code, Ends, Part, choice_of_one, choice_of_two, code_of, first_part, other_parts, parts}
use Rattle.zw_wasm_run.specs.declared.pause.Pause.TheVariants as pause
use Rattle.zw_wasm_run.specs.declared.pause.Taken.TheVariants as taken
use Rattle.zw_wasm_run.specs.declared.stacks.Stacks.{Stacks}
use Rattle.zw_wasm_run.specs.declared.store.Store.{Store}
use Rattle.zw_wasm_run.specs.Loops.{IsSound, Pauses, RunsTo, Stand}
use Rattle.zw_wasm_run.specs.Premises.{AreSound, IsDue, Leaves, WorkIsSound, type_of}
use Rattle.zw_wasm_run.specs.Rooms.{HoldsFewer, KeepsRoom, RunWants, StepWants}
use Rattle.zw_wasm_run.specs.Running.{SameNext, StacksStand, at_doing, body_of, next_of}
use Rattle.zw_wasm_run.specs.Settling.{IsAt, IsAtEnd, IsReached, IsStanding, closes}
use Rattle.zw_wasm_run.specs.Stores.{Steps, with_store}
use Rattle.zw_wasm_run.proofs.LoopRooms.{HasCome, comes_first, comes_further, comes_settled, comes_to_host, more_room, room_kept, step_leaves}
use Rattle.zw_wasm_run.proofs.Runs.{doing, found, run_goes, run_is_due, run_traps, same_run}
use Rattle.zw_wasm_run.proofs.Stepping.{here_at}
use Rattle.zw_wasm_run.proofs.StoreSteps.{same_world}

-- a run goes on with these stacks and this store, is sound, and has come so far from the first stacks
pub record GoesOnTo (m : Module) (ts : List ValType) (first : Stacks) (steps : ℕ) (c : Config) (store : Store) (stacks : Stacks) (left : ℕ) : Type 0 where
  pub next : Config
  pub stand : Stand m store stacks next
  pub world : next.world ≡ with_store store c.world
  pub sound : AreSound m ts left next
  pub same : RunsTo m steps c left next
  pub come : HasCome m first steps c stacks left next

-- a loop's course: a run goes on from each configuration that is sound
pub record GoesOn (m : Module) (store : Store) (stacks : Stacks) (steps : ℕ) (kept : Store) (new : Stacks) (left : ℕ) : Type 0 where
  pub fewer : left ≤ steps
  pub room : KeepsRoom stacks new
  pub by : (ts : List ValType) (c : Config) → Stand m store stacks c → AreSound m ts steps c → GoesOnTo m ts stacks steps c kept new left

pub goes_on : (m : Module) (store : Store) (stacks : Stacks) (steps : ℕ) → GoesOn m store stacks steps store stacks steps
goes_on m store stacks steps = record {
  fewer = omega arith;
  room = room_kept stacks;
  by = λ ts c stands sound. record {
    next = c;
    stand = record { stacks = stands.stacks; store = stands.store };
    world = sym (same_world store c.world stands.store);
    sound = sound;
    same = record { by = λ n v same. refl };
    come = comes_first m stacks steps c stands.stacks;
  };
}

-- what comes next is sound where the same comes next
due_alike : (m : Module) (ts : List ValType) (c d : Config) → SameNext c d → IsDue m ts c → IsDue m ts d
due_alike m ts c d same due = record {
  over = λ results e. due.over results (same.next ∙ e);
  found = λ work f below e.
      subst (λ w. WorkIsSound m work (let x : Config = record { frame = f; below = below; world = w } in x)) same.world (due.found work f below (same.next ∙ e));
}

sound_alike : (m : Module) (ts : List ValType) (n : ℕ) (c d : Config) → SameNext c d → AreSound m ts n c → AreSound m ts n d
sound_alike m ts zero c d same sound = due_alike m ts c d same sound
sound_alike m ts (suc n) c d same sound = (
  due_alike m ts c d same sound.0,
  λ work f below e.
      subst (λ w. Leaves m (AreSound m ts n) (done m work (let x : Config = record { frame = f; below = below; world = w } in x))) same.world (sound.1 work f below (same.next ∙ e)),
)

-- behind the ends of labels and frames
pub goes_settled : (m : Module) (store kept : Store) (stacks old new : Stacks) (steps left : ℕ) (i : Instr) → GoesOn m store stacks steps kept old left → KeepsRoom old new → HoldsFewer old new → IsReached m old i new → GoesOn m store stacks steps kept new left
goes_settled m store kept stacks old new steps left i goes room fewer reached = record {
  fewer = goes.fewer;
  room = more_room stacks old new goes.room room;
  by = λ ts c stands sound.
      let g = goes.by ts c stands sound in
      let x = reached.by g.next g.stand.stacks in
      record {
        next = x.next;
        stand = record { stacks = x.stand; store = ap (λ w. w.store) (sym x.same.world) ∙ g.stand.store };
        world = sym x.same.world ∙ g.world;
        sound = sound_alike m ts left g.next x.next x.same g.sound;
        same = record { by = λ n v same. g.same.by n v same ∙ same_run n v left g.next x.next x.same };
        come = comes_settled m stacks steps c old new left g.next x.next room fewer x.same g.come;
      };
}

-- the stacks stand for a configuration, as long as the first did
pub standing_on : (m : Module) (store kept : Store) (stacks new : Stacks) (steps left : ℕ) → IsSound m store stacks steps → GoesOn m store stacks steps kept new left → IsStanding m new
standing_on m store kept stacks new steps left first goes =
    let g = goes.by first.types first.config first.stand first.sound in
    record { config = g.next; stand = g.stand.stacks }

due_over : (m : Module) (ts : List ValType) (n : ℕ) (c : Config) (results : List Num) → next_of c ≡ Over results → AreSound m ts n c → map type_of results ≡ ts
due_over m ts zero c results e sound = sound.over results e
due_over m ts (suc n) c results e sound = sound.0.over results e

-- the call has ended
pub is_over : (m : Module) (store kept : Store) (stacks old new : Stacks) (steps left : ℕ) → GoesOn m store stacks steps kept old left → IsAtEnd m old new.words.items → Pauses m store stacks steps pause.Over kept new left
is_over m store kept stacks old new steps left goes ended = record {
  spent = λ f e. absurd (cc);
  by = λ ts c stands sound.
      let g = goes.by ts c stands sound in
      let x = ended.by g.next g.stand.stacks in
      record {
        next = x.next;
        ends = record { over = x.ends.over; held = x.ends.held };
        types = due_over m ts left g.next x.next.frame.operands (x.same.next ∙ x.ends.over) g.sound;
        world = sym x.same.world ∙ g.world;
        same = record { by = λ n v same. g.same.by n v same ∙ same_run n v left g.next x.next x.same };
      };
}

-- code that doesn't end at once stands next as work
record Opens (f : reduction.Frame) (code : Code) (os : List Num) (ls : List reduction.Label) : Type 0 where
  work : Work
  frame : reduction.Frame
  stands : stands_next f code os ls ≡ Does work frame

choice_opens : (f : reduction.Frame) (r : Option ValType) (ps : List Part) (b : Bool) (os : List Num) (ls : List reduction.Label) → Opens f (first_part (if b then choice_of_two r ps else choice_of_one r ps)).code os ls
choice_opens f r ps true os ls = record {
  work = Chooses r (first_part ps).code (first_part (other_parts ps)).code;
  frame = at_work f os (first_part (other_parts (other_parts ps))).code ls;
  stands = refl;
}
choice_opens f r ps false os ls = record {
  work = Chooses r (first_part ps).code Ends;
  frame = at_work f os (first_part (other_parts ps)).code ls;
  stands = refl;
}

opens : (f : reduction.Frame) (i : Instr) (is : List Instr) (os : List Num) (ls : List reduction.Label) → closes i ≡ false → Opens f (code_of (i ∷ is)) os ls
opens f (instr.If r) is os ls e = choice_opens f r (parts is) (first_part (parts is)).by_else os ls
opens f (instr.Block r) is os ls e = record {
  work = Begins r (first_part (parts is)).code;
  frame = at_work f os (first_part (other_parts (parts is))).code ls;
  stands = refl;
}
opens f (instr.Loop r) is os ls e = record {
  work = BeginsLoop r (first_part (parts is)).code;
  frame = at_work f os (first_part (other_parts (parts is))).code ls;
  stands = refl;
}
opens f instr.End is os ls e = absurd (cc)
opens f instr.Else is os ls e = absurd (cc)
opens f i is os ls e = record { work = Single i; frame = at_work f os (code_of is) ls; stands = refl }

stands_due : (m : Module) (s : Stacks) (i : Instr) (c : Config) → IsAt m s i → StacksStand m s c → Opens c.frame c.frame.code c.frame.operands c.frame.labels
stands_due m s i c at stands =
    let is = body_of m s.frame.body in
    let f = c.frame in
    let code : f.code ≡ code_of (i ∷ drop (s.frame.at + 1) is) = stands.running.frame.code ∙ ap code_of (here_at s.frame.at is i at.here) in
    let o = opens f i (drop (s.frame.at + 1) is) f.operands f.labels at.opens in
    record { work = o.work; frame = o.frame; stands = ap (λ x. stands_next f x f.operands f.labels) code ∙ o.stands }

-- no step is left for what is due
pub no_step : (m : Module) (store kept : Store) (stacks new : Stacks) (steps left : ℕ) (i : Instr) → GoesOn m store stacks steps kept new left → IsAt m new i → left ≡ 0 → Pauses m store stacks steps pause.StepsOut kept new left
no_step m store kept stacks new steps left i goes at none = record {
  spent = λ f e. absurd (cc);
  by = λ ts c stands sound.
      let g = goes.by ts c stands sound in
      let due = stands_due m new i g.next at g.stand.stacks in
      record {
        none = none;
        by = λ n v same. g.same.by n v same ∙ ap (λ k. run n v k g.next) none ∙ run_is_due n v g.next due.work due.frame due.stands ∙ ap Going g.world;
      };
}

-- a step goes on
pub goes_further : (m : Module) (store kept last : Store) (stacks old new : Stacks) (steps before left : ℕ) → before ≡ suc left → GoesOn m store stacks steps kept old before → KeepsRoom old new → Steps m kept old taken.Goes last new → GoesOn m store stacks steps last new left
goes_further m store kept last stacks old new steps before left count goes room step = record {
  fewer = omega (arith, goes.fewer, count);
  room = more_room stacks old new goes.room room;
  by = λ ts c stands sound.
      let all = subst (λ k. GoesOn m store stacks steps kept old k) count goes in
      let g = all.by ts c stands sound in
      let w = step.by g.next g.stand.stacks g.stand.store in
      let there = found g.next w.work w.frame w.stands in
      let ends = w.does (g.sound.0.found w.work w.frame g.next.below there) in
      let leaves = g.sound.1 w.work w.frame g.next.below there in
      record {
        next = ends.next;
        stand = record { stacks = ends.stand; store = ap (λ x. x.store) ends.world };
        world = ends.world ∙ ap (λ x. with_store last x) g.world;
        sound = leaves.goes ends.next ends.goes;
        same = record { by = λ n v same. g.same.by n v same ∙ run_goes n v left g.next ends.next w.work w.frame w.stands (same.does w.work (at_doing w.frame g.next) ∙ ends.goes) };
        come = comes_further m stacks steps c old new left g.next ends.next w.work w.frame g.come w.stands ends.goes ends.stand (more_room stacks old new goes.room room);
      };
}

-- a step wants memory
pub run_wants : (m : Module) (store kept : Store) (stacks new : Stacks) (steps before left : ℕ) → before ≡ suc left → GoesOn m store stacks steps kept new before → StepWants m kept new → RunWants m store stacks steps
run_wants m store kept stacks new steps before left count goes wants = record {
  by = λ ts c stands sound.
      let all = subst (λ k. GoesOn m store stacks steps kept new k) count goes in
      let g = all.by ts c stands sound in
      step_leaves m stacks kept ts steps c new left g.next g.come goes.room g.stand g.sound.0 wants;
}

-- a step traps
pub stops : (m : Module) (store kept last : Store) (stacks old new : Stacks) (steps before left code : ℕ) → before ≡ suc left → GoesOn m store stacks steps kept old before → Steps m kept old (taken.Traps code) last new → Pauses m store stacks steps (pause.Traps code) last new left
stops m store kept last stacks old new steps before left code count goes step = record {
  spent = λ f e. absurd (cc);
  by = λ ts c stands sound.
      let all = subst (λ k. GoesOn m store stacks steps kept old k) count goes in
      let g = all.by ts c stands sound in
      let w = step.by g.next g.stand.stacks g.stand.store in
      let there = found g.next w.work w.frame w.stands in
      let ends = w.does (g.sound.0.found w.work w.frame g.next.below there) in
      let world : g.next.world ≡ with_store last c.world = sym (same_world last g.next.world (sym ends.1)) ∙ ap (λ x. with_store last x) g.world in
      record {
        by = λ n v same. g.same.by n v same ∙ run_traps n v left g.next w.work w.frame code w.stands (same.does w.work (at_doing w.frame g.next) ∙ ends.0) ∙ ap (λ x. Ended (Trap code) x left) world;
      };
}

-- a step calls the host
pub calls_out : (m : Module) (store kept last : Store) (stacks old new : Stacks) (steps before left f : ℕ) → before ≡ suc left → GoesOn m store stacks steps kept old before → Steps m kept old (taken.Calls f) last new → Pauses m store stacks steps (pause.Calls f) last new left
calls_out m store kept last stacks old new steps before left f count goes step = record {
  spent = λ k e. omega (arith, goes.fewer, count);
  by = λ ts c stands sound.
      let all = subst (λ k. GoesOn m store stacks steps kept old k) count goes in
      let g = all.by ts c stands sound in
      let w = step.by g.next g.stand.stacks g.stand.store in
      let there = found g.next w.work w.frame w.stands in
      let due = g.sound.0.found w.work w.frame g.next.below there in
      let out = w.does due in
      let leaves = g.sound.1 w.work w.frame g.next.below there in
      let a = called m f (func_type m f) out.next in
      let same_place : g.next.world ≡ out.next.world = sym out.world in
      let world : out.next.world ≡ with_store last c.world = out.world ∙ sym (same_world last g.next.world (sym out.kept)) ∙ ap (λ x. with_store last x) g.world in
      record {
        next = out.next;
        imported = out.imported;
        stand = record { stacks = out.stand; store = ap (λ x. x.store) out.world ∙ sym out.kept };
        world = world;
        ruled = λ e. due.ruled (out.calls ∙ e);
        args = λ k args d e. due.args k args d (out.calls ∙ e);
        after = subst (λ x. Leaves m (AreSound m ts left) x) out.calls leaves;
        comes = comes_to_host m stacks steps c old left g.next out.next w.work w.frame f g.come w.stands out.calls out.imported (λ e. due.ruled (out.calls ∙ e));
        same = λ n v same.
            g.same.by n v same
            ∙ ap (λ s. after_step s g.next.world left (run n v left)) (doing n v g.next w.work w.frame a w.stands (same.does w.work (at_doing w.frame g.next) ∙ out.calls))
            ∙ ap (λ x. after_step (resolved n v x a) x left (run n v left)) same_place;
      };
}
