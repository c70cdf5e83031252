-- Beginnings: a step of the stacks, from the place where an instruction stands.
use Rattle.std.proofs.Common.{◌≡◌, ◌+◌, true, reverse, refl, sym, ap, subst, ◌∙◌}
use Rattle.zw_wasm.specs.declared.module.Instr.{Instr}
use Rattle.zw_wasm.specs.declared.module.Module.{Module}
use Rattle.zw_wasm.specs.Reduction.{Config, Does, Single, done, stands_in, stands_next}
use Rattle.zw_wasm.specs.Structure.{is_plain}
use Rattle.zw_wasm_words.specs.declared.effect.Effect.{Effect}
use Rattle.zw_wasm_words.specs.Frames.{numbers_of}
use Rattle.zw_wasm_run.specs.declared.pause.Taken.{Taken}
use Rattle.zw_wasm_run.specs.declared.stacks.Stacks.{Stacks}
use Rattle.zw_wasm_run.specs.declared.store.Store.{Store}
use Rattle.zw_wasm_run.specs.Running.{AllStand, StacksStand, TakesStep, at_doing, body_of, own_labels}
use Rattle.zw_wasm_run.specs.Settling.{IsAt}
use Rattle.zw_wasm_run.specs.Stores.{EndsWith, Executes, Steps, taken_of}
use Rattle.zw_wasm_run.proofs.AllFrames.{stays}
use Rattle.zw_wasm_run.proofs.FlatCode.{code_of-plain}
use Rattle.zw_wasm_run.proofs.Popping.{stand_as}
use Rattle.zw_wasm_run.proofs.Stepping.{here_at, moved}
use Rattle.zw_wasm_run.proofs.Steps.{behind}
use Rattle.zw_wasm_run.proofs.StoreSteps.{ends_with}

-- a step that leaves the store
pub steps_so : (m : Module) (store : Store) (old : Stacks) (e : Effect) (t : Taken) (new : Stacks) → t ≡ taken_of e → TakesStep m old e new → Steps m store old t store new
steps_so m store old e t new is takes = record {
  by = λ c stands same.
      let w = takes.by c stands in
      record {
        work = w.work;
        frame = w.frame;
        stands = w.stands;
        does = λ sound. subst (λ x. EndsWith m (done m w.work (at_doing w.frame c)) x store new c.world) (sym is) (ends_with m (done m w.work (at_doing w.frame c)) e store new c.world same (w.does sound.ruled));
      };
}

-- a plain instruction stands next, and other stacks stand for the configuration behind it
pub record StandsBehind (m : Module) (i : Instr) (mid : Stacks) (c d : Config) : Type 0 where
  pub stands : stands_in c.frame ≡ Does (Single i) d.frame
  pub stand : StacksStand m mid d

pub stands_behind : (m : Module) (i : Instr) (old mid : Stacks) (c : Config) → IsAt m old i → is_plain i ≡ true → mid.frame ≡ record old.frame { at = old.frame.at + 1 } → mid.frames.items ≡ old.frames.items → mid.labels.items ≡ old.labels.items → mid.words.items ≡ old.words.items → StacksStand m old c → StandsBehind m i mid c (behind (body_of m old.frame.body) old.frame.at c)
stands_behind m i old mid c at plain frame frames labels words stands =
    let k = old.frame in
    let is = body_of m k.body in
    let d = behind is k.at c in
    let ks = reverse old.frames.items in
    let all : AllStand m (record k { at = k.at + 1 }) ks old.labels.items old.words.items d =
    stays m k ks old.labels.items old.words.items old.words.items (k.at + 1) c d stands refl (moved is k (own_labels k.labels old.labels.items) old.words.items (k.at + 1) c (numbers_of c.below) stands.running) in
    record {
      stands = ap (λ code. stands_next c.frame code c.frame.operands c.frame.labels) (stands.running.frame.code ∙ code_of-plain is k.at i (here_at k.at is i at.here) plain);
      stand = stand_as m mid (record k { at = k.at + 1 }) ks old.labels.items old.words.items d frame (ap reverse frames) labels words all;
    }

-- a plain instruction, on the stacks behind it
pub single_steps : (m : Module) (i : Instr) (store last : Store) (old mid : Stacks) (t : Taken) (new : Stacks) → IsAt m old i → is_plain i ≡ true → mid.frame ≡ record old.frame { at = old.frame.at + 1 } → mid.frames.items ≡ old.frames.items → mid.labels.items ≡ old.labels.items → mid.words.items ≡ old.words.items → Executes m i store mid t last new → Steps m store old t last new
single_steps m i store last old mid t new at plain frame frames labels words executes = record {
  by = λ c stands same.
      let d = behind (body_of m old.frame.body) old.frame.at c in
      let b = stands_behind m i old mid c at plain frame frames labels words stands in
      record { work = Single i; frame = d.frame; stands = b.stands; does = λ sound. executes.by d b.stand same sound };
}
