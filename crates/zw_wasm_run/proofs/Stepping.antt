-- Stepping: what begins and what ends, on the stacks of a call.
use Rattle.std.proofs.Common.{◌≡◌, ℕ, zero, suc, ◌+◌, ◌≤◌, ◌%◌, ◌^◌, true, false, cond, List, [], ◌∷◌, ◌++◌, Option, Some, length, drop, reverse, refl, sym, ap, subst, ◌∙◌, arith}
use Rattle.std.specs.Prelude.{nat_eq, slice_get}
use Rattle.std.specs.Option.{option_to_list}
use Rattle.std.proofs.lemmas.List.{reverse-append}
use Rattle.zw_wasm.specs.declared.module.Instr.{Instr}
use Rattle.zw_wasm.specs.declared.module.Instr.TheVariants as instr
use Rattle.zw_wasm.specs.declared.module.Module.{Module}
use Rattle.zw_wasm.specs.declared.module.ValType.{ValType}
use Rattle.zw_wasm.specs.declared.num.Num.{Num}
use Rattle.zw_wasm.specs.Reduction as reduction
use Rattle.zw_wasm.specs.Reduction.{Begins, BeginsLoop, Chooses, Config, Single, act, at_work, stands_next, under_label, under_loop}
use Rattle.zw_wasm.specs.Structure.{code_of, is_plain}
use Rattle.zw_wasm_words.specs.declared.effect.Effect.{Effect}
use Rattle.zw_wasm_words.specs.declared.effect.Effect.TheVariants as effect
use Rattle.zw_wasm_words.specs.declared.frame.Frame.{Frame}
use Rattle.zw_wasm_words.specs.declared.frame.Label.{Label}
use Rattle.zw_wasm_words.specs.Frames.{ReturnsOn, Stands, numbers_of, under}
use Rattle.zw_wasm_words.specs.Words.{Hold}
use Rattle.zw_wasm_run.specs.declared.control.Arms.{Arms}
use Rattle.zw_wasm_run.specs.declared.control.SequenceEnd.{SequenceEnd}
use Rattle.zw_wasm_run.specs.declared.stacks.Stacks.{Stacks}
use Rattle.zw_wasm_run.specs.Control.{AreArms, IsEnd}
use Rattle.zw_wasm_run.specs.Running.{ActsOnStacks, AllStand, EndsFrame, EndsLabel, StacksStand, TakesStep, body_of, own_labels}
use Rattle.zw_wasm_run.proofs.AllFrames.{call_ends, frame_ends, label_ends, stays, stays_within}
use Rattle.zw_wasm_run.proofs.FlatCode.{code_of-block, code_of-choice, code_of-loop, code_of-plain}
use Rattle.zw_wasm_run.proofs.LabelRuns.{block_begins, choice_begins, loop_begins}
use Rattle.zw_wasm_run.proofs.Stacked.{goes_as}
use Rattle.zw_wasm_run.proofs.Steps.{behind}

-- an instruction and what is behind it
pub here_at : {A : Type 0} (n : ℕ) (xs : List A) (x : A) → slice_get xs n ≡ Some x → drop n xs ≡ x ∷ drop (n + 1) xs
here_at n [] x e = absurd (cc)
here_at zero (y ∷ xs) x e = cc
here_at (suc n) (y ∷ xs) x e = let same : suc (n + 1) ≡ suc n + 1 = omega arith in here_at n xs x e ∙ ap (λ k. x ∷ drop k (y ∷ xs)) same

-- labels of equal parts
pub label_as : (arity count target follows height words : ℕ) → arity ≡ count → height ≡ words → (let x : Label = record { arity = arity; target = target; follows = follows; height = height } in let y : Label = record { arity = count; target = target; follows = follows; height = words } in x ≡ y)
label_as arity count target follows height words same at =
    let x : ℕ → ℕ → Label = λ a h. record { arity = a; target = target; follows = follows; height = h } in
    ap (λ a. x a height) same ∙ ap (λ h. x count h) at

-- the frame stands for one at another place
pub moved : (instrs : List Instr) (k : Frame) (ks : List Label) (words : List ℕ) (at : ℕ) (c : Config) (lower : List Num) → Stands instrs k ks words c lower → Stands instrs (record k { at = at }) ks words (record c { frame = at_work c.frame c.frame.operands (code_of (drop at instrs)) c.frame.labels }) lower
moved instrs k ks words at c lower stands = record {
  frame = record {
    arity = stands.frame.arity;
    code = refl;
    labels = stands.frame.labels;
    locals = record { first = stands.frame.locals.first; behind = stands.frame.locals.behind };
  };
  held = stands.held;
}

-- a plain instruction is a step of the stacks behind it
pub plain_steps : (m : Module) (i : Instr) (old mid : Stacks) (e : Effect) (new : Stacks) → drop old.frame.at (body_of m old.frame.body) ≡ i ∷ drop (old.frame.at + 1) (body_of m old.frame.body) → is_plain i ≡ true → mid.frame ≡ record old.frame { at = old.frame.at + 1 } → mid.frames.items ≡ old.frames.items → mid.labels.items ≡ old.labels.items → mid.words.items ≡ old.words.items → ActsOnStacks m (act m i) mid e new → TakesStep m old e new
plain_steps m i old mid e new here plain frame frames labels words acts = record {
  by = λ c stands.
      let k = old.frame in
      let is = body_of m k.body in
      let d = behind is k.at c in
      let ks = reverse old.frames.items in
      let all : AllStand m (record k { at = k.at + 1 }) ks old.labels.items old.words.items d =
      stays m k ks old.labels.items old.words.items old.words.items (k.at + 1) c d stands refl (moved is k (own_labels k.labels old.labels.items) old.words.items (k.at + 1) c (numbers_of c.below) stands.running) in
      let there : StacksStand m mid d =
      subst (λ x. AllStand m x (reverse mid.frames.items) mid.labels.items mid.words.items d) (sym frame)
      (subst (λ x. AllStand m (record k { at = k.at + 1 }) (reverse x) mid.labels.items mid.words.items d) (sym frames)
      (subst (λ x. AllStand m (record k { at = k.at + 1 }) ks x mid.words.items d) (sym labels)
      (subst (λ x. AllStand m (record k { at = k.at + 1 }) ks old.labels.items x d) (sym words) all))) in
      record {
        work = Single i;
        frame = d.frame;
        stands = ap (λ code. stands_next c.frame code c.frame.operands c.frame.labels) (stands.running.frame.code ∙ code_of-plain is k.at i here plain);
        does = λ ruled. acts.by d there ruled;
      };
}

-- a block begins
pub block_steps : (m : Module) (ty : Option ValType) (e : SequenceEnd) (old new : Stacks) → drop old.frame.at (body_of m old.frame.body) ≡ instr.Block ty ∷ drop (old.frame.at + 1) (body_of m old.frame.body) → IsEnd (body_of m old.frame.body) (old.frame.at + 1) e → new.frame ≡ record old.frame { at = old.frame.at + 1 } → new.frames.items ≡ old.frames.items → new.labels.items ≡ old.labels.items ++ (record { arity = length (option_to_list ty); target = e.next; follows = e.next; height = length old.words.items }) ∷ [] → new.words.items ≡ old.words.items → TakesStep m old effect.Goes new
block_steps m ty e old new here end frame frames labels words = record {
  by = λ c stands.
      let k = old.frame in
      let is = body_of m k.body in
      let ks = reverse old.frames.items in
      let body = code_of (drop (k.at + 1) is) in
      let l : Label = record { arity = length (option_to_list ty); target = e.next; follows = e.next; height = length old.words.items } in
      let d : Config = record c { frame = at_work c.frame c.frame.operands (code_of (drop e.next is)) c.frame.labels } in
      let begun = block_begins is k (own_labels k.labels old.labels.items) old.words.items d (numbers_of c.below) ty body e.next (k.at + 1) (moved is k (own_labels k.labels old.labels.items) old.words.items e.next c (numbers_of c.below) stands.running) refl in
      record {
        work = Begins ty body;
        frame = d.frame;
        stands = ap (λ code. stands_next c.frame code c.frame.operands c.frame.labels) (stands.running.frame.code ∙ code_of-block is k.at ty e here end);
        does = λ ruled.
            goes_as m (reduction.Goes (under_label ty body d)) new (record k { at = k.at + 1 }) ks (old.labels.items ++ l ∷ []) old.words.items c.world frame (ap reverse frames) labels words
            (record {
              next = under_label ty body d;
              goes = refl;
              stand = stays_within m k ks old.labels.items l old.words.items old.words.items (k.at + 1) c (under_label ty body d) stands refl begun;
              world = refl;
            });
      };
}

-- a loop begins
pub loop_steps : (m : Module) (ty : Option ValType) (e : SequenceEnd) (old new : Stacks) → drop old.frame.at (body_of m old.frame.body) ≡ instr.Loop ty ∷ drop (old.frame.at + 1) (body_of m old.frame.body) → IsEnd (body_of m old.frame.body) (old.frame.at + 1) e → new.frame ≡ record old.frame { at = old.frame.at + 1 } → new.frames.items ≡ old.frames.items → new.labels.items ≡ old.labels.items ++ (record { arity = 0; target = old.frame.at; follows = e.next; height = length old.words.items }) ∷ [] → new.words.items ≡ old.words.items → TakesStep m old effect.Goes new
loop_steps m ty e old new here end frame frames labels words = record {
  by = λ c stands.
      let k = old.frame in
      let is = body_of m k.body in
      let ks = reverse old.frames.items in
      let body = code_of (drop (k.at + 1) is) in
      let l : Label = record { arity = 0; target = k.at; follows = e.next; height = length old.words.items } in
      let d : Config = record c { frame = at_work c.frame c.frame.operands (code_of (drop e.next is)) c.frame.labels } in
      let begun = loop_begins is k (own_labels k.labels old.labels.items) old.words.items d (numbers_of c.below) ty body k.at e.next (k.at + 1) (moved is k (own_labels k.labels old.labels.items) old.words.items e.next c (numbers_of c.below) stands.running) refl (sym (code_of-loop is k.at ty e here end)) in
      record {
        work = BeginsLoop ty body;
        frame = d.frame;
        stands = ap (λ code. stands_next c.frame code c.frame.operands c.frame.labels) (stands.running.frame.code ∙ code_of-loop is k.at ty e here end);
        does = λ ruled.
            goes_as m (reduction.Goes (under_loop ty body d)) new (record k { at = k.at + 1 }) ks (old.labels.items ++ l ∷ []) old.words.items c.world frame (ap reverse frames) labels words
            (record {
              next = under_loop ty body d;
              goes = refl;
              stand = stays_within m k ks old.labels.items l old.words.items old.words.items (k.at + 1) c (under_loop ty body d) stands refl begun;
              world = refl;
            });
      };
}

-- an `if` begins one of its codes
pub choice_steps : (m : Module) (ty : Option ValType) (arms : Arms) (w : ℕ) (words : List ℕ) (old new : Stacks) → drop old.frame.at (body_of m old.frame.body) ≡ instr.If ty ∷ drop (old.frame.at + 1) (body_of m old.frame.body) → AreArms (body_of m old.frame.body) old.frame.at arms → old.words.items ≡ words ++ w ∷ [] → new.frame ≡ record old.frame { at = cond (nat_eq (w % 2 ^ 32) 0) arms.else_code arms.then_code } → new.frames.items ≡ old.frames.items → new.labels.items ≡ old.labels.items ++ (record { arity = length (option_to_list ty); target = arms.follows; follows = arms.follows; height = length words }) ∷ [] → new.words.items ≡ words → TakesStep m old effect.Goes new
choice_steps m ty arms w words old new here are last frame frames labels left = record {
  by = λ c stands.
      let k = old.frame in
      let is = body_of m k.body in
      let ks = reverse old.frames.items in
      let first = code_of (drop arms.then_code is) in
      let second = code_of (drop arms.else_code is) in
      let place = cond (nat_eq (w % 2 ^ 32) 0) arms.else_code arms.then_code in
      let l : Label = record { arity = length (option_to_list ty); target = arms.follows; follows = arms.follows; height = length words } in
      let d : Config = record c { frame = at_work c.frame c.frame.operands (code_of (drop arms.follows is)) c.frame.labels } in
      record {
        work = Chooses ty first second;
        frame = d.frame;
        stands = ap (λ code. stands_next c.frame code c.frame.operands c.frame.labels) (stands.running.frame.code ∙ code_of-choice is k.at ty arms here are);
        does = λ ruled.
            let begun = choice_begins is k (own_labels k.labels old.labels.items) old.words.items words w c (numbers_of c.below) ty arms.then_code arms.else_code arms.follows stands.running last ruled in
            goes_as m (reduction.on_operand (reduction.chosen ty first second) c.frame.operands d) new (record k { at = place }) ks (old.labels.items ++ l ∷ []) words c.world frame (ap reverse frames) labels left
            (record {
              next = begun.next;
              goes = begun.goes;
              stand = stays_within m k ks old.labels.items l old.words.items words place c begun.next stands begun.below begun.stands;
              world = begun.world;
            });
      };
}

pub no_operands : (os base : List Num) → Hold [] (os ++ base) → os ≡ []
no_operands [] base h = refl
no_operands (v ∷ os) base h = absurd h

-- a choice without an operand has no rule
pub choice_traps : (m : Module) (ty : Option ValType) (arms : Arms) (old new : Stacks) → drop old.frame.at (body_of m old.frame.body) ≡ instr.If ty ∷ drop (old.frame.at + 1) (body_of m old.frame.body) → AreArms (body_of m old.frame.body) old.frame.at arms → old.words.items ≡ [] → TakesStep m old (effect.Traps 0) new
choice_traps m ty arms old new here are none = record {
  by = λ c stands.
      let k = old.frame in
      let is = body_of m k.body in
      let first = code_of (drop arms.then_code is) in
      let second = code_of (drop arms.else_code is) in
      let d : Config = record c { frame = at_work c.frame c.frame.operands (code_of (drop arms.follows is)) c.frame.labels } in
      record {
        work = Chooses ty first second;
        frame = d.frame;
        stands = ap (λ code. stands_next c.frame code c.frame.operands c.frame.labels) (stands.running.frame.code ∙ code_of-choice is k.at ty arms here are);
        does = λ ruled.
            ap (λ os. reduction.on_operand (reduction.chosen ty first second) os d)
            (no_operands c.frame.operands (under c.frame (numbers_of c.below)) (subst (λ ws. Hold (reverse ws) (c.frame.operands ++ under c.frame (numbers_of c.below))) none stands.running.held));
      };
}

-- a label ends: no word moves
pub ends_label : (m : Module) (l : Label) (old new : Stacks) → old.frame.labels ≤ length new.labels.items → old.labels.items ≡ new.labels.items ++ l ∷ [] → new.frame ≡ record old.frame { at = l.follows } → new.frames.items ≡ old.frames.items → new.words.items ≡ old.words.items → EndsLabel m old new
ends_label m l old new inside labels frame frames words = record {
  by = λ c stands ended.
      let ks = reverse old.frames.items in
      let left = label_ends m old.frame ks new.labels.items l old.words.items c inside (subst (λ ls. AllStand m old.frame ks ls old.words.items c) labels stands) ended in
      record {
        next = left.next;
        stand =
            subst (λ x. AllStand m x (reverse new.frames.items) new.labels.items new.words.items left.next) (sym frame)
            (subst (λ x. AllStand m (record old.frame { at = l.follows }) (reverse x) new.labels.items new.words.items left.next) (sym frames)
            (subst (λ x. AllStand m (record old.frame { at = l.follows }) ks new.labels.items x left.next) (sym words) left.stand));
        same = left.same;
      };
}

-- a frame without labels ends, over another
pub ends_frame : (m : Module) (j : Frame) (fs : List Frame) (old new : Stacks) → old.frame.labels ≡ length old.labels.items → old.frames.items ≡ fs ++ j ∷ [] → ReturnsOn old.frame old.words.items new.words.items → new.frame ≡ j → new.frames.items ≡ fs → new.labels.items ≡ old.labels.items → EndsFrame m old true new
ends_frame m j fs old new none waits returns frame frames labels = record {
  on = λ is c stands ended.
      let turned : reverse old.frames.items ≡ j ∷ reverse fs = ap reverse waits ∙ reverse-append fs (j ∷ []) in
      let all = subst (λ ks. AllStand m old.frame ks old.labels.items old.words.items c) turned stands in
      let left = frame_ends m old.frame j (reverse fs) old.labels.items old.words.items new.words.items c all none ended returns in
      record {
        next = left.next;
        stand =
            subst (λ x. AllStand m x (reverse new.frames.items) new.labels.items new.words.items left.next) (sym frame)
            (subst (λ x. AllStand m j (reverse x) new.labels.items new.words.items left.next) (sym frames)
            (subst (λ x. AllStand m j (reverse fs) x new.words.items left.next) (sym labels) left.stand));
        same = left.same;
      };
  over = λ is. absurd (cc);
}

-- the outermost frame ends
pub ends_call : (m : Module) (old new : Stacks) → old.frame.labels ≡ length old.labels.items → old.frames.items ≡ [] → ReturnsOn old.frame old.words.items new.words.items → EndsFrame m old false new
ends_call m old new none waits returns = record {
  on = λ is. absurd (cc);
  over = λ is c stands ended.
      let all = subst (λ ks. AllStand m old.frame (reverse ks) old.labels.items old.words.items c) waits stands in
      call_ends m old.frame old.labels.items old.words.items new.words.items c all none ended returns;
}
