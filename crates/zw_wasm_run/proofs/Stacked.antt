-- Stacked: branches and returns on the stacks of a call.
use Rattle.std.proofs.Common.{◌≡◌, ℕ, zero, suc, ◌+◌, ◌-◌, ◌≤◌, ◌<◌, Bool, true, false, List, [], ◌∷◌, ◌++◌, Some, None, get_or, length, take, drop, reverse, refl, sym, ap, subst, ◌∙◌, arith, eq-eqb}
use Rattle.std.specs.Prelude.{nat_eq, slice_get, if◌then◌else◌}
use Rattle.std.proofs.lemmas.Bool.{ne_eqb}
use Rattle.std.proofs.lemmas.Grind.{take_at_read}
use Rattle.std.proofs.lemmas.List.{length-append, length-drop, length-reverse, length-take}
use Rattle.zw_wasm.specs.declared.module.Instr.{Instr}
use Rattle.zw_wasm.specs.declared.module.Module.{Module}
use Rattle.zw_wasm.specs.declared.num.Num.{Num}
use Rattle.zw_wasm.specs.Reduction as reduction
use Rattle.zw_wasm.specs.Reduction.{Action, Config, Traps, branched, branched_to, jumped, no_rule, returned}
use Rattle.zw_wasm_words.specs.declared.effect.Effect.{Effect}
use Rattle.zw_wasm_words.specs.declared.effect.Effect.TheVariants as effect
use Rattle.zw_wasm_words.specs.declared.frame.Frame.{Frame}
use Rattle.zw_wasm_words.specs.declared.frame.Label.{Label}
use Rattle.zw_wasm_words.specs.Frames.{BranchesOn, KeepsResults, LabelsStand, below_labels, numbers_of, under}
use Rattle.zw_wasm_words.specs.Operands.{IsRuled}
use Rattle.zw_wasm_words.proofs.BranchWords.{enough, label_at}
use Rattle.zw_wasm_words.proofs.Holding.{under_long}
use Rattle.zw_wasm_run.specs.declared.stacks.Stacks.{Stacks}
use Rattle.zw_wasm_run.specs.Running.{ActsOnStacks, AllStand, EndsSo, GoesTo, body_of, own_labels}
use Rattle.zw_wasm_run.proofs.AllFrames.{branch_goes, own_fewer, own_more, return_goes, returned_by}
use Rattle.zw_wasm_run.proofs.LabelRuns.{words_count}

-- stacks of these parts
pub goes_as : (m : Module) (a : Action) (new : Stacks) (k : Frame) (ks : List Frame) (labels : List Label) (words : List ℕ) (after : reduction.World) → new.frame ≡ k → reverse new.frames.items ≡ ks → new.labels.items ≡ labels → new.words.items ≡ words → GoesTo m a k ks labels words after → EndsSo m a effect.Goes new after
goes_as m a new k ks labels words after frame frames own held goes =
    subst (λ x. GoesTo m a x (reverse new.frames.items) new.labels.items new.words.items after) (sym frame)
    (subst (λ x. GoesTo m a k x new.labels.items new.words.items after) (sym frames)
    (subst (λ x. GoesTo m a k ks x new.words.items after) (sym own) (subst (λ x. GoesTo m a k ks labels x after) (sym held) goes)))

first_behind : {A : Type 0} (n : ℕ) (xs ys : List A) (x : A) → drop n xs ≡ x ∷ ys → slice_get xs n ≡ Some x
first_behind zero [] ys x e = absurd (cc)
first_behind (suc n) [] ys x e = absurd (cc)
first_behind zero (y ∷ xs) ys x e = cc
first_behind (suc n) (y ∷ xs) ys x e = first_behind n xs ys x e

-- a label by its number, at its place
pub own_at : (k n : ℕ) (labels : List Label) (l : Label) → k + suc n ≤ length labels → l ≡ get_or labels (length labels - 1 - n) l → slice_get (own_labels k labels) n ≡ Some l
own_at k n labels l inside is =
    let j = length labels - 1 - n in
    let left = take j labels in
    let read = (take_at_read labels j l (omega (arith, inside))).1 in
    let count = length-take j labels in
    let place : length labels - n ≡ j + 1 = omega (arith, inside) in
    first_behind n (own_labels k labels) (own_labels k left) l
    (sym (own_fewer k n labels (omega (arith, inside)))
    ∙ ap (λ i. own_labels k (take i labels)) place ∙ ap (own_labels k) read
    ∙ ap (λ x. own_labels k (left ++ x ∷ [])) (sym is)
    ∙ own_more k left l (omega (arith, count, inside)))

-- where a rule applies to a branch, what it takes lies above what is below its label
branch_fits : (m : Module) (k : Frame) (ks : List Frame) (labels : List Label) (words : List ℕ) (c : Config) (n : ℕ) (l : Label) → AllStand m k ks labels words c → slice_get (own_labels k.labels labels) n ≡ Some l → IsRuled (branched n c) → l.height + l.arity ≤ length words
branch_fits m k ks labels words c n l all there ruled =
    let lower = reverse c.frame.locals ++ numbers_of c.below in
    let at = label_at (body_of m k.body) n (own_labels k.labels labels) l c.frame.labels lower there all.running.frame.labels in
    let is : branched n c ≡ jumped at.label n c = ap (λ o. branched_to o n c) at.there in
    let few = enough at.label n c _ refl (λ e. ruled (is ∙ e)) in
    let count = words_count words (c.frame.operands ++ under c.frame (numbers_of c.below)) all.running.held in
    let two = length-append c.frame.operands (under c.frame (numbers_of c.below)) in
    let parts = ap length at.parts ∙ length-append at.above (below_labels (at.label ∷ drop (suc n) c.frame.labels) lower) in
    omega (arith, few, count, two, parts, at.stands.words, at.stands.arity)

pub jump_traps : (m : Module) (n : ℕ) (l : Label) (old new : Stacks) → slice_get (own_labels old.frame.labels old.labels.items) n ≡ Some l → length old.words.items < l.height + l.arity → ActsOnStacks m (branched n) old (effect.Traps 0) new
jump_traps m n l old new there short = record {
  by = λ c stands ruled.
      let fit = branch_fits m old.frame (reverse old.frames.items) old.labels.items old.words.items c n l stands there ruled in
      absurd (omega (arith, fit, short));
}

pub jump_goes : (m : Module) (n : ℕ) (l : Label) (old new : Stacks) → slice_get (own_labels old.frame.labels old.labels.items) n ≡ Some l → BranchesOn l old.words.items new.words.items → new.frame ≡ record old.frame { at = l.target } → new.frames.items ≡ old.frames.items → new.labels.items ≡ take (length old.labels.items - suc n) old.labels.items → ActsOnStacks m (branched n) old effect.Goes new
jump_goes m n l old new there branches frame frames labels = record {
  by = λ c stands ruled.
      goes_as m (branched n c) new (record old.frame { at = l.target }) (reverse old.frames.items) (take (length old.labels.items - suc n) old.labels.items) new.words.items c.world
      frame (ap reverse frames) labels refl
      (branch_goes m old.frame (reverse old.frames.items) old.labels.items l old.words.items new.words.items n c stands there ruled branches);
}

-- where a rule applies to a return, its results lie above the locals
return_fits : (m : Module) (k : Frame) (ks : List Frame) (labels : List Label) (words : List ℕ) (c : Config) → AllStand m k ks labels words c → IsRuled (returned c) → k.operands + k.arity ≤ length words
return_fits m k ks labels words c all ruled =
    let r = returned_by c _ refl ruled in
    let lower = numbers_of c.below in
    let count = words_count words (c.frame.operands ++ under c.frame lower) all.running.held in
    let two = length-append c.frame.operands (under c.frame lower) in
    omega (arith, r.few, count, two, under_long c.frame.labels c.frame.locals lower, all.running.frame.locals.behind, all.running.frame.arity)

pub return_traps : (m : Module) (old new : Stacks) → length old.words.items < old.frame.operands + old.frame.arity → ActsOnStacks m returned old (effect.Traps 0) new
return_traps m old new short = record {
  by = λ c stands ruled.
      let fit = return_fits m old.frame (reverse old.frames.items) old.labels.items old.words.items c stands ruled in
      absurd (omega (arith, fit, short));
}

pub give_back_goes : (m : Module) (end : ℕ) (old new : Stacks) → length (body_of m old.frame.body) ≤ end → KeepsResults old.frame old.words.items new.words.items → new.frame ≡ record old.frame { at = end } → new.frames.items ≡ old.frames.items → new.labels.items ≡ take old.frame.labels old.labels.items → ActsOnStacks m returned old effect.Goes new
give_back_goes m end old new behind keeps frame frames labels = record {
  by = λ c stands ruled.
      goes_as m (returned c) new (record old.frame { at = end }) (reverse old.frames.items) (take old.frame.labels old.labels.items) new.words.items c.world
      frame (ap reverse frames) labels refl
      (return_goes m old.frame (reverse old.frames.items) old.labels.items old.words.items new.words.items end c stands behind ruled keeps);
}

-- a frame has as many labels in the configuration
pub labels_count : (instrs : List Instr) (ks : List Label) (ls : List reduction.Label) (lower : List Num) → LabelsStand instrs ks ls lower → length ls ≡ length ks
labels_count instrs [] [] lower h = refl
labels_count instrs [] (l ∷ ls) lower h = absurd h
labels_count instrs (k ∷ ks) [] lower h = absurd h
labels_count instrs (k ∷ ks) (l ∷ ls) lower h = omega (arith, labels_count instrs ks ls lower h.1)

own_count : (m : Module) (k : Frame) (ks : List Frame) (labels : List Label) (words : List ℕ) (c : Config) → AllStand m k ks labels words c → length c.frame.labels ≡ length labels - k.labels
own_count m k ks labels words c all =
    labels_count (body_of m k.body) (own_labels k.labels labels) c.frame.labels (reverse c.frame.locals ++ numbers_of c.below) all.running.frame.labels
    ∙ length-reverse (drop k.labels labels) ∙ length-drop k.labels labels

none_behind : {A : Type 0} (n : ℕ) (xs : List A) → length xs ≤ n → slice_get xs n ≡ None
none_behind zero [] h = refl
none_behind (suc n) [] h = refl
none_behind zero (x ∷ xs) h = absurd (omega (arith, h))
none_behind (suc n) (x ∷ xs) h = none_behind n xs (omega (arith, h))

outside : (n : ℕ) (c : Config) (b : Bool) → length c.frame.labels ≤ n → nat_eq n (length c.frame.labels) ≡ b → branched n c ≡ (if b then returned c else Traps no_rule)
outside n c b h e = ap (λ o. branched_to o n c) (none_behind n c.frame.labels h) ∙ ap (λ t. if t then returned c else Traps no_rule) e

-- a branch to the body's label returns, and past it no rule applies
pub branch_returns : (m : Module) (n : ℕ) (e : Effect) (old new : Stacks) → n ≡ length old.labels.items - old.frame.labels → ActsOnStacks m returned old e new → ActsOnStacks m (branched n) old e new
branch_returns m n e old new last acts = record {
  by = λ c stands ruled.
      let count = own_count m old.frame (reverse old.frames.items) old.labels.items old.words.items c stands in
      let same : n ≡ length c.frame.labels = last ∙ sym count in
      let is = outside n c true (omega (arith, same)) (eq-eqb n (length c.frame.labels) same) in
      subst (λ a. EndsSo m a e new c.world) (sym is) (acts.by c stands (λ x. ruled (is ∙ x)));
}

pub branch_traps : (m : Module) (n : ℕ) (old new : Stacks) → length old.labels.items - old.frame.labels < n → ActsOnStacks m (branched n) old (effect.Traps 0) new
branch_traps m n old new past = record {
  by = λ c stands ruled.
      let count = own_count m old.frame (reverse old.frames.items) old.labels.items old.words.items c stands in
      outside n c false (omega (arith, count, past)) (ne_eqb n (length c.frame.labels) (λ e. absurd (omega (arith, count, past, e))));
}
