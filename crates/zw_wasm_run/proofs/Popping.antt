-- Popping: instructions that take an operand before they branch.
use Rattle.std.proofs.Common.{◌≡◌, ℕ, ◌%◌, ◌^◌, false, List, [], ◌∷◌, ◌++◌, reverse, refl, sym, ap, subst, ◌∙◌}
use Rattle.std.specs.Prelude.{nat_eq, slice_get, if◌then◌else◌}
use Rattle.zw_wasm.specs.declared.module.Module.{Module}
use Rattle.zw_wasm.specs.declared.module.ValType.TheVariants as ty
use Rattle.zw_wasm.specs.declared.num.Num.{Num}
use Rattle.zw_wasm.specs.declared.num.Num.TheVariants.{I32, I64}
use Rattle.zw_wasm.specs.Reduction.{Action, Config, Goes, branched, branched_by, branched_unless_zero, label_or, on_one, with_operands}
use Rattle.zw_wasm_words.specs.declared.effect.Effect.{Effect}
use Rattle.zw_wasm_words.specs.declared.effect.Effect.TheVariants as effect
use Rattle.zw_wasm_words.specs.declared.frame.Frame.{Frame}
use Rattle.zw_wasm_words.specs.declared.frame.Label.{Label}
use Rattle.zw_wasm_words.specs.Frames.{numbers_of, under}
use Rattle.zw_wasm_words.specs.Operands.{IsRuled}
use Rattle.zw_wasm_words.specs.Words.{Hold}
use Rattle.zw_wasm_words.proofs.Shapes.{last_first}
use Rattle.zw_wasm_run.specs.declared.stacks.Stacks.{Stacks}
use Rattle.zw_wasm_run.specs.Running.{ActsOnStacks, AllStand, EndsSo, StacksStand}
use Rattle.zw_wasm_run.proofs.Stepping.{no_operands}

-- stacks of these parts stand
pub stand_as : (m : Module) (s : Stacks) (k : Frame) (ks : List Frame) (labels : List Label) (words : List ℕ) (c : Config) → s.frame ≡ k → reverse s.frames.items ≡ ks → s.labels.items ≡ labels → s.words.items ≡ words → AllStand m k ks labels words c → StacksStand m s c
stand_as m s k ks labels words c frame frames own held all =
    subst (λ x. AllStand m x (reverse s.frames.items) s.labels.items s.words.items c) (sym frame)
    (subst (λ x. AllStand m k x s.labels.items s.words.items c) (sym frames)
    (subst (λ x. AllStand m k ks x s.words.items c) (sym own) (subst (λ x. AllStand m k ks labels x c) (sym held) all)))

-- an instruction takes its operand, and acts on what is left
pub record Popped (m : Module) (mid : Stacks) (w : ℕ) (go : ℕ → Config → Action) (os : List Num) (c : Config) : Type 0 where
  pub next : Config
  pub stand : StacksStand m mid next
  pub acts : on_one ty.I32 go os c ≡ go (w % 2 ^ 32) next
  pub world : next.world ≡ c.world

fewer : (m : Module) (k : Frame) (ks : List Frame) (labels : List Label) (words : List ℕ) (w : ℕ) (c : Config) (rest : List Num) → AllStand m k ks labels (words ++ w ∷ []) c → Hold (reverse words) (rest ++ under c.frame (numbers_of c.below)) → AllStand m k ks labels words (with_operands rest c)
fewer m k ks labels words w c rest all held = record {
  running = record {
    frame = record {
      arity = all.running.frame.arity;
      code = all.running.frame.code;
      labels = all.running.frame.labels;
      locals = record { first = all.running.frame.locals.first; behind = all.running.frame.locals.behind };
    };
    held = held;
  };
  inside = all.inside;
  below = all.below;
}

popped_on : (m : Module) (old mid : Stacks) (w : ℕ) (go : ℕ → Config → Action) (os : List Num) (c : Config) → mid.frame ≡ old.frame → mid.frames.items ≡ old.frames.items → mid.labels.items ≡ old.labels.items → AllStand m old.frame (reverse old.frames.items) old.labels.items (mid.words.items ++ w ∷ []) c → Hold (w ∷ reverse mid.words.items) (os ++ under c.frame (numbers_of c.below)) → IsRuled (on_one ty.I32 go os c) → Popped m mid w go os c
popped_on m old mid w go [] c frame frames labels all h ruled = absurd (ruled refl)
popped_on m old mid w go (I64 n ∷ rest) c frame frames labels all h ruled = absurd (ruled refl)
popped_on m old mid w go (I32 n ∷ rest) c frame frames labels all h ruled = record {
  next = with_operands rest c;
  stand = stand_as m mid old.frame (reverse old.frames.items) old.labels.items mid.words.items (with_operands rest c) frame (ap reverse frames) labels refl (fewer m old.frame (reverse old.frames.items) old.labels.items mid.words.items w c rest all h.1);
  acts = ap (λ x. go x (with_operands rest c)) h.0;
  world = refl;
}

pub popped : (m : Module) (old mid : Stacks) (w : ℕ) (go : ℕ → Config → Action) (c : Config) → mid.frame ≡ old.frame → mid.frames.items ≡ old.frames.items → mid.labels.items ≡ old.labels.items → old.words.items ≡ mid.words.items ++ w ∷ [] → StacksStand m old c → IsRuled (on_one ty.I32 go c.frame.operands c) → Popped m mid w go c.frame.operands c
popped m old mid w go c frame frames labels words stands ruled =
    popped_on m old mid w go c.frame.operands c frame frames labels
    (subst (λ ws. AllStand m old.frame (reverse old.frames.items) old.labels.items ws c) words stands)
    (subst (λ ws. Hold ws (c.frame.operands ++ under c.frame (numbers_of c.below))) (last_first old.words.items mid.words.items w words) stands.running.held) ruled

-- an action behind its operand
pub behind_operand : (m : Module) (old mid : Stacks) (w : ℕ) (go : ℕ → Config → Action) (e : Effect) (new : Stacks) → mid.frame ≡ old.frame → mid.frames.items ≡ old.frames.items → mid.labels.items ≡ old.labels.items → old.words.items ≡ mid.words.items ++ w ∷ [] → ActsOnStacks m (go (w % 2 ^ 32)) mid e new → ActsOnStacks m (λ c. on_one ty.I32 go c.frame.operands c) old e new
behind_operand m old mid w go e new frame frames labels words acts = record {
  by = λ c stands ruled.
      let p = popped m old mid w go c frame frames labels words stands ruled in
      subst (λ a. EndsSo m a e new c.world) (sym p.acts)
      (subst (λ x. EndsSo m (go (w % 2 ^ 32) p.next) e new x) p.world (acts.by p.next p.stand (λ x. ruled (p.acts ∙ x))));
}

-- no rule applies without an operand
pub without_operand : (m : Module) (old : Stacks) (go : ℕ → Config → Action) (new : Stacks) → old.words.items ≡ [] → ActsOnStacks m (λ c. on_one ty.I32 go c.frame.operands c) old (effect.Traps 0) new
without_operand m old go new none = record {
  by = λ c stands ruled.
      let beneath = under c.frame (numbers_of c.below) in
      ap (λ os. on_one ty.I32 go os c) (no_operands c.frame.operands beneath (subst (λ ws. Hold (reverse ws) (c.frame.operands ++ beneath)) none stands.running.held));
}

-- a branch that isn't taken, and one that is
pub stays_here : (m : Module) (n x : ℕ) (s : Stacks) → x ≡ 0 → ActsOnStacks m (branched_unless_zero n x) s effect.Goes s
stays_here m n x s zero = record {
  by = λ c stands ruled. record { next = c; goes = ap (λ k. branched_unless_zero n k c) zero; stand = stands; world = refl };
}

pub branches_if : (m : Module) (n x : ℕ) (old : Stacks) (e : Effect) (new : Stacks) → nat_eq x 0 ≡ false → ActsOnStacks m (branched n) old e new → ActsOnStacks m (branched_unless_zero n x) old e new
branches_if m n x old e new some acts = record {
  by = λ c stands ruled.
      let is : branched_unless_zero n x c ≡ branched n c = ap (λ b. if b then Goes c else branched n c) some in
      subst (λ a. EndsSo m a e new c.world) (sym is) (acts.by c stands (λ z. ruled (is ∙ z)));
}

-- a branch by its number in a table
pub branches_by : (m : Module) (labels : List ℕ) (default x n : ℕ) (old : Stacks) (e : Effect) (new : Stacks) → n ≡ label_or default (slice_get labels x) → ActsOnStacks m (branched n) old e new → ActsOnStacks m (branched_by labels default x) old e new
branches_by m labels default x n old e new is acts = subst (λ k. ActsOnStacks m (branched k) old e new) is acts
