-- Calling: calls of functions with a body, and instructions of one frame, on the stacks of a call.
use Rattle.std.proofs.Common.{◌≡◌, ℕ, ◌+◌, ◌-◌, ◌≤◌, ◌<◌, false, [], ◌∷◌, ◌++◌, Option, Some, None, length, reverse, refl, sym, ap, subst, ◌∙◌, arith}
use Rattle.std.specs.Prelude.{MatchOption, nat_le, slice_get}
use Rattle.std.proofs.lemmas.Bool.{le-leb, le-ltb, lt-leb}
use Rattle.std.proofs.lemmas.List.{length-append, length-reverse, reverse-append}
use Rattle.zw_wasm.specs.declared.module.CodeBody.{CodeBody}
use Rattle.zw_wasm.specs.declared.module.FuncType.{FuncType}
use Rattle.zw_wasm.specs.declared.module.Module.{Module}
use Rattle.zw_wasm.specs.Functions.{func_type}
use Rattle.zw_wasm.specs.Reduction.{Action, Config, arity_of, called, with_operands}
use Rattle.zw_wasm_words.specs.declared.effect.Effect.{Effect}
use Rattle.zw_wasm_words.specs.declared.effect.Effect.TheVariants as effect
use Rattle.zw_wasm_words.specs.Frames.{ActsInFrame, numbers_of, under, with_values}
use Rattle.zw_wasm_words.specs.Operands.{ActsOnWords}
use Rattle.zw_wasm_words.specs.Words.{zero_words}
use Rattle.zw_wasm_run.specs.declared.stacks.Stacks.{Stacks}
use Rattle.zw_wasm_run.specs.Running.{ActsOnStacks, body_of, own_labels}
use Rattle.zw_wasm_run.proofs.AllCalls.{call_goes, call_overflows, frame_for, no_body, no_function, takes_arguments}
use Rattle.zw_wasm_run.proofs.LabelRuns.{words_count}
use Rattle.zw_wasm_run.proofs.Stacked.{goes_as}
use Rattle.zw_wasm_run.proofs.Steps.{labels_over}

pub enters : (m : Module) (f : ℕ) (t : FuncType) (b : CodeBody) (old new : Stacks) → func_type m f ≡ Some t → length m.imports ≤ f → length old.frames.items + 1 < 2100 → slice_get m.codes (f - length m.imports) ≡ Some b → new.words.items ≡ old.words.items ++ zero_words b.locals → new.frames.items ≡ old.frames.items ++ old.frame ∷ [] → new.labels.items ≡ old.labels.items → new.frame ≡ frame_for (f - length m.imports) (arity_of (func_type m f)) (length old.words.items - length t.params) (length new.words.items) (length old.labels.items) → ActsOnStacks m (called m f (func_type m f)) old effect.Goes new
enters m f t b old new is own room there words frames labels frame = record {
  by = λ c stands ruled.
      let k = old.frame in
      let ks = reverse old.frames.items in
      let j = frame_for (f - length m.imports) (arity_of (func_type m f)) (length old.words.items - length t.params) (length new.words.items) (length old.labels.items) in
      let free : nat_le 2100 (length ks + 1) ≡ false = lt-leb 2100 (length ks + 1) (omega (arith, room, length-reverse old.frames.items)) in
      goes_as m (called m f (func_type m f) c) new j (k ∷ ks) old.labels.items new.words.items c.world frame (ap reverse frames ∙ reverse-append old.frames.items (k ∷ [])) labels refl
      (call_goes m k ks old.labels.items old.words.items new.words.items c f t b stands is ruled (le-ltb f (length m.imports) own) free there words);
}

pub overflows : (m : Module) (f : ℕ) (t : FuncType) (old new : Stacks) → func_type m f ≡ Some t → length m.imports ≤ f → 2100 ≤ length old.frames.items + 1 → ActsOnStacks m (called m f (func_type m f)) old (effect.Traps 7) new
overflows m f t old new is own full = record {
  by = λ c stands ruled.
      let ks = reverse old.frames.items in
      call_overflows m old.frame ks old.labels.items old.words.items c f t stands is ruled (le-ltb f (length m.imports) own) (le-leb 2100 (length ks + 1) (omega (arith, full, length-reverse old.frames.items)));
}

pub bodiless : (m : Module) (f : ℕ) (t : FuncType) (old new : Stacks) → func_type m f ≡ Some t → length m.imports ≤ f → length old.frames.items + 1 < 2100 → slice_get m.codes (f - length m.imports) ≡ None → ActsOnStacks m (called m f (func_type m f)) old (effect.Traps 0) new
bodiless m f t old new is own room none = record {
  by = λ c stands ruled.
      let ks = reverse old.frames.items in
      no_body m old.frame ks old.labels.items old.words.items c f t stands is ruled (le-ltb f (length m.imports) own) (lt-leb 2100 (length ks + 1) (omega (arith, room, length-reverse old.frames.items))) none;
}

pub absent : (m : Module) (f : ℕ) (old new : Stacks) → func_type m f ≡ None → ActsOnStacks m (called m f (func_type m f)) old (effect.Traps 0) new
absent m f old new none = record { by = λ c stands ruled. no_function m f c none }

pub too_few : (m : Module) (f : ℕ) (t : FuncType) (old new : Stacks) → func_type m f ≡ Some t → length old.words.items < length t.params → ActsOnStacks m (called m f (func_type m f)) old (effect.Traps 0) new
too_few m f t old new is short = record {
  by = λ c stands ruled.
      let taken = takes_arguments m f t c is ruled in
      let beneath = under c.frame (numbers_of c.below) in
      absurd (omega (arith, short, taken.few, words_count old.words.items (c.frame.operands ++ beneath) stands.running.held, length-append c.frame.operands beneath));
}

-- frames of equal parts
pub frame_as : {body arity locals operands labels body' arity' locals' operands' labels' : ℕ} → body ≡ body' → arity ≡ arity' → locals ≡ locals' → operands ≡ operands' → labels ≡ labels' → frame_for body arity locals operands labels ≡ frame_for body' arity' locals' operands' labels'
frame_as {body = b} {arity = a} {locals = l} {operands = o} {labels = k} {body' = b'} {arity' = a'} {locals' = l'} {operands' = o'} {labels' = k'} p q r s t =
    ap (λ x. frame_for x a l o k) p ∙ ap (λ x. frame_for b' x l o k) q ∙ ap (λ x. frame_for b' a' x o k) r ∙ ap (λ x. frame_for b' a' l' x k) s ∙ ap (λ x. frame_for b' a' l' o' x) t

-- an instruction on the operands of the frame that runs
pub on_words : (m : Module) (action : Config → Action) (old : Stacks) (e : Effect) (new : Stacks) → ActsOnWords action old.words.items e new.words.items → new.frame ≡ old.frame → new.frames.items ≡ old.frames.items → new.labels.items ≡ old.labels.items → ActsOnStacks m action old e new
on_words m action old (effect.Traps code) new acts frame frames labels = record { by = λ c stands ruled. acts.by c (under c.frame (numbers_of c.below)) stands.running.held ruled }
on_words m action old effect.Goes new acts frame frames labels = record {
  by = λ c stands ruled.
      let on = acts.by c (under c.frame (numbers_of c.below)) stands.running.held ruled in
      goes_as m (action c) new old.frame (reverse old.frames.items) old.labels.items new.words.items c.world frame (ap reverse frames) labels refl
      (record {
        next = with_operands on.operands c;
        goes = on.goes;
        stand = record {
          running = record {
            frame = record {
              arity = stands.running.frame.arity;
              code = stands.running.frame.code;
              labels = stands.running.frame.labels;
              locals = record { first = stands.running.frame.locals.first; behind = stands.running.frame.locals.behind };
            };
            held = on.held;
          };
          inside = stands.inside;
          below = stands.below;
        };
        world = refl;
      });
}

-- an instruction on its locals
pub on_locals : (m : Module) (action : Config → Action) (old : Stacks) (e : Effect) (new : Stacks) → ActsInFrame old.frame action old.words.items e new.words.items → new.frame ≡ old.frame → new.frames.items ≡ old.frames.items → new.labels.items ≡ old.labels.items → ActsOnStacks m action old e new
on_locals m action old (effect.Traps code) new acts frame frames labels = record {
  by = λ c stands ruled. acts.by c (numbers_of c.below) (record { first = stands.running.frame.locals.first; behind = stands.running.frame.locals.behind }) stands.running.held ruled;
}
on_locals m action old effect.Goes new acts frame frames labels = record {
  by = λ c stands ruled.
      let lower = numbers_of c.below in
      let on = acts.by c lower (record { first = stands.running.frame.locals.first; behind = stands.running.frame.locals.behind }) stands.running.held ruled in
      let count : length (reverse c.frame.locals ++ lower) ≡ length (reverse on.locals ++ lower) =
      omega (arith, length-append (reverse c.frame.locals) lower, length-reverse c.frame.locals, on.count, length-reverse on.locals, length-append (reverse on.locals) lower) in
      goes_as m (action c) new old.frame (reverse old.frames.items) old.labels.items new.words.items c.world frame (ap reverse frames) labels refl
      (record {
        next = with_values on.operands on.locals c;
        goes = on.goes;
        stand = record {
          running = record {
            frame = record {
              arity = stands.running.frame.arity;
              code = stands.running.frame.code;
              labels = labels_over (body_of m old.frame.body) (own_labels old.frame.labels old.labels.items) c.frame.labels (reverse c.frame.locals ++ lower) (reverse on.locals ++ lower) count stands.running.frame.labels;
              locals = record { first = stands.running.frame.locals.first; behind = stands.running.frame.locals.behind ∙ ap (λ n. length lower + n) (sym on.count) };
            };
            held = on.held;
          };
          inside = stands.inside;
          below = stands.below;
        };
        world = refl;
      });
}

-- what is known of an answer that is there
pub known : (P : Type 0) (Q : Effect → Type 0) (o : Option Effect) (e : Effect) → o ≡ Some e → MatchOption o P Q → Q e
known P Q None e is h = absurd (cc)
known P Q (Some x) e is h = let same : x ≡ e = cc in subst Q same h
