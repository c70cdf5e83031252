-- AllCalls: a function that is called, over the frame that calls it and those below.
use Rattle.std.proofs.Common.{◌≡◌, ℕ, ◌+◌, ◌-◌, ◌≤◌, Bool, true, false, List, [], ◌∷◌, ◌++◌, Some, None, length, take, drop, reverse, refl, sym, ap, subst, ◌∙◌, append_assoc, arith}
use Rattle.std.specs.Prelude.{nat_le, nat_lt, slice_get, if◌then◌else◌}
use Rattle.std.proofs.lemmas.Bool.{leb-true}
use Rattle.std.proofs.lemmas.List.{length-append, length-reverse, length-take, reverse-reverse, take-append-drop}
use Rattle.std.proofs.Math.Seq.{take-length}
use Rattle.zw_wasm.specs.declared.module.CodeBody.{CodeBody}
use Rattle.zw_wasm.specs.declared.module.FuncType.{FuncType}
use Rattle.zw_wasm.specs.declared.module.Module.{Module}
use Rattle.zw_wasm.specs.declared.num.Num.{Num}
use Rattle.zw_wasm.specs.Functions.{func_type}
use Rattle.zw_wasm.specs.Reduction as reduction
use Rattle.zw_wasm.specs.Reduction.{Action, CallsHost, Config, Traps, arity_of, called, enter, entered, frames_trap, max_frames, no_rule, with_operands}
use Rattle.zw_wasm.specs.Structure.{code_of, zeros}
use Rattle.zw_wasm_words.specs.declared.frame.Frame.{Frame}
use Rattle.zw_wasm_words.specs.declared.frame.Label.{Label}
use Rattle.zw_wasm_words.specs.Frames.{LabelsStand, numbers_of, under}
use Rattle.zw_wasm_words.specs.Operands.{IsRuled}
use Rattle.zw_wasm_words.specs.Words.{Hold, zero_words}
use Rattle.zw_wasm_words.proofs.Holding.{hold_length}
use Rattle.zw_wasm_run.specs.Running.{AllStand, FramesStand, GoesTo, body_of, instrs_in}
use Rattle.zw_wasm_run.proofs.EnterWords.{enters, zeros_held}
use Rattle.zw_wasm_run.proofs.LabelRuns.{words_count}
use Rattle.zw_wasm_run.proofs.AllFrames.{own_none}

-- how many frames wait, the host's among them
pub waits_count : (m : Module) (ks : List Frame) (labels : List Label) (fs : List reduction.Frame) → FramesStand m ks labels fs → length fs ≡ length ks + 1
waits_count m [] labels [] h = absurd h
waits_count m [] labels (f ∷ fs) h = ap length h.1
waits_count m (k ∷ ks) labels [] h = absurd h
waits_count m (k ∷ ks) labels (f ∷ fs) h = omega (arith, waits_count m ks (take k.labels labels) fs h.2)

-- a frame of a called function, over so many words and labels
abbrev pub frame_for : ℕ → ℕ → ℕ → ℕ → ℕ → Frame
frame_for body arity locals operands labels = record { body = body; arity = arity; at = 0; locals = locals; operands = operands; labels = labels }

-- the configuration in which a called function begins
abbrev pub entering : ℕ → ℕ → List Num → CodeBody → Config → Config
entering f arity args b c = record c {
  frame = record { func = f; arity = arity; locals = args ++ zeros b.locals; operands = []; code = code_of b.instrs; labels = [] };
  below = c.frame ∷ c.below;
}

-- its locals begin where its arguments do
enters_at : (m : Module) (k : Frame) (ks : List Frame) (labels : List Label) (old new : List ℕ) (c : Config) (f body arity params : ℕ) (b : CodeBody) → AllStand m k ks labels old c → slice_get m.codes body ≡ Some b → params ≤ length c.frame.operands → new ≡ old ++ zero_words b.locals → AllStand m (frame_for body arity (length old - params) (length new) (length labels)) (k ∷ ks) labels new (entering f arity (reverse (take params c.frame.operands)) b (with_operands (drop params c.frame.operands) c))
enters_at m k ks labels old new c f body arity params b all there few same =
    let os = c.frame.operands in
    let taken = take params os in
    let left = drop params os in
    let beneath = under c.frame (numbers_of c.below) in
    let lower = left ++ beneath in
    let args = reverse taken in
    let j = frame_for body arity (length old - params) (length new) (length labels) in
    let parts : os ++ beneath ≡ reverse args ++ lower =
    ap (λ vs. vs ++ beneath) (sym (take-append-drop params os)) ∙ append_assoc taken left beneath ∙ ap (λ vs. vs ++ lower) (sym (reverse-reverse taken)) in
    let held = enters old new args lower b.locals (subst (λ vs. Hold (reverse old) vs) parts all.running.held) same in
    let instrs : b.instrs ≡ body_of m body = sym (ap instrs_in there) in
    let words = words_count old (os ++ beneath) all.running.held in
    let whole = ap length (append_assoc taken left beneath) in
    let split = ap length (ap (λ vs. vs ++ beneath) (sym (take-append-drop params os)) ∙ append_assoc taken left beneath) in
    let two = length-append taken lower in
    let count = length-take params os in
    let first : length old - params ≡ length lower = omega (arith, words, split, two, count, few) in
    let more = ap length same ∙ length-append old (zero_words b.locals) in
    let zero_count = hold_length (zero_words b.locals) (zeros b.locals) (zeros_held b.locals) in
    let locals_count = length-append args (zeros b.locals) in
    let turned = length-reverse taken in
    let none = own_none (length labels) labels refl in
    let whole_labels : take (length labels) labels ≡ labels = take-length labels in
    record {
      running = record {
        frame = record {
          arity = refl;
          code = ap code_of instrs;
          labels = subst (λ own. LabelsStand (body_of m body) own [] (reverse (args ++ zeros b.locals) ++ lower)) (sym none) tt;
          locals = record { first = first; behind = omega (arith, words, split, two, count, few, more, zero_count, locals_count, turned) };
        };
        held = held;
      };
      inside = omega arith;
      below =
          subst (λ ls. FramesStand m (k ∷ ks) ls (record c.frame { operands = left } ∷ c.below)) (sym whole_labels) (
            record {
              arity = all.running.frame.arity;
              code = all.running.frame.code;
              labels = all.running.frame.labels;
              locals = record { first = all.running.frame.locals.first; behind = all.running.frame.locals.behind };
            },
            all.inside,
            all.below,
          );
    }

if_true : {A : Type 0} (b : Bool) (x y : A) → b ≡ true → (if b then x else y) ≡ x
if_true b x y e = ap (λ t. if t then x else y) e

if_false : {A : Type 0} (b : Bool) (x y : A) → b ≡ false → (if b then x else y) ≡ y
if_false b x y e = ap (λ t. if t then x else y) e

few_by : (b : Bool) (n k : ℕ) (x : Action) → nat_le n k ≡ b → IsRuled (if b then x else Traps no_rule) → n ≤ k
few_by true n k x e ruled = leb-true n k e
few_by false n k x e ruled = absurd (ruled refl)

-- a call takes its arguments, where there are as many operands
pub record TakesArguments (m : Module) (f : ℕ) (t : FuncType) (c : Config) : Type 0 where
  pub few : length t.params ≤ length c.frame.operands
  pub calls : called m f (func_type m f) c ≡ enter m f (reverse (take (length t.params) c.frame.operands)) (with_operands (drop (length t.params) c.frame.operands) c)

takes_by : (m : Module) (f : ℕ) (t : FuncType) (c : Config) (b : Bool) → func_type m f ≡ Some t → nat_le (length t.params) (length c.frame.operands) ≡ b → IsRuled (called m f (func_type m f) c) → TakesArguments m f t c
takes_by m f t c true e test ruled = record {
  few = leb-true (length t.params) (length c.frame.operands) test;
  calls = ap (λ o. called m f o c) e
      ∙ if_true (nat_le (length t.params) (length c.frame.operands)) (enter m f (reverse (take (length t.params) c.frame.operands)) (with_operands (drop (length t.params) c.frame.operands) c)) (Traps no_rule) test;
}
takes_by m f t c false e test ruled =
    absurd (ruled (ap (λ o. called m f o c) e
    ∙ if_false (nat_le (length t.params) (length c.frame.operands)) (enter m f (reverse (take (length t.params) c.frame.operands)) (with_operands (drop (length t.params) c.frame.operands) c)) (Traps no_rule) test))

pub takes_arguments : (m : Module) (f : ℕ) (t : FuncType) (c : Config) → func_type m f ≡ Some t → IsRuled (called m f (func_type m f) c) → TakesArguments m f t c
takes_arguments m f t c e ruled = takes_by m f t c (nat_le (length t.params) (length c.frame.operands)) e refl ruled

-- no rule applies to a call of a function that isn't there
pub no_function : (m : Module) (f : ℕ) (c : Config) → func_type m f ≡ None → called m f (func_type m f) c ≡ Traps no_rule
no_function m f c e = ap (λ o. called m f o c) e

-- a function that has a body is entered, where there may be a frame more
pub enter_goes : (m : Module) (f : ℕ) (args : List Num) (c : Config) → nat_lt f (length m.imports) ≡ false → nat_le max_frames (length c.below) ≡ false → enter m f args c ≡ entered (slice_get m.codes (f - length m.imports)) f (arity_of (func_type m f)) args c
enter_goes m f args c own room =
    if_false (nat_lt f (length m.imports)) (CallsHost f args c) (if nat_le max_frames (length c.below) then Traps frames_trap else entered (slice_get m.codes (f - length m.imports)) f (arity_of (func_type m f)) args c) own
    ∙ if_false (nat_le max_frames (length c.below)) (Traps frames_trap) (entered (slice_get m.codes (f - length m.imports)) f (arity_of (func_type m f)) args c) room

enter_overflows : (m : Module) (f : ℕ) (args : List Num) (c : Config) → nat_lt f (length m.imports) ≡ false → nat_le max_frames (length c.below) ≡ true → enter m f args c ≡ Traps frames_trap
enter_overflows m f args c own full =
    if_false (nat_lt f (length m.imports)) (CallsHost f args c) (if nat_le max_frames (length c.below) then Traps frames_trap else entered (slice_get m.codes (f - length m.imports)) f (arity_of (func_type m f)) args c) own
    ∙ if_true (nat_le max_frames (length c.below)) (Traps frames_trap) (entered (slice_get m.codes (f - length m.imports)) f (arity_of (func_type m f)) args c) full

pub enter_is_host : (m : Module) (f : ℕ) (args : List Num) (c : Config) → nat_lt f (length m.imports) ≡ true → enter m f args c ≡ CallsHost f args c
enter_is_host m f args c imported =
    if_true (nat_lt f (length m.imports)) (CallsHost f args c) (if nat_le max_frames (length c.below) then Traps frames_trap else entered (slice_get m.codes (f - length m.imports)) f (arity_of (func_type m f)) args c) imported

pub call_goes : (m : Module) (k : Frame) (ks : List Frame) (labels : List Label) (old new : List ℕ) (c : Config) (f : ℕ) (t : FuncType) (b : CodeBody) → AllStand m k ks labels old c → func_type m f ≡ Some t → IsRuled (called m f (func_type m f) c) → nat_lt f (length m.imports) ≡ false → nat_le max_frames (length ks + 1) ≡ false → slice_get m.codes (f - length m.imports) ≡ Some b → new ≡ old ++ zero_words b.locals → GoesTo m (called m f (func_type m f) c) (frame_for (f - length m.imports) (arity_of (func_type m f)) (length old - length t.params) (length new) (length labels)) (k ∷ ks) labels new c.world
call_goes m k ks labels old new c f t b all is ruled own room there same =
    let taken = takes_arguments m f t c is ruled in
    let args = reverse (take (length t.params) c.frame.operands) in
    let d = with_operands (drop (length t.params) c.frame.operands) c in
    let left : nat_le max_frames (length c.below) ≡ false = ap (nat_le max_frames) (waits_count m ks (take k.labels labels) c.below all.below) ∙ room in
    record {
      next = entering f (arity_of (func_type m f)) args b d;
      goes = taken.calls ∙ enter_goes m f args d own left ∙ ap (λ o. entered o f (arity_of (func_type m f)) args d) there;
      stand = enters_at m k ks labels old new c f (f - length m.imports) (arity_of (func_type m f)) (length t.params) b all there taken.few same;
      world = refl;
    }

-- past so many frames a call traps
pub call_overflows : (m : Module) (k : Frame) (ks : List Frame) (labels : List Label) (words : List ℕ) (c : Config) (f : ℕ) (t : FuncType) → AllStand m k ks labels words c → func_type m f ≡ Some t → IsRuled (called m f (func_type m f) c) → nat_lt f (length m.imports) ≡ false → nat_le max_frames (length ks + 1) ≡ true → called m f (func_type m f) c ≡ Traps frames_trap
call_overflows m k ks labels words c f t all is ruled own full =
    let taken = takes_arguments m f t c is ruled in
    taken.calls
    ∙ enter_overflows m f (reverse (take (length t.params) c.frame.operands)) (with_operands (drop (length t.params) c.frame.operands) c) own (ap (nat_le max_frames) (waits_count m ks (take k.labels labels) c.below all.below) ∙ full)

-- no rule applies to a call of a function without a body
pub no_body : (m : Module) (k : Frame) (ks : List Frame) (labels : List Label) (words : List ℕ) (c : Config) (f : ℕ) (t : FuncType) → AllStand m k ks labels words c → func_type m f ≡ Some t → IsRuled (called m f (func_type m f) c) → nat_lt f (length m.imports) ≡ false → nat_le max_frames (length ks + 1) ≡ false → slice_get m.codes (f - length m.imports) ≡ None → called m f (func_type m f) c ≡ Traps no_rule
no_body m k ks labels words c f t all is ruled own room none =
    let taken = takes_arguments m f t c is ruled in
    let args = reverse (take (length t.params) c.frame.operands) in
    let d = with_operands (drop (length t.params) c.frame.operands) c in
    taken.calls
    ∙ enter_goes m f args d own (ap (nat_le max_frames) (waits_count m ks (take k.labels labels) c.below all.below) ∙ room)
    ∙ ap (λ o. entered o f (arity_of (func_type m f)) args d) none
