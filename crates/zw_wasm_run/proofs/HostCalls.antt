-- HostCalls: calls of functions of the host, on the stacks of a call.
use Rattle.std.proofs.Common.{◌≡◌, ℕ, ◌-◌, ◌^◌, ◌<◌, ◌≤◌, List, [], ◌∷◌, ◌++◌, Option, Some, None, length, take, drop, map, reverse, refl, sym, ap, subst, ◌∙◌, arith}
use Rattle.std.proofs.lemmas.Bool.{lt-ltb}
use Rattle.std.proofs.lemmas.List.{length-append, length-drop, length-reverse, reverse-append, reverse-reverse, take-append-drop, take-append-le, drop-append-le}
use Rattle.std.proofs.Math.Seq.{drop-append_seam, take-append_seam}
use Rattle.std.proofs.Math.Nat.{mod-eq_of_lt}
use Rattle.zw_wasm.specs.declared.module.FuncType.{FuncType}
use Rattle.zw_wasm.specs.declared.module.Module.{Module}
use Rattle.zw_wasm.specs.declared.module.ValType.{ValType}
use Rattle.zw_wasm.specs.declared.module.ValType.TheVariants as ty
use Rattle.zw_wasm.specs.declared.num.Num.{Num}
use Rattle.zw_wasm.specs.Functions.{func_type}
use Rattle.zw_wasm.specs.ModuleMachine.{param_types}
use Rattle.zw_wasm.specs.Reduction.{CallsHost, Config, Step, World, called, pushed, resolved, result_of, with_operands, with_world}
use Rattle.zw_wasm.specs.Structure.{num_of}
use Rattle.zw_wasm_words.specs.declared.frame.Frame.{Frame}
use Rattle.zw_wasm_words.specs.declared.frame.Label.{Label}
use Rattle.zw_wasm_words.specs.Frames.{numbers_of, under}
use Rattle.zw_wasm_words.specs.Operands.{IsRuled}
use Rattle.zw_wasm_words.specs.Words.{Hold, Holds}
use Rattle.zw_wasm_words.proofs.Holding.{hold_drop, hold_reverse, hold_take}
use Rattle.zw_wasm_run.specs.declared.ask.Answer.{Answer}
use Rattle.zw_wasm_run.specs.declared.ask.Answer.TheVariants as answer
use Rattle.zw_wasm_run.specs.declared.host.Hosted.{Hosted}
use Rattle.zw_wasm_run.specs.declared.host.Hosted.TheVariants as hosted
use Rattle.zw_wasm_run.specs.declared.machine.Show.{Show}
use Rattle.zw_wasm_run.specs.declared.stacks.Stacks.{Stacks}
use Rattle.zw_wasm_run.specs.Hosting.{AnswersSo, ArgsFit, AsksHost, CallsHostOn, GoesOnWith, HasReply, HostEnds, HostState, answered, numbers_held, world_in}
use Rattle.zw_wasm_run.specs.Naming.{named}
use Rattle.zw_wasm_run.specs.Running.{AllStand, StacksStand}
use Rattle.zw_wasm_run.specs.Premises.{type_of}
use Rattle.zw_wasm_run.proofs.Asking.{kept}
use Rattle.zw_wasm_run.proofs.AllCalls.{enter_is_host, no_function, takes_arguments}
use Rattle.zw_wasm_run.proofs.LabelRuns.{words_count}
use Rattle.zw_wasm_run.proofs.Naming.{same_called}
use Rattle.zw_wasm_run.proofs.ShownParts.{append_none, numbers_are}

-- ---- the last words, and those before them

pub last_words : (n : ℕ) (xs : List ℕ) → n ≤ length xs → reverse (take n (reverse xs)) ≡ drop (length xs - n) xs
last_words n xs few =
    let j = length xs - n in
    let back = reverse (drop j xs) in
    let count : length back ≡ n = omega (arith, length-reverse (drop j xs), length-drop j xs, few) in
    ap (λ l. reverse (take n (reverse l))) (sym (take-append-drop j xs))
    ∙ ap (λ l. reverse (take n l)) (reverse-append (take j xs) (drop j xs))
    ∙ ap (λ k. reverse (take k (back ++ reverse (take j xs)))) (sym count)
    ∙ ap reverse (take-append_seam back (reverse (take j xs))) ∙ reverse-reverse (drop j xs)

pub words_before : (n : ℕ) (xs : List ℕ) → n ≤ length xs → drop n (reverse xs) ≡ reverse (take (length xs - n) xs)
words_before n xs few =
    let j = length xs - n in
    let back = reverse (drop j xs) in
    let count : length back ≡ n = omega (arith, length-reverse (drop j xs), length-drop j xs, few) in
    ap (λ l. drop n (reverse l)) (sym (take-append-drop j xs))
    ∙ ap (drop n) (reverse-append (take j xs) (drop j xs))
    ∙ ap (λ k. drop k (back ++ reverse (take j xs))) (sym count) ∙ drop-append_seam back (reverse (take j xs))

-- ---- the call

-- the words of the arguments, and the numbers that they hold
abbrev pub arg_words : FuncType → List ℕ → List ℕ
arg_words t words = drop (length words - length t.params) words

abbrev pub args_of : FuncType → List ℕ → List Num
args_of t words = numbers_held t.params (arg_words t words)

-- the configuration without the arguments
abbrev pub without_args : FuncType → Config → Config
without_args t c = with_operands (drop (length t.params) c.frame.operands) c

pub record HostCall (m : Module) (import : ℕ) (t : FuncType) (words : List ℕ) (c : Config) : Type 0 where
  pub few : length t.params ≤ length c.frame.operands
  pub fits : length t.params ≤ length words
  pub calls : called m import (func_type m import) c ≡ CallsHost import (args_of t words) (without_args t c)

pub host_call : (m : Module) (import : ℕ) (t : FuncType) (k : Frame) (ks : List Frame) (labels : List Label) (words : List ℕ) (c : Config) → AllStand m k ks labels words c → func_type m import ≡ Some t → import < length m.imports → IsRuled (called m import (func_type m import) c) → ArgsFit m (called m import (func_type m import) c) → HostCall m import t words c
host_call m import t k ks labels words c all is imported ruled fit =
    let n = length t.params in
    let os = c.frame.operands in
    let beneath = under c.frame (numbers_of c.below) in
    let taken = takes_arguments m import t c is ruled in
    let args = reverse (take n os) in
    let calls : called m import (func_type m import) c ≡ CallsHost import args (without_args t c) =
    taken.calls ∙ enter_is_host m import args (without_args t c) (lt-ltb import (length m.imports) imported) in
    let types : map type_of args ≡ t.params = subst (ArgsFit m) calls fit ∙ ap param_types is in
    let count = words_count words (os ++ beneath) all.running.held in
    let whole = length-append os beneath in
    let fits : n ≤ length words = omega (arith, taken.few, count, whole) in
    let held : Hold (take n (reverse words)) (take n os) =
    subst (λ vs. Hold (take n (reverse words)) vs) (take-append-le n os beneath taken.few) (hold_take n (reverse words) (os ++ beneath) all.running.held) in
    let turned : Hold (arg_words t words) args = subst (λ ws. Hold ws args) (last_words n words fits) (hold_reverse (take n (reverse words)) (take n os) held) in
    let are : args ≡ args_of t words = numbers_are t.params (arg_words t words) args turned types in
    record { few = taken.few; fits = fits; calls = calls ∙ ap (λ xs. CallsHost import xs (without_args t c)) are }

-- ---- the stacks

without_args_stand : (m : Module) (t : FuncType) (k : Frame) (ks : List Frame) (labels : List Label) (words : List ℕ) (c : Config) → AllStand m k ks labels words c → length t.params ≤ length c.frame.operands → length t.params ≤ length words → AllStand m k ks labels (take (length words - length t.params) words) (without_args t c)
without_args_stand m t k ks labels words c all few fits =
    let n = length t.params in
    let os = c.frame.operands in
    let beneath = under c.frame (numbers_of c.below) in
    record {
      running = record {
        frame = record {
          arity = all.running.frame.arity;
          code = all.running.frame.code;
          labels = all.running.frame.labels;
          locals = record { first = all.running.frame.locals.first; behind = all.running.frame.locals.behind };
        };
        held =
            subst (λ ws. Hold ws (drop n os ++ beneath)) (words_before n words fits)
            (subst (λ vs. Hold (drop n (reverse words)) vs) (drop-append-le n os beneath few) (hold_drop n (reverse words) (os ++ beneath) all.running.held));
      };
      inside = all.inside;
      below = all.below;
    }

pushed_stand : (m : Module) (k : Frame) (ks : List Frame) (labels : List Label) (words : List ℕ) (c : Config) (r : ℕ) (x : Num) → AllStand m k ks labels words c → Holds r x → AllStand m k ks labels (words ++ r ∷ []) (pushed x c)
pushed_stand m k ks labels words c r x all holds = record {
  running = record {
    frame = record {
      arity = all.running.frame.arity;
      code = all.running.frame.code;
      labels = all.running.frame.labels;
      locals = record { first = all.running.frame.locals.first; behind = all.running.frame.locals.behind };
    };
    held = subst (λ ws. Hold ws (x ∷ c.frame.operands ++ under c.frame (numbers_of c.below))) (sym (reverse-append words (r ∷ []))) (holds, all.running.held);
  };
  inside = all.inside;
  below = all.below;
}

-- stacks stand for a configuration in any world
pub stand_in_world : (m : Module) (k : Frame) (ks : List Frame) (labels : List Label) (words : List ℕ) (c : Config) (w : World) → AllStand m k ks labels words c → AllStand m k ks labels words (with_world w c)
stand_in_world m k ks labels words c w all = record {
  running = record {
    frame = record {
      arity = all.running.frame.arity;
      code = all.running.frame.code;
      labels = all.running.frame.labels;
      locals = record { first = all.running.frame.locals.first; behind = all.running.frame.locals.behind };
    };
    held = all.running.held;
  };
  inside = all.inside;
  below = all.below;
}

reply_holds : (t : ValType) (r : ℕ) → r < 2 ^ 64 → Holds r (num_of t r)
reply_holds ty.I32 r below = refl
reply_holds ty.I64 r below = mod-eq_of_lt below

-- the words of a reply, where there is a result
abbrev pub reply_words : Option ℕ → List ℕ
reply_words None = []
reply_words (Some r) = r ∷ []

answered_stand : (m : Module) (t : Option ValType) (reply : Option ℕ) (k : Frame) (ks : List Frame) (labels : List Label) (words : List ℕ) (c : Config) → HasReply t reply → AllStand m k ks labels words c → AllStand m k ks labels (words ++ reply_words reply) (answered t reply c)
answered_stand m None None k ks labels words c has all = subst (λ ws. AllStand m k ks labels ws c) (sym (append_none words)) all
answered_stand m None (Some r) k ks labels words c has all = absurd has
answered_stand m (Some t) None k ks labels words c has all = absurd has
answered_stand m (Some t) (Some r) k ks labels words c has all = pushed_stand m k ks labels words c r (num_of t r) all (reply_holds t r has)

-- stacks of these parts stand for a configuration
pub stands_as : (m : Module) (new : Stacks) (k : Frame) (ks : List Frame) (labels : List Label) (words : List ℕ) (c : Config) → new.frame ≡ k → reverse new.frames.items ≡ ks → new.labels.items ≡ labels → new.words.items ≡ words → AllStand m k ks labels words c → StacksStand m new c
stands_as m new k ks labels words c frame frames own held all =
    subst (λ x. AllStand m x (reverse new.frames.items) new.labels.items new.words.items c) (sym frame)
    (subst (λ x. AllStand m k x new.labels.items new.words.items c) (sym frames)
    (subst (λ x. AllStand m k ks x new.words.items c) (sym own) (subst (λ x. AllStand m k ks labels x c) (sym held) all)))

-- ---- how a call ends

-- the effect of an answer
abbrev pub hosted_of : Answer → Hosted
hosted_of (answer.Goes reply) = hosted.Goes
hosted_of answer.Outside = hosted.Traps 2
hosted_of answer.NoReply = hosted.WantsReply

-- the words behind an answer
abbrev pub IsAnswered : FuncType → Answer → List ℕ → List ℕ → Type 0
IsAnswered t (answer.Goes reply) old new = new ≡ take (length old - length t.params) old ++ reply_words reply
IsAnswered t _ old new = Unit {0}

ends_so : (m : Module) (import : ℕ) (t : FuncType) (a : Answer) (s : Step) (old new : Stacks) (c : Config) (after : World) → func_type m import ≡ Some t → StacksStand m old c → HostCall m import t old.words.items c → new.frame ≡ old.frame → new.frames.items ≡ old.frames.items → new.labels.items ≡ old.labels.items → IsAnswered t a old.words.items new.words.items → AnswersSo t.result s (without_args t c) a after → HostEnds m import c s (hosted_of a) new after
ends_so m import t (answer.Goes reply) s old new c after is stand call frame frames labels words so =
    let ws = old.words.items in
    let ks = reverse old.frames.items in
    let lower = take (length ws - length t.params) ws in
    let d = with_world after (without_args t c) in
    let on : GoesOnWith m import t.result c s new after = record {
      given = args_of t ws;
      waits = without_args t c;
      reply = reply;
      calls = call.calls;
      kept = refl;
      has = so.0;
      goes = so.1;
      stand = stands_as m new old.frame ks old.labels.items (lower ++ reply_words reply) (answered t.result reply d) frame (ap reverse frames) labels words
          (answered_stand m t.result reply old.frame ks old.labels.items lower d so.0
          (stand_in_world m old.frame ks old.labels.items lower (without_args t c) after (without_args_stand m t old.frame ks old.labels.items ws c stand call.few call.fits)));
    } in
    subst (λ o. GoesOnWith m import (result_of o) c s new after) (sym is) on
ends_so m import t answer.Outside s old new c after is stand call frame frames labels words so = so
ends_so m import t answer.NoReply s old new c after is stand call frame frames labels words so = so

pub host_ends : (m : Module) (shows : List Show) (import : ℕ) (t : FuncType) (memory : List ℕ) (old new : Stacks) (before after : HostState) (a : Answer) → func_type m import ≡ Some t → import < length m.imports → AsksHost m shows import t memory (args_of t old.words.items) before a after → new.frame ≡ old.frame → new.frames.items ≡ old.frames.items → new.labels.items ≡ old.labels.items → IsAnswered t a old.words.items new.words.items → CallsHostOn m shows import memory old before (hosted_of a) new after
host_ends m shows import t memory old new before after a is imported asks frame frames labels words = record {
  grows = asks.grows;
  by = λ names v store first c to same inside world stand ruled fit.
      let call = host_call m import t old.frame (reverse old.frames.items) old.labels.items old.words.items c stand is imported ruled fit in
      ends_so m import t a (resolved (named names m) v c.world (called (named names m) import (func_type (named names m) import) c)) old new c (world_in names m v store first after) is stand call frame frames labels words
      (subst (λ x. AnswersSo t.result (resolved (named names m) v c.world x) (without_args t c) a (world_in names m v store first after)) (sym (same_called names m import c ∙ call.calls))
      (asks.by names v store first (without_args t c) to same inside world));
}

pub no_host : (m : Module) (shows : List Show) (import : ℕ) (memory : List ℕ) (old new : Stacks) (before after : HostState) → func_type m import ≡ None → after.log ≡ before.log → CallsHostOn m shows import memory old before (hosted.Traps 0) new after
no_host m shows import memory old new before after none log = record { grows = kept m shows before.log after.log log; by = λ names v store first c to same inside world stand ruled fit. absurd (ruled (no_function m import c none)) }

pub host_short : (m : Module) (shows : List Show) (import : ℕ) (memory : List ℕ) (t : FuncType) (old new : Stacks) (before after : HostState) → func_type m import ≡ Some t → import < length m.imports → length old.words.items < length t.params → after.log ≡ before.log → CallsHostOn m shows import memory old before (hosted.Traps 0) new after
host_short m shows import memory t old new before after is imported short log = record {
  grows = kept m shows before.log after.log log;
  by = λ names v store first c to same inside world stand ruled fit.
      let call = host_call m import t old.frame (reverse old.frames.items) old.labels.items old.words.items c stand is imported ruled fit in
      absurd (omega (arith, short, call.fits));
}

pub append_nothing : (xs : List ℕ) → xs ≡ xs ++ []
append_nothing xs = sym (append_none xs)
