-- Functions: what a call of a function from outside comes to.
use Rattle.std.proofs.Common.{◌≡◌, ℕ, suc, ◌+◌, ◌-◌, ◌≤◌, ◌<◌, List, [], ◌∷◌, ◌++◌, Option, Some, None, length, drop, map, reverse, refl, sym, ap, subst, ◌∙◌, arith}
use Rattle.std.specs.Prelude.{slice_get}
use Rattle.std.specs.Option.{option_to_list}
use Rattle.std.proofs.lemmas.Bool.{lt-ltb}
use Rattle.std.proofs.lemmas.List.{length-map, length-reverse}
use Rattle.std.proofs.Math.Seq.{drop-append_seam, drop-length}
use Rattle.std.proofs.Math.Nat.{mod-eq_of_lt}
use Rattle.zw_wasm.specs.declared.module.FuncImport.{FuncImport}
use Rattle.zw_wasm.specs.declared.module.FuncType.{FuncType}
use Rattle.zw_wasm.specs.declared.module.Module.{Module}
use Rattle.zw_wasm.specs.declared.module.ValType.{ValType}
use Rattle.zw_wasm.specs.declared.module.ValType.TheVariants as ty
use Rattle.zw_wasm.specs.declared.num.Num.{Num}
use Rattle.zw_wasm.specs.Functions.{func_type}
use Rattle.zw_wasm.specs.ModuleMachine.{begun, idle, param_types, run_function}
use Rattle.zw_wasm.specs.Reduction.{CallsHost, Ended, Finished, Over, Run, Step, World, field_of, resolved, run, with_world}
use Rattle.zw_wasm.specs.Signature.{View}
use Rattle.zw_wasm.specs.Structure.{number}
use Rattle.zw_wasm.specs.Validity.{IsValid}
use Rattle.zw_wasm_sound.specs.Configurations.{IsTypedConfig, IsTypedStore}
use Rattle.zw_wasm_sound.specs.Steps.{IsTypedAction, IsTypedRun}
use Rattle.zw_wasm_sound.proofs.Entering.{func-inside}
use Rattle.zw_wasm_sound.proofs.Exports.{export-typed, function-typed}
use Rattle.zw_wasm_sound.proofs.Sound.{enter-typed}
use Rattle.zw_wasm_sound.proofs.Valid.{bodies-of}
use Rattle.zw_wasm_words.specs.Words.{Hold}
use Rattle.zw_wasm_words.proofs.Holding.{hold_length}
use Rattle.zw_wasm_run.specs.declared.ask.Answer.{Answer}
use Rattle.zw_wasm_run.specs.declared.ask.Answer.TheVariants as answer
use Rattle.zw_wasm_run.specs.declared.event.Event.{Event}
use Rattle.zw_wasm_run.specs.declared.event.Outcome.{Outcome}
use Rattle.zw_wasm_run.specs.declared.event.Outcome.TheVariants as outcome
use Rattle.zw_wasm_run.specs.declared.invoke.RunEnd.{RunEnd}
use Rattle.zw_wasm_run.specs.declared.invoke.RunEnd.TheVariants as ends
use Rattle.zw_wasm_run.specs.declared.machine.Show.{Show}
use Rattle.zw_wasm_run.specs.declared.stacks.Stacks.{Stacks}
use Rattle.zw_wasm_run.specs.declared.store.Store.{Store}
use Rattle.zw_wasm_run.specs.Calls.{ShowsTo, run_to, seen}
use Rattle.zw_wasm_run.specs.Hosting.{AnswersSo, AsksHost, HasReply, HostState, answered, numbers_held, world_in}
use Rattle.zw_wasm_run.specs.Invocation.{BeginsCall, Called, IsAt, IsReady, Live, MayCall, RunEnds, RunsSo, number_in, outcome_of, world_now}
use Rattle.zw_wasm_run.specs.Shows.{AreShows, IsExported}
use Rattle.zw_wasm_run.specs.Naming.{named, named_from}
use Rattle.zw_wasm_run.specs.Premises.{type_of}
use Rattle.zw_wasm_run.specs.Running.{next_of}
use Rattle.zw_wasm_run.specs.Stores.{stored}
use Rattle.zw_wasm_run.proofs.AllCalls.{enter_is_host}
use Rattle.zw_wasm_run.proofs.Invoking.{answered_world, some_host}
use Rattle.zw_wasm_run.proofs.Naming.{same_enter}
use Rattle.zw_wasm_run.proofs.Runs.{run_is_over}
use Rattle.zw_wasm_run.proofs.ShownParts.{numbers_are}
use Rattle.zw_wasm_run.proofs.Soundness.{are_sound}

-- ---- the names that a module has

named_same : (names : ℕ → List ℕ) (k : ℕ) (is : List FuncImport) → ((n : ℕ) → names (k + n) ≡ field_of (slice_get is n)) → named_from names k is ≡ is
named_same names k [] h = refl
named_same names k (i ∷ is) h =
    let here : k + 0 ≡ k = omega arith in
    let first : names k ≡ i.field = ap names (sym here) ∙ h 0 in
    ap (λ f. record i { field = f } ∷ named_from names (suc k) is) first
    ∙ ap (λ l. i ∷ l) (named_same names (suc k) is (λ n. let next : suc k + n ≡ k + suc n = omega arith in ap names next ∙ h (suc n)))

pub named_as_is : (m : Module) → named (λ k. field_of (slice_get m.imports k)) m ≡ m
named_as_is m =
    ap (λ is. record m { imports = is }) (named_same (λ k. field_of (slice_get m.imports k)) 0 m.imports (λ n. let same : 0 + n ≡ n = omega arith in ap (λ k. field_of (slice_get m.imports k)) same))

-- ---- how it begins

-- a function of a valid module, with arguments of its types, a store of the module, and what is shown
pub record Callable (m : Module) (shows : List Show) (func : ℕ) (given : List Num) (now : Live) : Type 0 where
  pub valid : IsValid m
  pub ty : FuncType
  pub is : func_type m func ≡ Some ty
  pub given_typed : map type_of given ≡ ty.params
  pub stored_typed : IsTypedStore m (stored now.store)
  pub shown : AreShows m shows

pub callable : (m : Module) (shows : List Show) (func : ℕ) (given : List Num) (now : Live) (t : FuncType) → IsValid m → MayCall m shows func given now → func_type m func ≡ Some t → Callable m shows func given now
callable m shows func given now t valid may is = record { valid = valid; ty = t; is = is; given_typed = may.given_typed ∙ ap param_types is; stored_typed = may.stored_typed; shown = may.shown }

-- what is exported as a function has a type
pub typed_export : (m : Module) (func : ℕ) → IsValid m → IsExported m func → func_type m func ≡ None → ⊥
typed_export m func valid out none =
    let t = export-typed m valid out.name func out.is in
    let some : None ≡ Some t.0 = sym none ∙ t.1 in
    cc

-- the first configuration, in the world of this host
pub first_at : (m : Module) (shows : List Show) (func : ℕ) (given : List Num) (now : Live) (held : Stacks) (may : Callable m shows func given now) (begins : BeginsCall m func given held) (names : ℕ → List ℕ) (v : View) (first : ℕ) → IsAt m (reverse (option_to_list may.ty.result)) names v first (record now { stacks = held }) (begins.by (world_in names m v (stored now.store) first now.host)).first
first_at m shows func given now held may begins names v first =
    let rs = option_to_list may.ty.result in
    let w = world_in names m v (stored now.store) first now.host in
    let f = begins.by w in
    let typed : IsTypedConfig m rs f.first = subst (IsTypedAction m rs) f.goes (enter-typed m (bodies-of m may.valid) func may.ty given w may.is may.given_typed may.stored_typed) in
    record {
      stand = record { stacks = f.stand; store = ap (λ (x : World). x.store) f.world };
      sound = are_sound m (bodies-of m may.valid) rs now.steps f.first typed;
      world = f.world;
    }

pub ready : (m : Module) (shows : List Show) (func : ℕ) (given : List Num) (now : Live) (held : Stacks) → Callable m shows func given now → BeginsCall m func given held → IsReady m shows (record now { stacks = held })
ready m shows func given now held may begins = record {
  types = reverse (option_to_list may.ty.result);
  at = λ names v first to inside. record {
    config = (begins.by (world_in names m v (stored now.store) first now.host)).first;
    is = first_at m shows func given now held may begins names v first;
  };
}

-- ---- how it ends

none_typed : (results : List Num) → map type_of results ≡ [] → results ≡ []
none_typed [] e = refl
none_typed (x ∷ results) e = absurd (cc)

-- the words of the result
results_are : (t : Option ValType) (words : List ℕ) (results : List Num) → Hold (reverse words) results → map type_of results ≡ reverse (option_to_list t) → results ≡ option_to_list (number_in t (slice_get words 0))
results_are None words results held types = none_typed results types
results_are (Some t) [] results held types = numbers_are (t ∷ []) [] results held types
results_are (Some t) (w ∷ []) results held types = numbers_are (t ∷ []) (w ∷ []) results held types
results_are (Some t) (w ∷ x ∷ ws) results held types =
    let count = hold_length (reverse (w ∷ x ∷ ws)) results held in
    let long = length-reverse (w ∷ x ∷ ws) in
    absurd (omega (arith, count, long, ap length types, length-map results type_of))

ends_as : (t : Option ValType) (e : RunEnd) (r : Run) (new : Live) (w : World) → RunEnds (reverse (option_to_list t)) r e new w → Some r ≡ run_to (outcome_of t e new.stacks.words.items) w new.steps
ends_as t ends.Finished r new w h =
    ap (λ x. Some x) h.is ∙ ap (λ rs. Some (Ended (Finished rs) w new.steps)) (results_are t new.stacks.words.items h.results h.held h.types)
ends_as t (ends.Traps code) r new w h = ap (λ x. Some x) h
ends_as t ends.WantsReply r new w h = ap (λ x. Some x) h
ends_as t ends.StepsOut r new w h = ap (λ x. Some x) h.1

none_left : (t : Option ValType) (ts : List ValType) (e : RunEnd) (r : Run) (new : Live) (w : World) → RunEnds ts r e new w → outcome_of t e new.stacks.words.items ≡ outcome.StepsOut → new.steps ≡ 0
none_left t ts ends.Finished r new w h e = absurd (cc)
none_left t ts (ends.Traps code) r new w h e = absurd (cc)
none_left t ts ends.WantsReply r new w h e = absurd (cc)
none_left t ts ends.StepsOut r new w h e = h.0

store_left : (m : Module) (rs ts : List ValType) (e : RunEnd) (r : Run) (new : Live) (w : World) → RunEnds ts r e new w → IsTypedRun m rs r → IsTypedStore m w.store
store_left m rs ts ends.Finished r new w h typed = (subst (IsTypedRun m rs) h.is typed).1
store_left m rs ts (ends.Traps code) r new w h typed = (subst (IsTypedRun m rs) h typed).1
store_left m rs ts ends.WantsReply r new w h typed = (subst (IsTypedRun m rs) h typed).1
store_left m rs ts ends.StepsOut r new w h typed = subst (IsTypedRun m rs) h.1 typed

-- ---- a function with a body

-- a run of the function, from its first configuration on
runs_from : (m : Module) (func : ℕ) (given : List Num) (names : ℕ → List ℕ) (v : View) (w : World) (steps : ℕ) (held : Stacks) (begins : BeginsCall m func given held) → run_function (named names m) v func given w steps ≡ run (named names m) v steps (begins.by w).first
runs_from m func given names v w steps held begins =
    let n = named names m in
    ap (λ a. begun (resolved n v w a) w n v steps) (same_enter names m func given (idle w) ∙ (begins.by w).goes)

-- the world with what was logged of this call
pub log_before : (names : ℕ → List ℕ) (m : Module) (v : View) (store : Store) (h : HostState) → world_in names m v (stored store) (length h.log) h ≡ record { store = stored store; replies = h.replies; events = [] }
log_before names m v store h = ap (λ l. record { store = stored store; replies = h.replies; events = map (seen (named names m) v) l }) (drop-length h.log)

log_after : (names : ℕ → List ℕ) (m : Module) (v : View) (store : Store) (old new : HostState) (events : List Event) → new.log ≡ old.log ++ events → world_in names m v (stored store) (length old.log) new ≡ record { store = stored store; replies = new.replies; events = map (seen (named names m) v) events }
log_after names m v store old new events is =
    ap (λ l. record { store = stored store; replies = new.replies; events = map (seen (named names m) v) l }) (ap (drop (length old.log)) is ∙ drop-append_seam old.log events)

-- what the run of this host comes to
run_ends : (m : Module) (shows : List Show) (func : ℕ) (given : List Num) (old : Live) (held : Stacks) (e : RunEnd) (new : Live) (may : Callable m shows func given old) → BeginsCall m func given held → RunsSo m shows (record old { stacks = held }) e new → (names : ℕ → List ℕ) (v : View) → ShowsTo m shows v → RunEnds (reverse (option_to_list may.ty.result)) (run_function (named names m) v func given (world_in names m v (stored old.store) (length old.host.log) old.host) old.steps) e new (world_now names m v (length old.host.log) new)
run_ends m shows func given old held e new may begins runs names v to =
    let rs = option_to_list may.ty.result in
    let first = length old.host.log in
    let w = world_in names m v (stored old.store) first old.host in
    subst (λ r. RunEnds (reverse rs) r e new (world_now names m v first new)) (sym (runs_from m func given names v w old.steps held begins))
    (runs.by (reverse rs) names v first (begins.by w).first to (omega arith) (first_at m shows func given old held may begins names v first))

pub body_called : (m : Module) (shows : List Show) (func : ℕ) (given : List Num) (t : FuncType) (old : Live) (held : Stacks) (e : RunEnd) (new : Live) → Callable m shows func given old → func_type m func ≡ Some t → BeginsCall m func given held → RunsSo m shows (record old { stacks = held }) e new → Called m shows func given old (outcome_of t.result e new.stacks.words.items) new
body_called m shows func given t old held e new may is begins runs =
    let some : Some may.ty ≡ Some t = sym may.is ∙ is in
    let same : may.ty ≡ t = cc in
    let host = some_host m shows may.shown in
    let own : ℕ → List ℕ = λ k. field_of (slice_get m.imports k) in
    let first = length old.host.log in
    let one = run_ends m shows func given old held e new may begins runs own host.view host.shown in
    subst (λ (x : FuncType). Called m shows func given old (outcome_of x.result e new.stacks.words.items) new) same
    (record {
      events = runs.grows.more;
      log = runs.grows.is;
      each = runs.grows.each;
      runs = record {
        by = λ names v to.
            ap (λ w. Some (run_function (named names m) v func given w old.steps)) (sym (log_before names m v old.store old.host))
            ∙ ends_as may.ty.result e _ new _ (run_ends m shows func given old held e new may begins runs names v to)
            ∙ ap (λ w. run_to (outcome_of may.ty.result e new.stacks.words.items) w new.steps) (log_after names m v new.store old.host new.host runs.grows.more runs.grows.is);
        spent = none_left may.ty.result _ e _ new _ one;
      };
      stays =
          store_left m (option_to_list may.ty.result) _ e _ new _ one
          (subst (λ n. IsTypedRun m (option_to_list may.ty.result) (run_function n host.view func given (world_in own m host.view (stored old.store) first old.host) old.steps)) (sym (named_as_is m))
          ((function-typed m (bodies-of m may.valid) func may.ty may.is).runs host.view given (world_in own m host.view (stored old.store) first old.host) old.steps may.given_typed may.stored_typed));
    })

-- ---- an imported function

-- the configuration behind the answer is at its end
answer_is_over : (t : Option ValType) (reply : Option ℕ) (w : World) → HasReply t reply → next_of (answered t reply (with_world w (idle w))) ≡ Over (option_to_list (number_in t reply))
answer_is_over None None w has = refl
answer_is_over None (Some r) w has = absurd has
answer_is_over (Some t) None w has = absurd has
answer_is_over (Some ty.I32) (Some r) w has = refl
answer_is_over (Some ty.I64) (Some r) w has = ap (λ n. Over (n ∷ [])) (ap (λ k. number ty.I64 k) (mod-eq_of_lt has))

-- what an answer makes of a call
abbrev pub answer_outcome : Option ValType → Answer → Outcome
answer_outcome t (answer.Goes reply) = outcome.Result (number_in t reply)
answer_outcome t answer.Outside = outcome.Trap 2
answer_outcome t answer.NoReply = outcome.WantsReply

answer_ends : (t : Option ValType) (a : Answer) (s : Step) (w after : World) (n : Module) (v : View) (steps : ℕ) → AnswersSo t s (idle w) a after → Some (begun s w n v steps) ≡ run_to (answer_outcome t a) after steps
answer_ends t (answer.Goes reply) s w after n v steps h =
    let c = answered t reply (with_world after (idle w)) in
    ap (λ x. Some (begun x w n v steps)) h.1
    ∙ ap (λ r. Some r) (run_is_over n v steps c (option_to_list (number_in t reply)) (answer_is_over t reply after h.0))
    ∙ ap (λ x. Some (Ended (Finished (option_to_list (number_in t reply))) x steps)) (answered_world t reply (with_world after (idle w)))
answer_ends t answer.Outside s w after n v steps h = ap (λ x. Some (begun x w n v steps)) h
answer_ends t answer.NoReply s w after n v steps h = ap (λ x. Some (begun x w n v steps)) h

answer_spends : (t : Option ValType) (a : Answer) → answer_outcome t a ≡ outcome.StepsOut → ⊥
answer_spends t (answer.Goes reply) e = cc
answer_spends t answer.Outside e = cc
answer_spends t answer.NoReply e = cc

pub import_called : (m : Module) (shows : List Show) (func : ℕ) (given : List Num) (t : FuncType) (old : Live) (words : List ℕ) (a : Answer) (h : HostState) (held : Stacks) → Callable m shows func given old → func < length m.imports → func_type m func ≡ Some t → Hold words given → AsksHost m shows func t old.store.memory.items (numbers_held t.params words) old.host a h → Called m shows func given old (answer_outcome t.result a) (record { store = old.store; stacks = held; steps = old.steps; host = h })
import_called m shows func given t old words a h held may imported is hold asks =
    let some : Some may.ty ≡ Some t = sym may.is ∙ is in
    let same : may.ty ≡ t = cc in
    let types : map type_of given ≡ t.params = may.given_typed ∙ ap (λ (x : FuncType). x.params) same in
    let are : given ≡ numbers_held t.params words = numbers_are t.params words given hold types in
    record {
      events = asks.grows.more;
      log = asks.grows.is;
      each = asks.grows.each;
      runs = record {
        by = λ names v to.
            let n = named names m in
            let first = length old.host.log in
            let w = world_in names m v (stored old.store) first old.host in
            let after = world_in names m v (stored old.store) first h in
            ap (λ x. Some (run_function n v func given x old.steps)) (sym (log_before names m v old.store old.host))
            ∙ ap (λ x. Some (begun (resolved n v w x) w n v old.steps)) (same_enter names m func given (idle w) ∙ enter_is_host m func given (idle w) (lt-ltb func (length m.imports) imported) ∙ ap (λ xs. CallsHost func xs (idle w)) are)
            ∙ answer_ends t.result a _ w after n v old.steps (asks.by names v (stored old.store) first (idle w) to refl (omega arith) refl)
            ∙ ap (λ x. run_to (answer_outcome t.result a) x old.steps) (log_after names m v old.store old.host h asks.grows.more asks.grows.is);
        spent = λ e. absurd (answer_spends t.result a e);
      };
      stays = may.stored_typed;
    }

-- a function behind the imported ones has a body
pub body_there : (m : Module) (func : ℕ) (t : FuncType) → IsValid m → func_type m func ≡ Some t → length m.imports ≤ func → func - length m.imports < length m.codes
body_there m func t valid is own = omega (arith, own, (bodies-of m valid).count, func-inside m func t is)

pub called_as : (m : Module) (shows : List Show) (func : ℕ) (given : List Num) (old new : Live) (e x : Outcome) → e ≡ x → Called m shows func given old x new → Called m shows func given old e new
called_as m shows func given old new e x is called = subst (λ y. Called m shows func given old y new) (sym is) called
