-- Asking: what a host is shown of a call, and what it answers.
use Rattle.std.proofs.Common.{◌≡◌, ℕ, ◌^◌, ◌<◌, ◌≤◌, List, [], ◌∷◌, ◌++◌, Some, None, length, map, drop, refl, sym, ap, subst, ◌∙◌}
use Rattle.std.specs.Prelude.{slice_get}
use Rattle.std.proofs.lemmas.List.{drop-append-le, map-append}
use Rattle.zw_session.specs.Sessions.{HostEvent, Scalar}
use Rattle.zw_wasm.specs.declared.module.FuncType.{FuncType}
use Rattle.zw_wasm.specs.declared.module.Module.{Module}
use Rattle.zw_wasm.specs.declared.module.ValType.{ValType}
use Rattle.zw_wasm.specs.declared.num.Num.{Num}
use Rattle.zw_wasm.specs.Functions.{func_type}
use Rattle.zw_wasm.specs.ModuleMachine.{param_types}
use Rattle.zw_wasm.specs.Reduction.{CallsHost, Config, Next, NoReply, Stops, Store, Trap, World, field_of, host_called, replied, resolved, result_of, with_event, with_world}
use Rattle.zw_wasm.specs.Signature.{View, shown_ranges, shown_scalars}
use Rattle.zw_wasm_run.specs.declared.ask.Answer.TheVariants as answer
use Rattle.zw_wasm_run.specs.declared.event.Event.{Event}
use Rattle.zw_wasm_run.specs.declared.machine.Show.{Show}
use Rattle.zw_wasm_run.specs.Calls.{ShowParams, ShowsTo, numbers_read, seen}
use Rattle.zw_wasm_run.specs.Hosting.{AnswersSo, AsksHost, Extends, HostState, IsEventOf, IsShownCall, numbers_in, ranges_in, world_in, world_of}
use Rattle.zw_wasm_run.specs.Machines.{AreShows}
use Rattle.zw_wasm_run.specs.Naming.{named}
use Rattle.zw_wasm_run.specs.Premises.{type_of}
use Rattle.zw_wasm_run.proofs.Naming.{same_type}
use Rattle.zw_wasm_run.proofs.Shows.{none_behind}
use Rattle.zw_wasm_run.proofs.ShownParts.{append_none, numbers_seen, ranges_seen}

-- a call of an import of this type, with as many arguments
pub record IsCall (m : Module) (shows : List Show) (import : ℕ) (t : FuncType) (given : List Num) : Type 0 where
  pub is : func_type m import ≡ Some t
  pub imported : import < length m.imports
  pub are : AreShows m shows
  pub count : length given ≡ length t.params
  pub types : map type_of given ≡ t.params

params_of : (m : Module) (shows : List Show) (import : ℕ) (t : FuncType) (given : List Num) (v : View) → IsCall m shows import t given → ShowsTo m shows v → ShowParams shows import 0 t.params (v.import_params import)
params_of m shows import t given v call to = subst (λ o. ShowParams shows import 0 (param_types o) (v.import_params import)) call.is (to.params import call.imported)

-- the host is shown what the arguments say
asked : (m : Module) (shows : List Show) (import : ℕ) (t : FuncType) (memory : List ℕ) (given : List Num) (h : HostState) (names : ℕ → List ℕ) (v : View) (store : Store) (first : ℕ) (c : Config) → IsCall m shows import t given → ShowsTo m shows v → store.memory ≡ memory → c.world ≡ world_in names m v store first h → resolved (named names m) v c.world (CallsHost import given c) ≡ host_called (ranges_in shows import memory 0 given) (named names m) v import given c
asked m shows import t memory given h names v store first c call to same world =
    ap (λ o. host_called o (named names m) v import given c)
    (ap (shown_ranges (v.import_params import) given) (ap (λ (w : World). w.store.memory) world ∙ same)
    ∙ ranges_seen shows import memory 0 t.params (v.import_params import) given (none_behind m shows import call.are) call.count (params_of m shows import t given v call to))

-- what a host sees of an import
abbrev pub event_of : Module → ℕ → List Scalar → List (List ℕ) → HostEvent
event_of n k args shown = record { name = field_of (slice_get n.imports k); args = args; shown = shown }

event_is : (m : Module) (shows : List Show) (import : ℕ) (t : FuncType) (memory : List ℕ) (given : List Num) (e : Event) (names : ℕ → List ℕ) (v : View) → IsCall m shows import t given → ShowsTo m shows v → IsEventOf shows import memory given e → event_of (named names m) import (shown_scalars (v.import_params import) given) e.shown ≡ seen (named names m) v e
event_is m shows import t memory given e names v call to event =
    let n = named names m in
    ap (λ xs. event_of n import xs e.shown)
    (numbers_seen shows import 0 t.params (v.import_params import) given (none_behind m shows import call.are) call.count refl (params_of m shows import t given v call to)
    ∙ ap (numbers_read (v.import_params import)) (sym event.args))
    ∙ ap (λ k. event_of n k (numbers_read (v.import_params k) e.args) e.shown) (sym event.import)

-- what was logged is what was seen
logged : (names : ℕ → List ℕ) (m : Module) (v : View) (store : Store) (replies : List ℕ) (first : ℕ) (log new : List Event) (e : Event) → first ≤ length log → new ≡ log ++ e ∷ [] → with_event (seen (named names m) v e) (world_of names m v store replies (drop first log)) ≡ world_of names m v store replies (drop first new)
logged names m v store replies first log new e inside is =
    ap (λ events. record { store = store; replies = replies; events = events }) (sym (map-append (seen (named names m) v) (drop first log) (e ∷ [])))
    ∙ ap (λ l. world_of names m v store replies l) (sym (drop-append-le first log (e ∷ []) inside) ∙ ap (drop first) (sym is))

-- where all that is shown is in the memory, the reply is due
reply_due : (m : Module) (shows : List Show) (import : ℕ) (t : FuncType) (memory : List ℕ) (given : List Num) (h : HostState) (new : List Event) (e : Event) (names : ℕ → List ℕ) (v : View) (store : Store) (first : ℕ) (c : Config) → IsCall m shows import t given → ShowsTo m shows v → store.memory ≡ memory → first ≤ length h.log → c.world ≡ world_in names m v store first h → IsEventOf shows import memory given e → new ≡ h.log ++ e ∷ [] → resolved (named names m) v c.world (CallsHost import given c) ≡ replied t.result h.replies (with_world (world_of names m v store h.replies (drop first new)) c)
reply_due m shows import t memory given h new e names v store first c call to same inside world event is =
    let n = named names m in
    let ev = event_of n import (shown_scalars (v.import_params import) given) e.shown in
    asked m shows import t memory given h names v store first c call to same world
    ∙ ap (λ o. host_called o n v import given c) event.shown
    ∙ ap (λ o. replied (result_of o) c.world.replies (with_world (with_event ev c.world) c)) (same_type names m import ∙ call.is)
    ∙ ap (λ (w : World). replied t.result w.replies (with_world (with_event ev w) c)) world
    ∙ ap (λ x. replied t.result h.replies (with_world (with_event x (world_in names m v store first h)) c)) (event_is m shows import t memory given e names v call to event)
    ∙ ap (λ w. replied t.result h.replies (with_world w c)) (logged names m v store h.replies first h.log new e inside is)

pub kept : (m : Module) (shows : List Show) (log new : List Event) → new ≡ log → Extends m shows log new
kept m shows log new is = record { more = []; is = is ∙ sym (append_none log); each = tt }

shown_call : (m : Module) (shows : List Show) (import : ℕ) (t : FuncType) (memory : List ℕ) (given : List Num) (e : Event) → IsCall m shows import t given → IsEventOf shows import memory given e → IsShownCall m shows e
shown_call m shows import t memory given e call event = record {
  given = given;
  memory = memory;
  imported = subst (λ k. k < length m.imports) (sym event.import) call.imported;
  types = call.types ∙ ap param_types (sym call.is) ∙ ap (λ k. param_types (func_type m k)) (sym event.import);
  args = event.args ∙ ap (λ k. numbers_in shows k 0 given) (sym event.import);
  shown = ap (λ k. ranges_in shows k memory 0 given) event.import ∙ event.shown;
}

grown : (m : Module) (shows : List Show) (import : ℕ) (t : FuncType) (memory : List ℕ) (given : List Num) (log new : List Event) (e : Event) → IsCall m shows import t given → IsEventOf shows import memory given e → new ≡ log ++ e ∷ [] → Extends m shows log new
grown m shows import t memory given log new e call event is = record { more = e ∷ []; is = is; each = (shown_call m shows import t memory given e call event, tt) }

pub host_outside : (m : Module) (shows : List Show) (import : ℕ) (t : FuncType) (memory : List ℕ) (given : List Num) (old new : HostState) → IsCall m shows import t given → ranges_in shows import memory 0 given ≡ None → new.replies ≡ old.replies → new.log ≡ old.log → AsksHost m shows import t memory given old answer.Outside new
host_outside m shows import t memory given old new call outside replies log = record {
  grows = kept m shows old.log new.log log;
  by = λ names v store first c to same inside world.
      asked m shows import t memory given old names v store first c call to same world
      ∙ ap (λ o. host_called o (named names m) v import given c) outside
      ∙ ap (λ w. Stops (Trap 2) w) world
      ∙ ap (λ rs. Stops (Trap 2) (world_of names m v store rs (drop first old.log))) (sym replies)
      ∙ ap (λ l. Stops (Trap 2) (world_of names m v store new.replies (drop first l))) (sym log);
}

pub host_goes : (m : Module) (shows : List Show) (import : ℕ) (t : FuncType) (memory : List ℕ) (given : List Num) (e : Event) (old new : HostState) → IsCall m shows import t given → IsEventOf shows import memory given e → new.log ≡ old.log ++ e ∷ [] → t.result ≡ None → new.replies ≡ old.replies → AsksHost m shows import t memory given old (answer.Goes None) new
host_goes m shows import t memory given e old new call event log none replies = record {
  grows = grown m shows import t memory given old.log new.log e call event log;
  by = λ names v store first c to same inside world.
      let after = world_of names m v store old.replies (drop first new.log) in
      subst (λ r. AnswersSo r (resolved (named names m) v c.world (CallsHost import given c)) c (answer.Goes None) (world_in names m v store first new)) (sym none) (
        tt,
        reply_due m shows import t memory given old new.log e names v store first c call to same inside world event log
            ∙ ap (λ o. replied o old.replies (with_world after c)) none
            ∙ ap (λ rs. Next (with_world (world_of names m v store rs (drop first new.log)) c)) (sym replies),
      );
}

pub host_replies : (m : Module) (shows : List Show) (import : ℕ) (t : FuncType) (memory : List ℕ) (given : List Num) (ty : ValType) (r : ℕ) (e : Event) (old new : HostState) → IsCall m shows import t given → IsEventOf shows import memory given e → new.log ≡ old.log ++ e ∷ [] → t.result ≡ Some ty → r < 2 ^ 64 → old.replies ≡ r ∷ new.replies → AsksHost m shows import t memory given old (answer.Goes (Some r)) new
host_replies m shows import t memory given ty r e old new call event log some bound replies = record {
  grows = grown m shows import t memory given old.log new.log e call event log;
  by = λ names v store first c to same inside world.
      let after = world_of names m v store old.replies (drop first new.log) in
      subst (λ o. AnswersSo o (resolved (named names m) v c.world (CallsHost import given c)) c (answer.Goes (Some r)) (world_in names m v store first new)) (sym some) (
        bound,
        reply_due m shows import t memory given old new.log e names v store first c call to same inside world event log
            ∙ ap (λ o. replied o old.replies (with_world after c)) some
            ∙ ap (λ rs. replied (Some ty) rs (with_world after c)) replies,
      );
}

pub host_wants : (m : Module) (shows : List Show) (import : ℕ) (t : FuncType) (memory : List ℕ) (given : List Num) (ty : ValType) (e : Event) (old new : HostState) → IsCall m shows import t given → IsEventOf shows import memory given e → new.log ≡ old.log ++ e ∷ [] → t.result ≡ Some ty → old.replies ≡ [] → new.replies ≡ [] → AsksHost m shows import t memory given old answer.NoReply new
host_wants m shows import t memory given ty e old new call event log some none left = record {
  grows = grown m shows import t memory given old.log new.log e call event log;
  by = λ names v store first c to same inside world.
      let after = world_of names m v store old.replies (drop first new.log) in
      reply_due m shows import t memory given old new.log e names v store first c call to same inside world event log
      ∙ ap (λ o. replied o old.replies (with_world after c)) some
      ∙ ap (λ rs. replied (Some ty) rs (with_world after c)) none
      ∙ ap (λ rs. Stops NoReply (world_of names m v store rs (drop first new.log))) (none ∙ sym left);
}
