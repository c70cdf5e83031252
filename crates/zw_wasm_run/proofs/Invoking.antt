-- Invoking: a call that runs, from pause to pause.
use Rattle.std.proofs.Common.{◌≡◌, ℕ, suc, ◌+◌, ◌<◌, ◌≤◌, Bool, true, false, List, [], ◌∷◌, ◌++◌, Option, Some, None, length, map, refl, sym, ap, subst, ◌∙◌, append_assoc, arith}
use Rattle.std.specs.List.{AllByRecursion}
use Rattle.std.specs.Prelude.{slice_get, if◌then◌else◌}
use Rattle.std.proofs.lemmas.List.{length-append}
use Rattle.zw_wasm.specs.declared.module.FuncType.{FuncType}
use Rattle.zw_wasm.specs.declared.module.Module.{Module}
use Rattle.zw_wasm.specs.declared.module.ValType.{ValType}
use Rattle.zw_wasm.specs.declared.num.Num.{Num}
use Rattle.zw_wasm.specs.Functions.{func_type}
use Rattle.zw_wasm.specs.ModuleMachine.{param_types}
use Rattle.zw_wasm.specs.Reduction.{Action, CallsHost, Config, Ended, Finished, Going, Goes, Trap, Traps, World, after_step, called, resolved, result_of, run, with_world}
use Rattle.zw_wasm.specs.Signature.{Bytes, Shown, Unsigned, Value, View}
use Rattle.zw_wasm_words.specs.Operands.{IsRuled}
use Rattle.zw_wasm_run.specs.declared.pause.Pause.TheVariants as pause
use Rattle.zw_wasm_run.specs.declared.event.Event.{Event}
use Rattle.zw_wasm_run.specs.declared.host.Hosted.TheVariants as hosted
use Rattle.zw_wasm_run.specs.declared.invoke.RunEnd.TheVariants as ends
use Rattle.zw_wasm_run.specs.declared.machine.Show.{Show}
use Rattle.zw_wasm_run.specs.declared.stacks.Stacks.{Stacks}
use Rattle.zw_wasm_run.specs.declared.store.Store.{Store}
use Rattle.zw_wasm_run.specs.Calls.{ShowParams, ShowsTo, is_shown}
use Rattle.zw_wasm_run.specs.Hosting.{ArePairs, ArgsFit, CallsHostOn, Extends, HasReply, HostState, IsPair, IsShownCall, answered, world_in}
use Rattle.zw_wasm_run.specs.Invocation.{IsAt, IsReady, Live, RunsSo}
use Rattle.zw_wasm_run.specs.Loops.{IsSound, Pauses, SameActions, Stand}
use Rattle.zw_wasm_run.specs.Machines.{AreShows}
use Rattle.zw_wasm_run.specs.Naming.{named}
use Rattle.zw_wasm_run.specs.Premises.{AfterReply, AreSound, Leaves, type_of}
use Rattle.zw_wasm_run.specs.Stores.{stored, with_store}
use Rattle.zw_wasm_run.proofs.Naming.{same_called, same_done}
use Rattle.zw_wasm_run.proofs.Runs.{run_is_over}
use Rattle.zw_wasm_run.proofs.Shows.{pairs_of}
use Rattle.zw_wasm_run.proofs.ShownParts.{append_none}

-- ---- some host

-- what a host may be given of the parameters from this one on
abbrev given_of : List Show → ℕ → ℕ → List ValType → List Shown
given_of shows import param [] = []
given_of shows import param (t ∷ []) = Value (Unsigned 64) ∷ []
given_of shows import param (t ∷ u ∷ ts) =
    if is_shown shows import param then Bytes ∷ given_of shows import (suc (suc param)) ts else Value (Unsigned 64) ∷ given_of shows import (suc param) (u ∷ ts)

-- where bytes are shown, two parameters of these are left
abbrev pub PairsLeft : List ValType → List Show → ℕ → ℕ → Type 0
PairsLeft ts shows import param = (k : ℕ) → is_shown shows import (param + k) ≡ true → IsPair ts k

pairs_behind : (t : ValType) (ts : List ValType) (shows : List Show) (import param : ℕ) → PairsLeft (t ∷ ts) shows import param → PairsLeft ts shows import (suc param)
pairs_behind t ts shows import param pairs = λ k e.
    let same : param + suc k ≡ suc param + k = omega arith in
    let next : suc k + 1 ≡ suc (k + 1) = omega arith in
    let pair = pairs (suc k) (ap (is_shown shows import) same ∙ e) in
    record { pointer = pair.pointer; count = ap (slice_get (t ∷ ts)) (sym next) ∙ pair.count }

last_not_shown : (t : ValType) (shows : List Show) (import param : ℕ) (b : Bool) → is_shown shows import param ≡ b → PairsLeft (t ∷ []) shows import param → is_shown shows import param ≡ false
last_not_shown t shows import param false e pairs = e
last_not_shown t shows import param true e pairs =
    let same : param + 0 ≡ param = omega arith in
    let pair = pairs 0 (ap (is_shown shows import) same ∙ e) in
    let count = pair.count in
    absurd (cc)

given_by : (shows : List Show) (import param : ℕ) (t u : ValType) (ts : List ValType) (b : Bool) → is_shown shows import param ≡ b → ShowParams shows import (suc (suc param)) ts (given_of shows import (suc (suc param)) ts) → ShowParams shows import (suc param) (u ∷ ts) (given_of shows import (suc param) (u ∷ ts)) → ShowParams shows import param (t ∷ u ∷ ts) (given_of shows import param (t ∷ u ∷ ts))
given_by shows import param t u ts true e two one =
    subst (ShowParams shows import param (t ∷ u ∷ ts))
    (sym (ap (λ x. if x then Bytes ∷ given_of shows import (suc (suc param)) ts else Value (Unsigned 64) ∷ given_of shows import (suc param) (u ∷ ts)) e)) (e, two)
given_by shows import param t u ts false e two one =
    subst (ShowParams shows import param (t ∷ u ∷ ts))
    (sym (ap (λ x. if x then Bytes ∷ given_of shows import (suc (suc param)) ts else Value (Unsigned 64) ∷ given_of shows import (suc param) (u ∷ ts)) e)) (e, one)

given_shows : (shows : List Show) (import param : ℕ) (ts : List ValType) → PairsLeft ts shows import param → ShowParams shows import param ts (given_of shows import param ts)
given_shows shows import param [] pairs = tt
given_shows shows import param (t ∷ []) pairs = (last_not_shown t shows import param (is_shown shows import param) refl pairs, tt)
given_shows shows import param (t ∷ u ∷ ts) pairs =
    let behind = pairs_behind t (u ∷ ts) shows import param pairs in
    given_by shows import param t u ts (is_shown shows import param) refl (given_shows shows import (suc (suc param)) ts (pairs_behind u ts shows import (suc param) behind)) (given_shows shows import (suc param) (u ∷ ts) behind)

no_pairs : (shows : List Show) (import : ℕ) (ts : List ValType) → ArePairs ts shows import → PairsLeft ts shows import 0
no_pairs shows import ts pairs = λ k e. let same : 0 + k ≡ k = omega arith in pairs k (ap (is_shown shows import) (sym same) ∙ e)

params_shown : (m : Module) (shows : List Show) (k : ℕ) (o : Option FuncType) → AreShows m shows → func_type m k ≡ o → ShowParams shows k 0 (param_types o) (given_of shows k 0 (param_types o))
params_shown m shows k None are is = tt
params_shown m shows k (Some t) are is = given_shows shows k 0 t.params (no_pairs shows k t.params (pairs_of m shows k t are is))

-- a host that is shown these bytes
pub record SomeHost (m : Module) (shows : List Show) : Type 0 where
  pub view : View
  pub shown : ShowsTo m shows view

pub some_host : (m : Module) (shows : List Show) → AreShows m shows → SomeHost m shows
some_host m shows are = record {
  view = record { exported = λ (name : List ℕ). None; import_params = λ k. given_of shows k 0 (param_types (func_type m k)) };
  shown = record { params = λ k inside. params_shown m shows k (func_type m k) are refl };
}

-- ---- logs

same_log : (m : Module) (shows : List Show) (log : List Event) → Extends m shows log log
same_log m shows log = record { more = []; is = sym (append_none log); each = tt }

each_append : (m : Module) (shows : List Show) (first second : List Event) → AllByRecursion (IsShownCall m shows) first → AllByRecursion (IsShownCall m shows) second → AllByRecursion (IsShownCall m shows) (first ++ second)
each_append m shows [] second h g = g
each_append m shows (e ∷ first) second h g = (h.0, each_append m shows first second h.1 g)

longer_log : (m : Module) (shows : List Show) (old mid new : List Event) → Extends m shows old mid → Extends m shows mid new → Extends m shows old new
longer_log m shows old mid new first second = record {
  each = each_append m shows first.more second.more first.each second.each;
  more = first.more ++ second.more;
  is = second.is ∙ ap (λ l. l ++ second.more) first.is ∙ append_assoc old first.more second.more;
}

inside_longer : (m : Module) (shows : List Show) (first : ℕ) (old new : List Event) → Extends m shows old new → first ≤ length old → first ≤ length new
inside_longer m shows first old new grows inside = omega (arith, inside, ap length grows.is, length-append old grows.more)

-- ---- from pause to pause

-- a run goes on where the call is now
pub record Reaches (m : Module) (ts : List ValType) (names : ℕ → List ℕ) (v : View) (first : ℕ) (old : Live) (c : Config) (now : Live) : Type 0 where
  pub next : Config
  pub is : IsAt m ts names v first now next
  pub same : run (named names m) v old.steps c ≡ run (named names m) v now.steps next

pub record ComesTo (m : Module) (shows : List Show) (old now : Live) : Type 0 where
  pub grows : Extends m shows old.host.log now.host.log
  pub by : (ts : List ValType) (names : ℕ → List ℕ) (v : View) (first : ℕ) (c : Config) → ShowsTo m shows v → first ≤ length old.host.log → IsAt m ts names v first old c → Reaches m ts names v first old c now

pub comes_begin : (m : Module) (shows : List Show) (now : Live) → ComesTo m shows now now
comes_begin m shows now = record { grows = same_log m shows now.host.log; by = λ ts names v first c to inside is. record { next = c; is = is; same = refl } }

-- there is a configuration where the call is now
pub record IsHere (m : Module) (now : Live) : Type 0 where
  pub types : List ValType
  pub config : Config
  pub stand : Stand m now.store now.stacks config
  pub sound : AreSound m types now.steps config

pub is_here : (m : Module) (shows : List Show) (old now : Live) → AreShows m shows → IsReady m shows old → ComesTo m shows old now → IsHere m now
is_here m shows old now are ready comes =
    let host = some_host m shows are in
    let names : ℕ → List ℕ = λ k. [] in
    let at = ready.at names host.view 0 host.shown (omega arith) in
    let reach = comes.by ready.types names host.view 0 at.config host.shown (omega arith) at.is in
    record { types = ready.types; config = reach.next; stand = reach.is.stand; sound = reach.is.sound }

pub sound_here : (m : Module) (now : Live) → IsHere m now → IsSound m now.store now.stacks now.steps
sound_here m now here = record { types = here.types; config = here.config; stand = here.stand; sound = here.sound }

same_actions : (names : ℕ → List ℕ) (m : Module) → SameActions m (named names m)
same_actions names m = record { does = same_done names m }

fit_of : (m : Module) (a : Action) → ((k : ℕ) (args : List Num) (d : Config) → a ≡ CallsHost k args d → map type_of args ≡ param_types (func_type m k)) → ArgsFit m a
fit_of m (Goes c) h = tt
fit_of m (CallsHost k args d) h = h k args d refl
fit_of m (Traps code) h = tt

after_reply : (P : Config → Type 0) (r : Option ValType) (reply : Option ℕ) (w : World) (d : Config) → HasReply r reply → w.store ≡ d.world.store → AfterReply r P d → P (answered r reply (with_world w d))
after_reply P None None w d has same h = h w same
after_reply P None (Some x) w d has same h = absurd has
after_reply P (Some t) None w d has same h = absurd has
after_reply P (Some t) (Some x) w d has same h = h w same x has

pub answered_world : (r : Option ValType) (reply : Option ℕ) (c : Config) → (answered r reply c).world ≡ c.world
answered_world None reply c = refl
answered_world (Some t) None c = refl
answered_world (Some t) (Some r) c = refl

-- the call waits for the host, in this host's world
record Waits (m : Module) (ts : List ValType) (names : ℕ → List ℕ) (v : View) (first : ℕ) (old : Live) (c : Config) (f : ℕ) (kept : Store) (held : Stacks) (left : ℕ) (h : HostState) : Type 0 where
  next : Config
  stand : Stand m kept held next
  world : next.world ≡ world_in names m v (stored kept) first h
  ruled : IsRuled (called m f (func_type m f) next)
  fit : ArgsFit m (called m f (func_type m f) next)
  after : Leaves m (AreSound m ts left) (called m f (func_type m f) next)
  same : run (named names m) v old.steps c ≡ after_step (resolved (named names m) v next.world (called (named names m) f (func_type (named names m) f) next)) next.world left (run (named names m) v left)

waits_now : (m : Module) (ts : List ValType) (names : ℕ → List ℕ) (v : View) (first : ℕ) (old : Live) (c : Config) (now : Live) (f : ℕ) (kept : Store) (held : Stacks) (left : ℕ) → Reaches m ts names v first old c now → Pauses m now.store now.stacks now.steps (pause.Calls f) kept held left → Waits m ts names v first old c f kept held left now.host
waits_now m ts names v first old c now f kept held left reach pauses =
    let w = pauses.by ts reach.next reach.is.stand reach.is.sound in
    let n = named names m in
    record {
      next = w.next;
      stand = w.stand;
      world = w.world ∙ ap (with_store kept) reach.is.world;
      ruled = w.ruled;
      fit = fit_of m (called m f (func_type m f) w.next) w.args;
      after = w.after;
      same =
          reach.same ∙ w.same n v (same_actions names m)
          ∙ ap (λ a. after_step (resolved n v w.next.world a) w.next.world left (run n v left)) (sym (same_called names m f w.next));
    }

-- the host answers, and the call goes on
pub host_goes_on : (m : Module) (shows : List Show) (old now : Live) (f : ℕ) (kept : Store) (held new : Stacks) (left : ℕ) (h : HostState) → ComesTo m shows old now → Pauses m now.store now.stacks now.steps (pause.Calls f) kept held left → CallsHostOn m shows f kept.memory.items held now.host hosted.Goes new h → ComesTo m shows old (record { store = kept; stacks = new; steps = left; host = h })
host_goes_on m shows old now f kept held new left h comes pauses calls = record {
  grows = longer_log m shows old.host.log now.host.log h.log comes.grows calls.grows;
  by = λ ts names v first c to inside is.
      let n = named names m in
      let reach = comes.by ts names v first c to inside is in
      let w = waits_now m ts names v first old c now f kept held left reach pauses in
      let on = calls.by names v (stored kept) first w.next to refl (inside_longer m shows first old.host.log now.host.log comes.grows inside) w.world w.stand.stacks w.ruled w.fit in
      let after = world_in names m v (stored kept) first h in
      let r = result_of (func_type m f) in
      let world = answered_world r on.reply (with_world after on.waits) in
      record {
        next = answered r on.reply (with_world after on.waits);
        is = record {
          stand = record { stacks = on.stand; store = ap (λ (x : World). x.store) world };
          sound = after_reply (AreSound m ts left) r on.reply after on.waits on.has (sym (ap (λ (x : World). x.store) (on.kept ∙ w.world))) (w.after.calls f on.given on.waits on.calls);
          world = world;
        };
        same = w.same ∙ ap (λ s. after_step s w.next.world left (run n v left)) on.goes;
      };
}

-- the host ends the call
pub host_traps : (m : Module) (shows : List Show) (old now : Live) (f : ℕ) (kept : Store) (held new : Stacks) (left : ℕ) (h : HostState) (code : ℕ) → ComesTo m shows old now → Pauses m now.store now.stacks now.steps (pause.Calls f) kept held left → CallsHostOn m shows f kept.memory.items held now.host (hosted.Traps code) new h → RunsSo m shows old (ends.Traps code) (record { store = kept; stacks = new; steps = left; host = h })
host_traps m shows old now f kept held new left h code comes pauses calls = record {
  grows = longer_log m shows old.host.log now.host.log h.log comes.grows calls.grows;
  by = λ ts names v first c to inside is.
      let n = named names m in
      let reach = comes.by ts names v first c to inside is in
      let w = waits_now m ts names v first old c now f kept held left reach pauses in
      w.same
      ∙ ap (λ s. after_step s w.next.world left (run n v left))
      (calls.by names v (stored kept) first w.next to refl (inside_longer m shows first old.host.log now.host.log comes.grows inside) w.world w.stand.stacks w.ruled w.fit);
}

pub host_wants : (m : Module) (shows : List Show) (old now : Live) (f : ℕ) (kept : Store) (held new : Stacks) (left : ℕ) (h : HostState) → ComesTo m shows old now → Pauses m now.store now.stacks now.steps (pause.Calls f) kept held left → CallsHostOn m shows f kept.memory.items held now.host hosted.WantsReply new h → RunsSo m shows old ends.WantsReply (record { store = kept; stacks = new; steps = left; host = h })
host_wants m shows old now f kept held new left h comes pauses calls = record {
  grows = longer_log m shows old.host.log now.host.log h.log comes.grows calls.grows;
  by = λ ts names v first c to inside is.
      let n = named names m in
      let reach = comes.by ts names v first c to inside is in
      let w = waits_now m ts names v first old c now f kept held left reach pauses in
      w.same
      ∙ ap (λ s. after_step s w.next.world left (run n v left))
      (calls.by names v (stored kept) first w.next to refl (inside_longer m shows first old.host.log now.host.log comes.grows inside) w.world w.stand.stacks w.ruled w.fit);
}

-- the call ends by itself
pub call_returns : (m : Module) (shows : List Show) (old now : Live) (kept : Store) (held : Stacks) (left : ℕ) → ComesTo m shows old now → Pauses m now.store now.stacks now.steps pause.Over kept held left → RunsSo m shows old ends.Finished (record { store = kept; stacks = held; steps = left; host = now.host })
call_returns m shows old now kept held left comes pauses = record {
  grows = comes.grows;
  by = λ ts names v first c to inside is.
      let n = named names m in
      let reach = comes.by ts names v first c to inside is in
      let o = pauses.by ts reach.next reach.is.stand reach.is.sound in
      record {
        results = o.next.frame.operands;
        is =
            reach.same ∙ o.same.by n v (same_actions names m) ∙ run_is_over n v left o.next o.next.frame.operands o.ends.over
            ∙ ap (λ w. Ended (Finished o.next.frame.operands) w left) (o.world ∙ ap (with_store kept) reach.is.world);
        held = o.ends.held;
        types = o.types;
      };
}

pub call_traps : (m : Module) (shows : List Show) (old now : Live) (kept : Store) (held : Stacks) (left code : ℕ) → ComesTo m shows old now → Pauses m now.store now.stacks now.steps (pause.Traps code) kept held left → RunsSo m shows old (ends.Traps code) (record { store = kept; stacks = held; steps = left; host = now.host })
call_traps m shows old now kept held left code comes pauses = record {
  grows = comes.grows;
  by = λ ts names v first c to inside is.
      let reach = comes.by ts names v first c to inside is in
      let o = pauses.by ts reach.next reach.is.stand reach.is.sound in
      reach.same ∙ o.by (named names m) v (same_actions names m) ∙ ap (λ w. Ended (Trap code) (with_store kept w) left) reach.is.world;
}

pub call_waits : (m : Module) (shows : List Show) (old now : Live) (kept : Store) (held : Stacks) (left : ℕ) → ComesTo m shows old now → Pauses m now.store now.stacks now.steps pause.StepsOut kept held left → RunsSo m shows old ends.StepsOut (record { store = kept; stacks = held; steps = left; host = now.host })
call_waits m shows old now kept held left comes pauses = record {
  grows = comes.grows;
  by = λ ts names v first c to inside is.
      let reach = comes.by ts names v first c to inside is in
      let o = pauses.by ts reach.next reach.is.stand reach.is.sound in
      (o.none, reach.same ∙ o.by (named names m) v (same_actions names m) ∙ ap (λ w. Going (with_store kept w)) reach.is.world);
}

-- the import that is called is there
pub import_there : (m : Module) (now : Live) (f : ℕ) (kept : Store) (held : Stacks) (left : ℕ) → IsHere m now → Pauses m now.store now.stacks now.steps (pause.Calls f) kept held left → f < length m.imports
import_there m now f kept held left here pauses = (pauses.by here.types here.config here.stand here.sound).imported
