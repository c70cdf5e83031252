-- Coming: what a call of the machine comes to, in the words of its run.
use Rattle.std.proofs.Common.{◌≡◌, ℕ, List, [], ◌∷◌, ◌++◌, map, refl, sym, ap, ◌∙◌, subst}
use Rattle.std.specs.List.{AllByRecursion, flat_map}
use Rattle.zw_exec.specs.Ends.{end_of, outcome_end, session_end}
use Rattle.zw_exec.specs.Hosts.{event_text, host_line, signed_view, told_apart}
use Rattle.zw_exec.specs.Runs.{IsIdle}
use Rattle.zw_exec.specs.Sessions.{IsCallOf, left_by, lines_of, run_of, world_of}
use Rattle.zw_exec.specs.declared.call.SessionCall.{SessionCall}
use Rattle.zw_exec.specs.declared.end.SessionEnd.TheVariants.{Done}
use Rattle.zw_exec.proofs.Telling.{Tells, call_tells, done_goes_on, each_signed, runs_of, runs_signed}
use Rattle.zw_report.specs.Lines.{call_line, end_line}
use Rattle.zw_report.specs.declared.arg.Arg.{Arg}
use Rattle.zw_report.specs.declared.end.End.{End}
use Rattle.zw_wasm.specs.declared.module.Module.{Module}
use Rattle.zw_wasm.specs.declared.num.Num.{Num}
use Rattle.zw_wasm.specs.Reduction.{Run, World}
use Rattle.zw_wasm_run.specs.Calls.{seen}
use Rattle.zw_wasm_run.specs.Hosting.{IsShownCall}
use Rattle.zw_wasm_run.specs.MachineCalls.{Around, CallEnds, Runs, SameCode, state_around}
use Rattle.zw_wasm_run.specs.Machines.{store_of}
use Rattle.zw_wasm_run.specs.declared.event.Event.{Event}
use Rattle.zw_wasm_run.specs.declared.event.Outcome.{Outcome}

events-read : (m : Module) (events : List Event) → flat_map host_line (map (seen (told_apart m) (signed_view m)) events) ≡ flat_map (event_text m) events
unfolding event_text
events-read m [] = refl
events-read m (e ∷ es) = ap (λ l. event_text m e ++ l) (events-read m es)

-- what is told of a call
pub record Comes (old : Around) (c : SessionCall) (e : Outcome) (new : Around) : Type 0 where
  pub lines : lines_of old.machine.code c (run_of old.machine.code c (state_around old)) ≡ call_line c.name c.args ++ flat_map (event_text new.machine.code) new.host.log ++ end_line (outcome_end new.machine.code (store_of new.machine) e)
  pub each : AllByRecursion (IsShownCall new.machine.code []) new.host.log
  pub ends : session_end (outcome_end new.machine.code (store_of new.machine) e) ≡ session_end (end_of old.machine.code (run_of old.machine.code c (state_around old)))
  pub left : state_around new ≡ left_by (run_of old.machine.code c (state_around old))
  pub code : new.machine.code ≡ old.machine.code
  pub idle : session_end (outcome_end new.machine.code (store_of new.machine) e) ≡ Done → IsIdle new.machine

-- the lines of a run that ended so
lines-told : (m : Module) (c : SessionCall) (r : Run) (w : World) (left : ℕ) (e : Outcome) (events : List Event) → Tells m r w left e → w.events ≡ map (seen (told_apart m) (signed_view m)) events
    → lines_of m c r ≡ call_line c.name c.args ++ flat_map (event_text m) events ++ end_line (outcome_end m w.store e)
unfolding lines_of
lines-told m c r w left e events t is =
    let shown : flat_map host_line (world_of r).events ≡ flat_map (event_text m) events =
    ap (λ (x : World). flat_map host_line x.events) t.world ∙ ap (λ l. flat_map host_line l) is ∙ events-read m events in
    ap (λ l. call_line c.name c.args ++ l ++ end_line (end_of m r)) shown
    ∙ ap (λ x. call_line c.name c.args ++ flat_map (event_text m) events ++ end_line x) t.end

-- a machine that isn't over and shows no bytes made a call, before which nothing was logged
pub comes : (old : Around) (c : SessionCall) (nums : List Num) (e : Outcome) (new : Around) → IsIdle old.machine → IsCallOf old.machine.code c → old.host.log ≡ [] → nums ≡ c.nums → CallEnds old.machine.over c.func nums old e new → SameCode old.machine new.machine → Comes old c e new
comes old c nums e new idle is none given ends same =
    let m : Module = old.machine.code in
    let r : Runs c.func c.nums old e new = runs_of c.func c.nums old e new idle.goes_on (subst (λ (l : List Num). CallEnds old.machine.over c.func l old e new) given ends) in
    let w : World = record { store = store_of new.machine; replies = new.host.replies; events = map (seen (told_apart m) (signed_view m)) r.events } in
    let t : Tells m (run_of m c (state_around old)) w new.steps e =
    call_tells m c (state_around old) r.events e (state_around new) is (runs_signed c.func c.nums old e new idle.shows_none r) in
    let logged : new.host.log ≡ r.events = r.log ∙ ap (λ l. l ++ r.events) none in
    record {
      lines =
          lines-told m c (run_of m c (state_around old)) w new.steps e r.events t refl
          ∙ ap (λ l. call_line c.name c.args ++ flat_map (event_text m) l ++ end_line (outcome_end m (store_of new.machine) e)) (sym logged)
          ∙ ap (λ (x : Module). call_line c.name c.args ++ flat_map (event_text x) new.host.log ++ end_line (outcome_end x (store_of new.machine) e)) (sym same.code);
      each =
          subst (λ (l : List Event). AllByRecursion (IsShownCall new.machine.code []) l) (sym logged)
          (subst (λ (x : Module). AllByRecursion (IsShownCall x []) r.events) (sym same.code) (each_signed c.func c.nums old e new idle.shows_none r));
      ends = ap (λ (x : Module). session_end (outcome_end x (store_of new.machine) e)) same.code ∙ ap session_end (sym t.end);
      left = sym t.left_is;
      code = same.code;
      idle = λ done. record {
        goes_on = r.over ∙ done_goes_on new.machine.code (store_of new.machine) e done;
        shows_none = same.shows ∙ idle.shows_none;
      };
    }

pub each_in : (m n : Module) (l k : List Event) → m ≡ n → l ≡ k → AllByRecursion (IsShownCall n []) k → AllByRecursion (IsShownCall m []) l
each_in m n l k e f h =
    subst (λ (x : Module). AllByRecursion (IsShownCall x []) l) (sym e) (subst (λ (x : List Event). AllByRecursion (IsShownCall n []) x) (sym f) h)

pub lines_in : (name : List ℕ) (args : List Arg) (m n : Module) (l k : List Event) (a b : End) → m ≡ n → l ≡ k → a ≡ b
    → call_line name args ++ flat_map (event_text m) l ++ end_line a ≡ call_line name args ++ flat_map (event_text n) k ++ end_line b
lines_in name args m n l k a b e f g =
    ap (λ (x : Module). call_line name args ++ flat_map (event_text x) l ++ end_line a) e
    ∙ ap (λ (x : List Event). call_line name args ++ flat_map (event_text n) x ++ end_line a) f
    ∙ ap (λ (x : End). call_line name args ++ flat_map (event_text n) k ++ end_line x) g
