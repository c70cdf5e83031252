-- Telling: what a call of the machine comes to is told as its run is.
use Rattle.std.proofs.Common.{◌≡◌, ℕ, suc, Bool, true, false, ◌&&◌, List, [], ◌∷◌, Option, Some, None, length, map, refl, sym, ap, ◌∙◌, arith, subst}
use Rattle.std.specs.Prelude.{slice_get, codes, nat_eq, nat_le, if◌then◌else◌}
use Rattle.std.specs.List.{AllByRecursion}
use Rattle.std.specs.Option.{option_to_list}
use Rattle.zw_exec.specs.Ends.{end_of, first_of, outcome_end, panic_of, panic_with, returned, session_end, trapped}
use Rattle.zw_exec.specs.Hosts.{name_of, signed_view, told_apart}
use Rattle.zw_exec.specs.Sessions.{IsCallOf, left_by, run_of, value_of, world_of}
use Rattle.zw_exec.specs.declared.call.SessionCall.{SessionCall}
use Rattle.zw_wasm_run.specs.MachineCalls.{Around, CallEnds, Runs, is_over, state_around}
use Rattle.zw_exec.specs.declared.end.SessionEnd.TheVariants.{Done}
use Rattle.zw_exec.proofs.HostLines.{shows_signed}
use Rattle.zw_report.specs.declared.end.End.TheVariants as ends
use Rattle.zw_wasm.specs.declared.module.Module.{Module}
use Rattle.zw_wasm.specs.declared.num.Num.{Num}
use Rattle.zw_wasm.specs.Functions.{func_type}
use Rattle.zw_session.specs.Causes.{last_cause, message_cause}
use Rattle.zw_wasm.specs.ModuleMachine.{arg_nums, exported_global, param_types, run_export, run_function}
use Rattle.zw_wasm.specs.Reduction.{Ended, Finished, Going, NoReply, Run, Store, Trap, World}
use Rattle.zw_wasm_run.specs.Calls.{CallRuns, State, run_to, seen}
use Rattle.zw_wasm_run.specs.Hosting.{IsShownCall}
use Rattle.zw_wasm_run.specs.Premises.{type_of}
use Rattle.zw_wasm_run.specs.declared.event.Event.{Event}
use Rattle.zw_wasm_run.specs.Machines.{bytes_of_memory}
use Rattle.zw_wasm_run.specs.declared.machine.Show.{Show}
use Rattle.zw_wasm_run.specs.declared.event.Outcome.{Outcome}
use Rattle.zw_wasm_run.specs.declared.event.Outcome.TheVariants as outcome
use Rattle.zw_wasm_run.proofs.Naming.{same_type}
use Rattle.zw_wasm_sound.proofs.Exports.{args-typed}

-- what a run leaves, and how it is told
pub record Tells (m : Module) (r : Run) (w : World) (left : ℕ) (e : Outcome) : Type 0 where
  pub world : world_of r ≡ w
  pub left_is : left_by r ≡ record { store = w.store; replies = w.replies; steps = left }
  pub end : end_of m r ≡ outcome_end m w.store e

first-of : (number : Option Num) → first_of (option_to_list number) ≡ number
first-of None = refl
first-of (Some n) = refl

some_same : {A : Type 0} (a b : A) → Some a ≡ Some b → a ≡ b
some_same a b e = cc

-- by how it ended
pub told_by : (m : Module) (r : Run) (w : World) (left : ℕ) (e : Outcome) → Some r ≡ run_to e w left → (e ≡ outcome.StepsOut → left ≡ 0) → Tells m r w left e
told_by m r w left (outcome.Result number) is spent =
    let same : r ≡ Ended (Finished (option_to_list number)) w left = some_same _ _ is in
    record {
      world = ap world_of same;
      left_is = ap left_by same;
      end = ap (λ x. end_of m x) same ∙ ap returned (first-of number);
    }
told_by m r w left outcome.WantsReply is spent =
    let same : r ≡ Ended NoReply w left = some_same _ _ is in
    record { world = ap world_of same; left_is = ap left_by same; end = ap (λ x. end_of m x) same }
told_by m r w left outcome.StepsOut is spent =
    let same : r ≡ Going w = some_same _ _ is in
    record {
      world = ap world_of same;
      left_is = ap left_by same ∙ ap (λ (n : ℕ). record { store = w.store; replies = w.replies; steps = n }) (sym (spent refl));
      end = ap (λ x. end_of m x) same;
    }
told_by m r w left (outcome.Trap code) is spent =
    let same : r ≡ Ended (Trap code) w left = some_same _ _ is in
    record { world = ap world_of same; left_is = ap left_by same; end = ap (λ x. end_of m x) same }
told_by m r w left outcome.Over is spent = absurd (cc)

-- the run of a call is that of its function with its numbers
run-is : (m : Module) (c : SessionCall) (s : State) → IsCallOf m c
    → run_of m c s ≡ run_function (told_apart m) (signed_view m) c.func c.nums (record { store = s.store; replies = s.replies; events = [] }) s.steps
unfolding run_of
run-is m c s is =
    let w : World = record { store = s.store; replies = s.replies; events = [] } in
    let names : ℕ → List ℕ = λ k. name_of (slice_get m.imports k) in
    ap (λ o. run_export o (told_apart m) (signed_view m) (map value_of c.args) w s.steps) is.exported
    ∙ ap (λ t. run_function (told_apart m) (signed_view m) c.func (arg_nums (param_types t) (map value_of c.args)) w s.steps) (same_type names m c.func)
    ∙ ap (λ nums. run_function (told_apart m) (signed_view m) c.func nums w s.steps) (sym is.numbers)

-- a call that the machine made
pub call_tells : (m : Module) (c : SessionCall) (s : State) (events : List Event) (e : Outcome) (after : State) → IsCallOf m c → CallRuns m [] c.func c.nums s events e after
    → Tells m (run_of m c s) (record { store = after.store; replies = after.replies; events = map (seen (told_apart m) (signed_view m)) events }) after.steps e
call_tells m c s events e after is runs =
    told_by m (run_of m c s) (record { store = after.store; replies = after.replies; events = map (seen (told_apart m) (signed_view m)) events }) after.steps e
    (ap (λ r. Some r) (run-is m c s is) ∙ runs.by (λ k. name_of (slice_get m.imports k)) (signed_view m) (shows_signed m)) runs.spent

-- the numbers have the parameters' types
length-map : {A B : Type 0} (f : A → B) (xs : List A) → length (map f xs) ≡ length xs
length-map f [] = refl
length-map f (x ∷ xs) = ap (λ n. suc n) (length-map f xs)

pub call_typed : (m : Module) (c : SessionCall) → IsCallOf m c → map type_of c.nums ≡ param_types (func_type m c.func)
call_typed m c is =
    ap (λ nums. map type_of nums) is.numbers
    ∙ args-typed (param_types (func_type m c.func)) (map value_of c.args) (omega (arith, length-map value_of c.args, is.enough))

-- on a machine that isn't over
pub runs_of : (func : ℕ) (given : List Num) (old : Around) (e : Outcome) (new : Around) → old.machine.over ≡ false → CallEnds old.machine.over func given old e new → Runs func given old e new
runs_of func given old e new goes_on ends = subst (λ (b : Bool). CallEnds b func given old e new) goes_on ends

-- where no bytes are shown
pub runs_signed : (func : ℕ) (given : List Num) (old : Around) (e : Outcome) (new : Around) → old.machine.shows ≡ [] → (r : Runs func given old e new)
    → CallRuns old.machine.code [] func given (state_around old) r.events e (state_around new)
runs_signed func given old e new none r = subst (λ (shows : List Show). CallRuns old.machine.code shows func given (state_around old) r.events e (state_around new)) none r.runs

pub each_signed : (func : ℕ) (given : List Num) (old : Around) (e : Outcome) (new : Around) → old.machine.shows ≡ [] → (r : Runs func given old e new)
    → AllByRecursion (IsShownCall old.machine.code []) r.events
each_signed func given old e new none r = subst (λ (shows : List Show). AllByRecursion (IsShownCall old.machine.code shows) r.events) none r.each

-- a trap ends a session
message_stops : (bytes : Option (List ℕ)) → session_end (panic_with bytes) ≡ Done → ⊥
message_stops None h = cc
message_stops (Some bytes) h = cc

cause_stops : (b : Bool) (cause : ℕ) → session_end (if b then ends.Panic cause [] else ends.Trap) ≡ Done → ⊥
cause_stops true cause h = cc
cause_stops false cause h = cc

told_stops : (b : Bool) (bytes : Option (List ℕ)) (c : Bool) (cause : ℕ) → session_end (if b then panic_with bytes else (if c then ends.Panic cause [] else ends.Trap)) ≡ Done → ⊥
told_stops true bytes c cause h = message_stops bytes h
told_stops false bytes c cause h = cause_stops c cause h

panic_stops : (m : Module) (memory : List ℕ) (cause at count : Option ℕ) → session_end (panic_of m memory cause at count) ≡ Done → ⊥
panic_stops m memory None at count h = cc
panic_stops m memory (Some cause) None count h = cc
panic_stops m memory (Some cause) (Some at) None h = cc
panic_stops m memory (Some cause) (Some at) (Some count) h =
    told_stops (nat_eq cause message_cause) (bytes_of_memory m.memories memory at count) (nat_le 1 cause && nat_le cause last_cause) cause h

trapped_stops : (m : Module) (store : Store) → session_end (trapped m store) ≡ Done → ⊥
trapped_stops m store h =
    panic_stops m store.memory (exported_global m store (codes "panic_cause")) (exported_global m store (codes "panic_ptr")) (exported_global m store (codes "panic_len")) h

-- a session goes on exactly behind a machine that isn't over
pub done_goes_on : (m : Module) (store : Store) (e : Outcome) → session_end (outcome_end m store e) ≡ Done → is_over e ≡ false
done_goes_on m store (outcome.Result number) h = refl
done_goes_on m store outcome.WantsReply h = absurd (cc)
done_goes_on m store outcome.StepsOut h = absurd (cc)
done_goes_on m store (outcome.Trap code) h = absurd (trapped_stops m store h)
done_goes_on m store outcome.Over h = absurd (trapped_stops m store h)
