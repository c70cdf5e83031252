use Rattle.std.proofs.Common.{◌≡◌, ℕ, ◌≤◌, List, length, None, Some, sym, ap, subst, ◌∙◌, rules}
use Rattle.zw_wasm.specs.declared.module.Module.{Module}
use Rattle.zw_wasm.specs.Functions.{func_type}
use Rattle.zw_wasm.specs.Validity.{IsValid}
use Rattle.zw_wasm_run.specs.declared.event.Event.{Event}
use Rattle.zw_wasm_run.specs.declared.stacks.Stacks.{Stacks}
use Rattle.zw_wasm_run.specs.declared.store.Store.{Store}
use Rattle.zw_wasm_run.specs.Invocation.{BeginsCall, Live, outcome_of}
use Rattle.zw_wasm_run.specs.Rooms.{FunctionWants}
use Rattle.zw_wasm_run.proofs.CallRooms.{begin_wants, function_wants}
use Rattle.zw_wasm_run.proofs.Functions.{body_called, body_there, callable, called_as, ready, typed_export}
use Rattle.zw_wasm_run.proofs.StepRooms.{of_any_error}
use Rattle.zw_wasm_run.proofs.function.call_function.Goals as goal

abbrev live : Store → Stacks → ℕ → List ℕ → List Event → Live
live store stacks steps replies log = record { store = store; stacks = stacks; steps = steps; host = record { replies = replies; log = log } }

pub returns-in_default : goal.returns-in_default
returns-in_default c =
    let m = c.module-module.result.now in
    let same : m ≡ c.args.code.now = c.module-module.ensures.same ∙ c.checked.ensures in
    let none : func_type m c.args.func ≡ None = search rules in
    let valid : IsValid c.args.code.now = subst IsValid same c.module-module.ensures.valid in
    absurd (typed_export c.args.code.now c.args.func valid c.requires.exported (ap (λ (x : Module). func_type x c.args.func) (sym same) ∙ none))

pub begin-requires-clause-there : goal.begin-requires-clause-there
begin-requires-clause-there c =
    let m = c.module-module.result.now in
    let is : func_type m c.args.func ≡ Some c.in-Some.ty.now = search rules in
    let own : length m.imports ≤ c.args.func = search rules in
    body_there m c.args.func c.in-Some.ty.now c.module-module.ensures.valid is own

pub run-requires-clause-ready : goal.run-requires-clause-ready
run-requires-clause-ready c =
    let m = c.module-module.result.now in
    let same : m ≡ c.args.code.now = c.module-module.ensures.same ∙ c.checked.ensures in
    let valid : IsValid c.args.code.now = subst IsValid same c.module-module.ensures.valid in
    let is : func_type m c.args.func ≡ Some c.in-Some.ty.now = search rules in
    let typed : func_type c.args.code.now c.args.func ≡ Some c.in-Some.ty.now = ap (λ (x : Module). func_type x c.args.func) (sym same) ∙ is in
    let begins = subst (λ (x : Module). BeginsCall x c.args.func c.args.args.now c.begin.new.stacks) same c.in_ok-begin.ensures.begins in
    ready c.args.code.now c.args.shows.now c.args.func c.args.args.now _ c.begin.new.stacks
    (callable c.args.code.now c.args.shows.now c.args.func c.args.args.now (live c.args.store.now c.args.stacks.now c.args.steps.now c.args.replies.now c.args.log.now.items) c.in-Some.ty.now valid c.requires typed) begins

pub returns-clause-called : goal.returns-clause-called
returns-clause-called c =
    let m = c.module-module.result.now in
    let same : m ≡ c.args.code.now = c.module-module.ensures.same ∙ c.checked.ensures in
    let valid : IsValid c.args.code.now = subst IsValid same c.module-module.ensures.valid in
    let is : func_type m c.args.func ≡ Some c.in-Some.ty.now = search rules in
    let typed : func_type c.args.code.now c.args.func ≡ Some c.in-Some.ty.now = ap (λ (x : Module). func_type x c.args.func) (sym same) ∙ is in
    let begins = subst (λ (x : Module). BeginsCall x c.args.func c.args.args.now c.begin.new.stacks) same c.in_ok-begin.ensures.begins in
    let words : c.outcome.result ≡ outcome_of c.in-Some.ty.now.result c.in_ok-end.end c.run.new.stacks.words.items =
    c.outcome.ensures ∙ ap (outcome_of c.in-Some.ty.now.result c.in_ok-end.end) c.as_slice.ensures.value in
    called_as c.args.code.now c.args.shows.now c.args.func c.args.args.now _ _ _ _ words
    (body_called c.args.code.now c.args.shows.now c.args.func c.args.args.now c.in-Some.ty.now _ c.begin.new.stacks c.in_ok-end.end _
    (callable c.args.code.now c.args.shows.now c.args.func c.args.args.now (live c.args.store.now c.args.stacks.now c.args.steps.now c.args.replies.now c.args.log.now.items) c.in-Some.ty.now valid c.requires typed)
    typed begins c.in_ok-end.ensures.runs)

pub returns-in_err-begin-clause-wants : goal.returns-in_err-begin-clause-wants
returns-in_err-begin-clause-wants c =
    let m = c.module-module.result.now in
    let now = live c.args.store.now c.args.stacks.now c.args.steps.now c.args.replies.now c.args.log.now.items in
    let same : m ≡ c.args.code.now = c.module-module.ensures.same ∙ c.checked.ensures in
    let own : length m.imports ≤ c.args.func = search rules in
    of_any_error c.from_residual.result
    (subst (λ (x : Module). FunctionWants x c.args.func c.args.args.now now) same (begin_wants m c.args.func c.args.args.now now own c.in_err-begin.ensures.wants))

pub returns-in_err-end-clause-wants : goal.returns-in_err-end-clause-wants
returns-in_err-end-clause-wants c =
    let m = c.module-module.result.now in
    let same : m ≡ c.args.code.now = c.module-module.ensures.same ∙ c.checked.ensures in
    let valid : IsValid c.args.code.now = subst IsValid same c.module-module.ensures.valid in
    let is : func_type m c.args.func ≡ Some c.in-Some.ty.now = search rules in
    let typed : func_type c.args.code.now c.args.func ≡ Some c.in-Some.ty.now = ap (λ (x : Module). func_type x c.args.func) (sym same) ∙ is in
    let here : length m.imports ≤ c.args.func = search rules in
    let own : length c.args.code.now.imports ≤ c.args.func = subst (λ (x : Module). length x.imports ≤ c.args.func) same here in
    let begins = subst (λ (x : Module). BeginsCall x c.args.func c.args.args.now c.begin.new.stacks) same c.in_ok-begin.ensures.begins in
    of_any_error c.from_residual-in_err-end.result
    (function_wants c.args.code.now c.args.shows.now c.args.func c.args.args.now (live c.args.store.now c.args.stacks.now c.args.steps.now c.args.replies.now c.args.log.now.items) c.begin.new.stacks
    (callable c.args.code.now c.args.shows.now c.args.func c.args.args.now _ c.in-Some.ty.now valid c.requires typed) own begins c.begin.ensures.room c.in_err-end.ensures.wants)
