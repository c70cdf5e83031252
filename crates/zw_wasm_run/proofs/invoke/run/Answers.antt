use Rattle.std.proofs.Common.{◌≡◌, ℕ, ◌<◌, List, length, sym, subst}
use Rattle.zw_wasm.specs.declared.module.Module.{Module}
use Rattle.zw_wasm_run.specs.declared.pause.Pause.TheVariants as pause
use Rattle.zw_wasm_run.specs.declared.event.Event.{Event}
use Rattle.zw_wasm_run.specs.declared.host.Hosted.{Hosted}
use Rattle.zw_wasm_run.specs.declared.host.Hosted.TheVariants as hosted
use Rattle.zw_wasm_run.specs.declared.machine.Show.{Show}
use Rattle.zw_wasm_run.specs.declared.stacks.Stacks.{Stacks}
use Rattle.zw_wasm_run.specs.declared.store.Store.{Store}
use Rattle.zw_wasm_run.specs.Hosting.{CallsHostOn, HostState}
use Rattle.zw_wasm_run.specs.Invocation.{Live}
use Rattle.zw_wasm_run.specs.Loops.{Pauses}
use Rattle.zw_wasm_run.proofs.CallRooms.{asks_host, call_begins, call_wants, once}
use Rattle.zw_wasm_run.proofs.Invoking.{call_returns, call_traps, call_waits, host_goes_on, host_traps, host_wants, import_there, is_here, sound_here}
use Rattle.zw_wasm_run.proofs.LoopRooms.{more_room}
use Rattle.zw_wasm_run.proofs.StepRooms.{of_any_error}
use Rattle.zw_wasm_run.proofs.invoke.run.Goals as goal

abbrev state : List ℕ → List Event → HostState
state replies log = record { replies = replies; log = log }

abbrev live : Store → Stacks → ℕ → List ℕ → List Event → Live
live store stacks steps replies log = record { store = store; stacks = stacks; steps = steps; host = state replies log }

pub go_on-requires : goal.go_on-requires
go_on-requires c =
    let old = live c.args.store.now c.args.stacks.now c.args.steps.now c.args.replies.now c.args.log.now.items in
    let now = live c.calls.store c.calls.stacks c.calls.steps c.calls.replies c.calls.log.items in
    sound_here c.args.code.now now (is_here c.args.code.now c.args.shows.now old now c.requires.shown c.requires.ready c.calls.invariant.comes)

pub returns-in-Over-clause-runs : goal.returns-in-Over-clause-runs
returns-in-Over-clause-runs c =
    let old = live c.args.store.now c.args.stacks.now c.args.steps.now c.args.replies.now c.args.log.now.items in
    let now = live c.calls.store c.calls.stacks c.calls.steps c.calls.replies c.calls.log.items in
    call_returns c.args.code.now c.args.shows.now old now c.go_on.new.store c.go_on.new.stacks c.go_on.new.steps c.calls.invariant.comes
    (subst (λ p. Pauses c.args.code.now c.calls.store c.calls.stacks c.calls.steps p c.go_on.new.store c.go_on.new.stacks c.go_on.new.steps) c.in-Over.is c.in_ok-go_on.ensures.pauses)

pub returns-in-StepsOut-clause-runs : goal.returns-in-StepsOut-clause-runs
returns-in-StepsOut-clause-runs c =
    let old = live c.args.store.now c.args.stacks.now c.args.steps.now c.args.replies.now c.args.log.now.items in
    let now = live c.calls.store c.calls.stacks c.calls.steps c.calls.replies c.calls.log.items in
    call_waits c.args.code.now c.args.shows.now old now c.go_on.new.store c.go_on.new.stacks c.go_on.new.steps c.calls.invariant.comes
    (subst (λ p. Pauses c.args.code.now c.calls.store c.calls.stacks c.calls.steps p c.go_on.new.store c.go_on.new.stacks c.go_on.new.steps) c.in-StepsOut.is c.in_ok-go_on.ensures.pauses)

pub returns-in-Traps-clause-runs : goal.returns-in-Traps-clause-runs
returns-in-Traps-clause-runs c =
    let old = live c.args.store.now c.args.stacks.now c.args.steps.now c.args.replies.now c.args.log.now.items in
    let now = live c.calls.store c.calls.stacks c.calls.steps c.calls.replies c.calls.log.items in
    call_traps c.args.code.now c.args.shows.now old now c.go_on.new.store c.go_on.new.stacks c.go_on.new.steps c.in-Traps.cause c.calls.invariant.comes
    (subst (λ p. Pauses c.args.code.now c.calls.store c.calls.stacks c.calls.steps p c.go_on.new.store c.go_on.new.stacks c.go_on.new.steps) c.in-Traps.is c.in_ok-go_on.ensures.pauses)

pub call_host-requires-clause-imported : goal.call_host-requires-clause-imported
call_host-requires-clause-imported c =
    let old = live c.args.store.now c.args.stacks.now c.args.steps.now c.args.replies.now c.args.log.now.items in
    let now = live c.calls.store c.calls.stacks c.calls.steps c.calls.replies c.calls.log.items in
    let here = is_here c.args.code.now c.args.shows.now old now c.requires.shown c.requires.ready c.calls.invariant.comes in
    let pauses : Pauses c.args.code.now c.calls.store c.calls.stacks c.calls.steps (pause.Calls c.in-Calls.import) c.go_on.new.store c.go_on.new.stacks c.go_on.new.steps =
    subst (λ p. Pauses c.args.code.now c.calls.store c.calls.stacks c.calls.steps p c.go_on.new.store c.go_on.new.stacks c.go_on.new.steps) c.in-Calls.is c.in_ok-go_on.ensures.pauses in
    subst (λ (m : Module). c.in-Calls.import < length m.imports) (sym c.module.ensures)
    (import_there c.args.code.now now c.in-Calls.import c.go_on.new.store c.go_on.new.stacks c.go_on.new.steps here pauses)

-- what the host's call comes to, at the module and the memory
host_known : (code given : Module) (shows : List Show) (import : ℕ) (memory items : List ℕ) (old new : Stacks) (before after : HostState) (e x : Hosted) → given ≡ code → memory ≡ items → e ≡ x
    → CallsHostOn given shows import memory old before e new after → CallsHostOn code shows import items old before x new after
host_known code given shows import memory items old new before after e x same held is calls =
    subst (λ y. CallsHostOn code shows import items old before y new after) is
    (subst (λ ms. CallsHostOn code shows import ms old before e new after) held (subst (λ m. CallsHostOn m shows import memory old before e new after) same calls))

pub calls-init : goal.calls-init
calls-init c = call_begins c.args.code.now c.args.shows.now (live c.args.store.now c.args.stacks.now c.args.steps.now c.args.replies.now c.args.log.now.items)

pub calls-preserved : goal.calls-preserved
calls-preserved c =
    let old = live c.args.store.now c.args.stacks.now c.args.steps.now c.args.replies.now c.args.log.now.items in
    let now = live c.calls.store c.calls.stacks c.calls.steps c.calls.replies c.calls.log.items in
    let pauses : Pauses c.args.code.now c.calls.store c.calls.stacks c.calls.steps (pause.Calls c.in-Calls.import) c.go_on.new.store c.go_on.new.stacks c.go_on.new.steps =
    subst (λ p. Pauses c.args.code.now c.calls.store c.calls.stacks c.calls.steps p c.go_on.new.store c.go_on.new.stacks c.go_on.new.steps) c.in-Calls.is c.in_ok-go_on.ensures.pauses in
    record {
      comes = host_goes_on c.args.code.now c.args.shows.now old now c.in-Calls.import c.go_on.new.store c.go_on.new.stacks c.call_host.new.stacks c.go_on.new.steps _ c.calls.invariant.comes pauses
          (host_known c.args.code.now c.module.result.now c.args.shows.now c.in-Calls.import c.as_slice-memory.result.now c.go_on.new.store.memory.items c.go_on.new.stacks c.call_host.new.stacks _ _ c.in_ok-call_host.field-0 hosted.Goes
          c.module.ensures c.as_slice-memory.ensures.value c.in-Goes.is c.in_ok-call_host.ensures.calls);
      asked = once (asks_host c.args.code.now c.args.shows.now old now c.in-Calls.import c.go_on.new.store c.go_on.new.stacks c.go_on.new.steps c.calls.invariant.asked pauses);
      room = more_room c.args.stacks.now c.go_on.new.stacks c.call_host.new.stacks (more_room c.args.stacks.now c.calls.stacks c.go_on.new.stacks c.calls.invariant.room c.go_on.ensures.room) c.call_host.ensures.room;
    }

pub returns-in-Traps-2-clause-runs : goal.returns-in-Traps-2-clause-runs
returns-in-Traps-2-clause-runs c =
    let old = live c.args.store.now c.args.stacks.now c.args.steps.now c.args.replies.now c.args.log.now.items in
    let now = live c.calls.store c.calls.stacks c.calls.steps c.calls.replies c.calls.log.items in
    host_traps c.args.code.now c.args.shows.now old now c.in-Calls.import c.go_on.new.store c.go_on.new.stacks c.call_host.new.stacks c.go_on.new.steps _ c.in-Traps-2.cause c.calls.invariant.comes
    (subst (λ p. Pauses c.args.code.now c.calls.store c.calls.stacks c.calls.steps p c.go_on.new.store c.go_on.new.stacks c.go_on.new.steps) c.in-Calls.is c.in_ok-go_on.ensures.pauses)
    (host_known c.args.code.now c.module.result.now c.args.shows.now c.in-Calls.import c.as_slice-memory.result.now c.go_on.new.store.memory.items c.go_on.new.stacks c.call_host.new.stacks _ _ c.in_ok-call_host.field-0 (hosted.Traps c.in-Traps-2.cause)
    c.module.ensures c.as_slice-memory.ensures.value c.in-Traps-2.is c.in_ok-call_host.ensures.calls)

pub returns-in-WantsReply-clause-runs : goal.returns-in-WantsReply-clause-runs
returns-in-WantsReply-clause-runs c =
    let old = live c.args.store.now c.args.stacks.now c.args.steps.now c.args.replies.now c.args.log.now.items in
    let now = live c.calls.store c.calls.stacks c.calls.steps c.calls.replies c.calls.log.items in
    host_wants c.args.code.now c.args.shows.now old now c.in-Calls.import c.go_on.new.store c.go_on.new.stacks c.call_host.new.stacks c.go_on.new.steps _ c.calls.invariant.comes
    (subst (λ p. Pauses c.args.code.now c.calls.store c.calls.stacks c.calls.steps p c.go_on.new.store c.go_on.new.stacks c.go_on.new.steps) c.in-Calls.is c.in_ok-go_on.ensures.pauses)
    (host_known c.args.code.now c.module.result.now c.args.shows.now c.in-Calls.import c.as_slice-memory.result.now c.go_on.new.store.memory.items c.go_on.new.stacks c.call_host.new.stacks _ _ c.in_ok-call_host.field-0 hosted.WantsReply
    c.module.ensures c.as_slice-memory.ensures.value c.in-WantsReply.is c.in_ok-call_host.ensures.calls)

pub returns-in_err-go_on-clause-wants : goal.returns-in_err-go_on-clause-wants
returns-in_err-go_on-clause-wants c =
    let old = live c.args.store.now c.args.stacks.now c.args.steps.now c.args.replies.now c.args.log.now.items in
    let now = live c.calls.store c.calls.stacks c.calls.steps c.calls.replies c.calls.log.items in
    of_any_error c.from_residual.result (call_wants c.args.code.now c.args.shows.now old now c.calls.invariant.asked c.in_err-go_on.ensures.wants)

pub returns-in_err-call_host-clause-wants : goal.returns-in_err-call_host-clause-wants
returns-in_err-call_host-clause-wants c =
    let old = live c.args.store.now c.args.stacks.now c.args.steps.now c.args.replies.now c.args.log.now.items in
    let now = live c.calls.store c.calls.stacks c.calls.steps c.calls.replies c.calls.log.items in
    of_any_error c.from_residual-in_err-call_host.result
    (asks_host c.args.code.now c.args.shows.now old now c.in-Calls.import c.go_on.new.store c.go_on.new.stacks c.go_on.new.steps c.calls.invariant.asked
    (subst (λ p. Pauses c.args.code.now c.calls.store c.calls.stacks c.calls.steps p c.go_on.new.store c.go_on.new.stacks c.go_on.new.steps) c.in-Calls.is c.in_ok-go_on.ensures.pauses))
