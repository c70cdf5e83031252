use Rattle.std.proofs.Common.{◌≡◌, ◌-◌, suc, subst, arith, rules}
use Rattle.zw_wasm_run.specs.declared.pause.Taken.{Taken}
use Rattle.zw_wasm_run.specs.Settling.{IsReached}
use Rattle.zw_wasm_run.specs.Stores.{Steps}
use Rattle.zw_wasm_run.proofs.Looping.{calls_out, goes_further, goes_on, goes_settled, is_over, no_step, run_wants, stops}
use Rattle.zw_wasm_run.proofs.StepRooms.{of_any_error}
use Rattle.zw_wasm_run.proofs.run.go_on.Goals as goal

pub returns-in_default-clause-pauses : goal.returns-in_default-clause-pauses
returns-in_default-clause-pauses c = is_over c.args.code.now c.args.store.now c.steps.store c.args.stacks.now c.steps.stacks c.next.new.stacks c.args.steps.now c.steps.steps c.steps.invariant.goes c.in_default.ensures.due

pub returns-then-steps-eq0-clause-pauses : goal.returns-then-steps-eq0-clause-pauses
returns-then-steps-eq0-clause-pauses c =
    let m = c.args.code.now in
    let i = c.in-Some.instr.now in
    let reached : IsReached m c.steps.stacks i c.next.new.stacks = c.in-Some.ensures.due in
    let goes = goes_settled m c.args.store.now c.steps.store c.args.stacks.now c.steps.stacks c.next.new.stacks c.args.steps.now c.steps.steps i c.steps.invariant.goes c.next.ensures.room c.next.ensures.fewer reached in
    no_step m c.args.store.now c.steps.store c.args.stacks.now c.next.new.stacks c.args.steps.now c.steps.steps i goes reached.at c.if-steps-eq0.true

pub steps-preserved : goal.steps-preserved
steps-preserved c =
    let m = c.args.code.now in
    let i = c.in-Some.instr.now in
    let reached : IsReached m c.steps.stacks i c.next.new.stacks = c.in-Some.ensures.due in
    let goes = goes_settled m c.args.store.now c.steps.store c.args.stacks.now c.steps.stacks c.next.new.stacks c.args.steps.now c.steps.steps i c.steps.invariant.goes c.next.ensures.room c.next.ensures.fewer reached in
    let count : c.steps.steps ≡ suc (c.steps.steps - 1) = omega (arith, c.if-steps-eq0.false) in
    let further = goes_further m c.args.store.now c.steps.store c.step.new.store c.args.stacks.now c.next.new.stacks c.step.new.stacks c.args.steps.now c.steps.steps (c.steps.steps - 1) count goes c.step.ensures.room
    (subst (λ (t : Taken). Steps m c.steps.store c.next.new.stacks t c.step.new.store c.step.new.stacks) c.in-Goes.is c.in_ok-step.ensures.takes) in
    record { goes = further; own = search rules; fewer = omega arith }

pub frames-preserved : goal.frames-preserved
frames-preserved c =
    let m = c.args.code.now in
    let i = c.in-Some.instr.now in
    let reached : IsReached m c.steps.stacks i c.next.new.stacks = c.in-Some.ensures.due in
    let goes = goes_settled m c.args.store.now c.steps.store c.args.stacks.now c.steps.stacks c.next.new.stacks c.args.steps.now c.steps.steps i c.steps.invariant.goes c.next.ensures.room c.next.ensures.fewer reached in
    let count : c.steps.steps ≡ suc (c.steps.steps - 1) = omega (arith, c.if-steps-eq0.false) in
    goes_further m c.args.store.now c.steps.store c.step.new.store c.args.stacks.now c.next.new.stacks c.step.new.stacks c.args.steps.now c.steps.steps (c.steps.steps - 1) count goes c.step.ensures.room
    (subst (λ (t : Taken). Steps m c.steps.store c.next.new.stacks t c.step.new.store c.step.new.stacks) c.in-Goes.is c.in_ok-step.ensures.takes)

pub returns-in-Calls-clause-pauses : goal.returns-in-Calls-clause-pauses
returns-in-Calls-clause-pauses c =
    let m = c.args.code.now in
    let i = c.in-Some.instr.now in
    let reached : IsReached m c.steps.stacks i c.next.new.stacks = c.in-Some.ensures.due in
    let goes = goes_settled m c.args.store.now c.steps.store c.args.stacks.now c.steps.stacks c.next.new.stacks c.args.steps.now c.steps.steps i c.steps.invariant.goes c.next.ensures.room c.next.ensures.fewer reached in
    let count : c.steps.steps ≡ suc (c.steps.steps - 1) = omega (arith, c.if-steps-eq0.false) in
    calls_out m c.args.store.now c.steps.store c.step.new.store c.args.stacks.now c.next.new.stacks c.step.new.stacks c.args.steps.now c.steps.steps (c.steps.steps - 1) c.in-Calls.func count goes
    (subst (λ (t : Taken). Steps m c.steps.store c.next.new.stacks t c.step.new.store c.step.new.stacks) c.in-Calls.is c.in_ok-step.ensures.takes)

pub returns-in-Traps-clause-pauses : goal.returns-in-Traps-clause-pauses
returns-in-Traps-clause-pauses c =
    let m = c.args.code.now in
    let i = c.in-Some.instr.now in
    let reached : IsReached m c.steps.stacks i c.next.new.stacks = c.in-Some.ensures.due in
    let goes = goes_settled m c.args.store.now c.steps.store c.args.stacks.now c.steps.stacks c.next.new.stacks c.args.steps.now c.steps.steps i c.steps.invariant.goes c.next.ensures.room c.next.ensures.fewer reached in
    let count : c.steps.steps ≡ suc (c.steps.steps - 1) = omega (arith, c.if-steps-eq0.false) in
    stops m c.args.store.now c.steps.store c.step.new.store c.args.stacks.now c.next.new.stacks c.step.new.stacks c.args.steps.now c.steps.steps (c.steps.steps - 1) c.in-Traps.cause count goes
    (subst (λ (t : Taken). Steps m c.steps.store c.next.new.stacks t c.step.new.store c.step.new.stacks) c.in-Traps.is c.in_ok-step.ensures.takes)

pub frames-init : goal.frames-init
frames-init c = goes_on c.args.code.now c.args.store.now c.args.stacks.now c.args.steps.now

pub returns-in_err-step-clause-wants : goal.returns-in_err-step-clause-wants
returns-in_err-step-clause-wants c =
    let m = c.args.code.now in
    let i = c.in-Some.instr.now in
    let reached : IsReached m c.steps.stacks i c.next.new.stacks = c.in-Some.ensures.due in
    let goes = goes_settled m c.args.store.now c.steps.store c.args.stacks.now c.steps.stacks c.next.new.stacks c.args.steps.now c.steps.steps i c.steps.invariant.goes c.next.ensures.room c.next.ensures.fewer reached in
    let count : c.steps.steps ≡ suc (c.steps.steps - 1) = omega (arith, c.if-steps-eq0.false) in
    of_any_error c.from_residual.result (run_wants m c.args.store.now c.steps.store c.args.stacks.now c.next.new.stacks c.args.steps.now c.steps.steps (c.steps.steps - 1) count goes c.in_err-step.ensures.wants)
