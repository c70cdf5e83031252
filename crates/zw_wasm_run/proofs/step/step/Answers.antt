use Rattle.std.proofs.Common.{subst}
use Rattle.zw_wasm.specs.declared.module.Module.{Module}
use Rattle.zw_wasm_run.specs.Performing.{PerformWants, Performs}
use Rattle.zw_wasm_run.proofs.Ending.{locals_fit}
use Rattle.zw_wasm_run.proofs.Performances.{due_behind, passed, perform_wanted, performed}
use Rattle.zw_wasm_run.proofs.StepRooms.{of_any_error}
use Rattle.zw_wasm_run.proofs.step.step.Goals as goal

pub execute-requires-clause-fit : goal.execute-requires-clause-fit
execute-requires-clause-fit c =
    let fit = locals_fit c.args.code.now c.args.stacks.now c.requires.standing in
    record { order = fit.order; inside = fit.inside }

pub execute-requires-clause-due : goal.execute-requires-clause-due
execute-requires-clause-due c = due_behind c.args.code.now c.args.instr.now c.args.stacks.now c.requires.due

pub returns-clause-takes : goal.returns-clause-takes
returns-clause-takes c =
    let old = c.args.stacks.now in
    let t = c.in_ok-taken.taken in
    performed c.args.code.now c.args.instr.now c.args.store.now c.execute.new.shared old t c.execute.new.stacks c.requires.due
    (subst (λ (m : Module). Performs m c.args.instr.now c.args.store.now (passed old) t c.execute.new.shared c.execute.new.stacks) c.module.ensures c.in_ok-taken.ensures.performs)

pub returns-in_err-taken-clause-wants : goal.returns-in_err-taken-clause-wants
returns-in_err-taken-clause-wants c =
    let old = c.args.stacks.now in
    of_any_error c.from_residual.result
    (perform_wanted c.args.code.now c.args.instr.now c.args.store.now old c.requires.due
    (subst (λ (m : Module). PerformWants m c.args.instr.now c.args.store.now (passed old)) c.module.ensures c.in_err-taken.ensures.wants))
