use Rattle.zw_wasm_run.proofs.StepRooms.{of_any_error}
use Rattle.zw_wasm_run.proofs.Reserving.{is_outside}
use Rattle.zw_wasm_run.proofs.held.Machine.call.Goals as goal

pub returns-in_err-end-clause-outside : goal.returns-in_err-end-clause-outside
returns-in_err-end-clause-outside c =
    of_any_error c.from_residual.result
    (is_outside c.args.self.now c.args.export c.args.args.now (record { replies = c.args.replies.now; log = c.args.log.now.items }) c.args.steps.now c.in_err-end.ensures.wants)
