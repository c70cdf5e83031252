use Rattle.std.proofs.Common.{◌≤◌, ◌*◌, arith, subst}
use Rattle.std.specs.Prelude.{◌^◌}
use Rattle.zw_wasm.specs.declared.module.Module.{Module}
use Rattle.zw_wasm_reach.specs.Counts.{deepest}
use Rattle.zw_wasm_run.specs.Reserves.{HasRoom}
use Rattle.zw_wasm_run.proofs.StepRooms.{of_any_error}
use Rattle.zw_wasm_run.proofs.held.Machine.reserve.Goals as goal

pub returns-in_err-labels-clause-wants : goal.returns-in_err-labels-clause-wants
returns-in_err-labels-clause-wants c =
    let x = c.args.self.now in
    let many : 2 ^ 63 ≤ c.args.frames * deepest c.module.result.now = omega (arith, c.in_err-labels.ensures.wants) in
    let most : 2 ^ 63 ≤ c.args.frames * deepest x.code = subst (λ (m : Module). 2 ^ 63 ≤ c.args.frames * deepest m) c.module.ensures many in
    let outside : HasRoom x c.args.frames c.args.values → ⊥ = λ room. omega (arith, room.for_labels, x.stacks.labels.small, most) in
    of_any_error c.from_residual.result outside
