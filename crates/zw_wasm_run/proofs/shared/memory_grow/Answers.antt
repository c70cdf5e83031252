use Rattle.std.proofs.Common.{◌≡◌, rules}
use Rattle.zw_wasm.specs.Reduction.{greatest_pages}
use Rattle.zw_wasm_run.proofs.StepRooms.{of_any_error, wants_growth}
use Rattle.zw_wasm_run.proofs.shared.memory_grow.Goals as goal

pub returns-in_err-effect-clause-wants : goal.returns-in_err-effect-clause-wants
returns-in_err-effect-clause-wants c =
    let m = c.args.m.now in
    let limit : c.most_pages-most.result ≡ greatest_pages m.memories = search rules in
    of_any_error c.from_residual.result (wants_growth m c.most_pages-most.result c.args.shared.now c.args.stacks.now limit c.in_err-effect.ensures.wants)
