use Rattle.std.proofs.lemmas.Result.{on_err_weaker}
use Rattle.zw_wasm_run.proofs.Performances.{call_wanted}
use Rattle.zw_wasm_run.proofs.execute.execute.Goals as goal

pub returns-in-Call-clause-wants : goal.returns-in-Call-clause-wants
returns-in-Call-clause-wants c =
    on_err_weaker c.call_any.result (call_wanted c.args.m.now c.in-Call.func c.args.instr.now c.args.shared.now c.args.stacks.now c.in-Call.is) c.call_any.ensures.wants
