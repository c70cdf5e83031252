use Rattle.std.proofs.Common.{rules}
use Rattle.zw_wasm_run.proofs.Places.{ends_at-else, ends_at-end, ends_at-nothing}
use Rattle.zw_wasm_run.proofs.settle.due.Goals as goal

pub returns-in_default : goal.returns-in_default
returns-in_default c = ends_at-nothing c.args.instrs.now c.args.place (search rules)

pub returns-in-End : goal.returns-in-End
returns-in-End c = ends_at-end c.args.instrs.now c.args.place (search rules)

pub returns-in-Else : goal.returns-in-Else
returns-in-Else c = ends_at-else c.args.instrs.now c.args.place (search rules)
