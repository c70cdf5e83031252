use Rattle.std.proofs.Common.{arith}
use Rattle.zw_wasm_check.proofs.Coding.{behind_some, behind_none}
use Rattle.zw_wasm_check.proofs.body.behind_end.Goals as goal

pub returns-then-next-count-clause-first : goal.returns-then-next-count-clause-first
returns-then-next-count-clause-first c = λ instrs same. behind_some instrs c.args.next (omega arith)

pub returns-else-next-count-clause-first : goal.returns-else-next-count-clause-first
returns-else-next-count-clause-first c = λ instrs same. behind_none instrs c.args.next (omega arith)
