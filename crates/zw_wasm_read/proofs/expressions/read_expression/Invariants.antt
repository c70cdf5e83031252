use Rattle.std.proofs.Common.{length, reverse}
use Rattle.zw_wasm_read.proofs.ExpressionLemmas.{Under}
use Rattle.zw_wasm_read.proofs.expressions.read_expression.Given as goal

abbrev pub invariant-loop-opened : goal.invariant-loop-opened
invariant-loop-opened l = Under l.fn.b l.instrs (reverse l.opened) l.rest

abbrev pub decreases-loop-opened : goal.decreases-loop-opened
decreases-loop-opened l = length l.rest
