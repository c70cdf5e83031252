use Rattle.std.proofs.Common.{arith}
use Rattle.zw_form.proofs.SayLemmas.{number-is, number-past}
use Rattle.zw_form.proofs.nodes.value.Goals as goal

pub returns-then-n-count : goal.returns-then-n-count
returns-then-n-count c = number-is c.args.ast.now c.args.n (omega arith) c.number.result c.number.ensures

pub returns-else-n-count : goal.returns-else-n-count
returns-else-n-count c = number-past c.args.ast.now c.args.n (omega arith)
