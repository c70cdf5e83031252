use Rattle.std.proofs.Common.{arith}
use Rattle.zw_form.proofs.SayLemmas.{name-is, name-past}
use Rattle.zw_form.proofs.nodes.name.Goals as goal

pub returns-then-n-count : goal.returns-then-n-count
returns-then-n-count c = name-is c.args.ast.now c.args.n (omega arith) c.name.result.now c.name.ensures

pub returns-else-n-count : goal.returns-else-n-count
returns-else-n-count c = name-past c.args.ast.now c.args.n (omega arith)
