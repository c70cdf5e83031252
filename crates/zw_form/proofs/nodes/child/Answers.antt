use Rattle.std.proofs.Common.{arith}
use Rattle.zw_form.proofs.SayLemmas.{child-at, after-past}
use Rattle.zw_form.proofs.nodes.child.Goals as goal

pub returns-then-n-count : goal.returns-then-n-count
returns-then-n-count c = child-at c.args.ast.now c.args.n c.args.k c.child.result c.child.ensures

pub returns-else-n-count : goal.returns-else-n-count
returns-else-n-count c = after-past c.args.ast.now c.args.n c.args.k (omega arith)
