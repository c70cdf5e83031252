use Rattle.std.proofs.Common.{arith}
use Rattle.zw_scope_sites.proofs.SayLemmas.{children-past}
use Rattle.zw_scope_sites.proofs.nodes.children.Goals as goal

pub returns-else-n-count : goal.returns-else-n-count
returns-else-n-count c = children-past c.args.ast.now c.args.n (omega arith)
