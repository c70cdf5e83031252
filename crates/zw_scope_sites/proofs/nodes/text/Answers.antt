use Rattle.std.proofs.Common.{arith}
use Rattle.zw_scope_sites.proofs.SayLemmas.{text-is, text-past}
use Rattle.zw_scope_sites.proofs.nodes.text.Goals as goal

pub returns-then-n-count : goal.returns-then-n-count
returns-then-n-count c = text-is c.args.ast.now c.args.n (omega arith) c.name.result.now c.name.ensures

pub returns-else-n-count : goal.returns-else-n-count
returns-else-n-count c = text-past c.args.ast.now c.args.n (omega arith)
