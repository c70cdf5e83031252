use Rattle.std.proofs.Common.{arith}
use Rattle.zw_scope_sites.proofs.SayLemmas.{token-is, token-past}
use Rattle.zw_scope_sites.proofs.nodes.first_token.Goals as goal

pub returns-then-n-count : goal.returns-then-n-count
returns-then-n-count c = token-is c.args.ast.now c.args.n (omega arith) c.node.result.now c.node.ensures

pub returns-else-n-count : goal.returns-else-n-count
returns-else-n-count c = token-past c.args.ast.now c.args.n (omega arith)
