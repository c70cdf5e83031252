use Rattle.std.proofs.Common.{◌∙◌, arith}
use Rattle.zw_form.proofs.SayLemmas.{role-is, role-past}
use Rattle.zw_form.proofs.nodes.role.Goals as goal

pub returns-then-n-count : goal.returns-then-n-count
returns-then-n-count c = c.role_of.ensures ∙ role-is c.args.ast.now c.args.n (omega arith) c.node.result.now c.node.ensures

pub returns-else-n-count : goal.returns-else-n-count
returns-else-n-count c = role-past c.args.ast.now c.args.n (omega arith)
