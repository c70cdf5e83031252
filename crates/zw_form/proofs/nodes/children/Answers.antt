use Rattle.std.proofs.Common.{◌∙◌, ap, map, arith}
use Rattle.zw_tree.specs.Numbering.{from}
use Rattle.zw_form.proofs.SayLemmas.{siblings-past}
use Rattle.zw_tree.proofs.Standing.{children-are}
use Rattle.zw_form.proofs.nodes.children.Goals as goal

pub returns-then-n-count : goal.returns-then-n-count
returns-then-n-count c = ap (map (from c.args.ast.now)) c.children.ensures ∙ children-are c.args.ast.now c.args.n

pub returns-else-n-count : goal.returns-else-n-count
returns-else-n-count c = siblings-past c.args.ast.now c.args.n (omega arith)
