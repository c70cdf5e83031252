use Rattle.zw_parse_expr.proofs.Smallness.{few_nodes}
use Rattle.zw_parse_expr.proofs.laws.files_are_small.Goals as goal

pub returns : goal.returns
returns c = few_nodes
