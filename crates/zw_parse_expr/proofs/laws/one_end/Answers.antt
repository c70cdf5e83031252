use Rattle.zw_parse_expr.proofs.FileLemmas.{end_once}
use Rattle.zw_parse_expr.proofs.laws.one_end.Goals as goal

pub returns : goal.returns
returns c = end_once
