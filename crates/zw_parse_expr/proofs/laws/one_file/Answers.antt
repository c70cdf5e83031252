use Rattle.zw_parse_expr.proofs.FileLemmas.{one_file}
use Rattle.zw_parse_expr.proofs.laws.one_file.Goals as goal

pub returns : goal.returns
returns c = one_file
