use Rattle.zw_parse_expr.proofs.FileLemmas.{one_wrong_file}
use Rattle.zw_parse_expr.proofs.laws.one_wrong_file.Goals as goal

pub returns : goal.returns
returns c = one_wrong_file
