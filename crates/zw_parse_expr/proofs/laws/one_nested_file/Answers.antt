use Rattle.zw_parse_expr.proofs.FileLemmas.{one_nested_file}
use Rattle.zw_parse_expr.proofs.laws.one_nested_file.Goals as goal

pub returns : goal.returns
returns c = one_nested_file
