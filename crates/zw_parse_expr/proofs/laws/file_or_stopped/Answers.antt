use Rattle.zw_parse_expr.proofs.FileLemmas.{file_or_stopped}
use Rattle.zw_parse_expr.proofs.laws.file_or_stopped.Goals as goal

pub returns : goal.returns
returns c = file_or_stopped
