use Rattle.zw_parse_expr.proofs.FileLemmas.{file_or_wrong, file_not_wrong, file_not_nested}
use Rattle.zw_parse_expr.proofs.laws.file_or_wrong.Goals as goal

pub returns-clause-either : goal.returns-clause-either
returns-clause-either c = file_or_wrong

pub returns-clause-never_both : goal.returns-clause-never_both
returns-clause-never_both c = file_not_wrong

pub returns-clause-nested : goal.returns-clause-nested
returns-clause-nested c = file_not_nested
