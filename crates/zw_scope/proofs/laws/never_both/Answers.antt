use Rattle.zw_scope.proofs.Violations.{never-both}
use Rattle.zw_scope.proofs.laws.never_both.Goals as goal

pub returns : goal.returns
returns c = λ forest v (named, first). never-both forest v named first
