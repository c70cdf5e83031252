use Rattle.zw_scope.proofs.Violations.{one-first}
use Rattle.zw_scope.proofs.laws.one_first_violation.Goals as goal

pub returns : goal.returns
returns c = one-first
