use Rattle.zw_scope.proofs.Violations.{named-or-broken}
use Rattle.zw_scope.proofs.laws.named_or_broken.Goals as goal

pub returns : goal.returns
returns c = named-or-broken
