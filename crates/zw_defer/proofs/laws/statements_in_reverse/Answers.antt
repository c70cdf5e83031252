use Rattle.zw_defer.proofs.ExitLemmas.{left_scopes-reversed}
use Rattle.zw_defer.proofs.laws.statements_in_reverse.Goals as goal

pub returns : goal.returns
returns c = λ error scopes. left_scopes-reversed error scopes
