use Rattle.zw_defer.proofs.ExitLemmas.{left_scopes-append}
use Rattle.zw_defer.proofs.laws.scopes_one_by_one.Goals as goal

pub returns : goal.returns
returns c = λ error outer inner. left_scopes-append error outer inner
