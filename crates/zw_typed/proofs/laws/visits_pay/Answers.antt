-- By the lemmas on what visits pay for, and on what is read of a program.
use Rattle.zw_typed.proofs.FlowPaying.{visits_pay}
use Rattle.zw_typed.proofs.FlowFitting.{functions_paid}
use Rattle.zw_typed.proofs.laws.visits_pay.Goals as goal

pub returns-clause-sessions : goal.returns-clause-sessions
returns-clause-sessions c = λ functions paid. visits_pay functions paid

pub returns-clause-functions : goal.returns-clause-functions
returns-clause-functions c = λ p w. functions_paid p w
