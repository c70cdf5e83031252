-- By the lemmas on calls, on sessions, and on what is read of a program.
use Rattle.zw_typed.proofs.FlowFitting.{nodes_fit, functions_fit, never_stuck}
use Rattle.zw_typed.proofs.laws.programs_are_never_stuck.Goals as goal

pub returns-clause-nodes : goal.returns-clause-nodes
returns-clause-nodes c = λ functions fit. nodes_fit functions fit

pub returns-clause-functions : goal.returns-clause-functions
returns-clause-functions c = λ p w. functions_fit p w

pub returns-clause-sessions : goal.returns-clause-sessions
returns-clause-sessions c = λ p w. never_stuck p w
