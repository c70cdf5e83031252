-- By the lemmas on the three programs.
use Rattle.zw_typed.proofs.LeavingLemmas.{flow_programs}
use Rattle.zw_typed.proofs.laws.flow_programs_are_worked.Goals as goal

pub returns : goal.returns
returns c = flow_programs
