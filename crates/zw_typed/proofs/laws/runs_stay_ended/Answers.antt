-- By the lemma on more turns.
use Rattle.zw_typed.proofs.FlowStaying.{runs_stay_ended}
use Rattle.zw_typed.proofs.laws.runs_stay_ended.Goals as goal

pub returns : goal.returns
returns c = runs_stay_ended
