-- By the lemma on what evaluating keeps.
use Rattle.zw_typed.proofs.FlowGrowth.{runs_grow}
use Rattle.zw_typed.proofs.laws.runs_grow.Goals as goal

pub returns : goal.returns
returns c = runs_grow
