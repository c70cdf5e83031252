use Rattle.zw_num.proofs.ReversalLaws.{below, opposite}
use Rattle.zw_num.proofs.laws.reversals.Goals as goal

pub returns-clause-below : goal.returns-clause-below
returns-clause-below c = below

pub returns-clause-opposite : goal.returns-clause-opposite
returns-clause-opposite c = opposite
