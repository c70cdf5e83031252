-- By the lemmas on operators.
use Rattle.zw_typed.proofs.OperatorLemmas.{operator_comes}
use Rattle.zw_typed.proofs.laws.operators_come_to_values.Goals as goal

pub returns : goal.returns
returns c = λ op kids ty fits wide values k. operator_comes op kids ty fits wide values k
