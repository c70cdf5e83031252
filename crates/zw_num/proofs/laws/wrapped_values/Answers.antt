use Rattle.zw_num.proofs.WrappedLemmas.{wrapped_congruent, wrapped_unique}
use Rattle.zw_num.proofs.laws.wrapped_values.Goals as goal

pub returns-clause-congruent : goal.returns-clause-congruent
returns-clause-congruent c = wrapped_congruent

pub returns-clause-unique : goal.returns-clause-unique
returns-clause-unique c = wrapped_unique
