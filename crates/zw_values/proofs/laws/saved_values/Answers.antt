use Rattle.zw_values.proofs.StoreLemmas.{saved_in_place, others_stay}
use Rattle.zw_values.proofs.laws.saved_values.Goals as goal

pub returns-clause-in_place : goal.returns-clause-in_place
returns-clause-in_place c = λ store after obj path new object e live h. saved_in_place store after obj path new object e live h

pub returns-clause-others : goal.returns-clause-others
returns-clause-others c = λ store after obj other path new apart h. others_stay store after obj other path new apart h
