use Rattle.zw_num.proofs.FaultLemmas.{arithmetic_told, division_told, shift_told, unary_told, converted_told}
use Rattle.zw_num.proofs.laws.faults_are_told.Goals as goal

pub returns-clause-arithmetic : goal.returns-clause-arithmetic
returns-clause-arithmetic c = arithmetic_told

pub returns-clause-division : goal.returns-clause-division
returns-clause-division c = division_told

pub returns-clause-shifting : goal.returns-clause-shifting
returns-clause-shifting c = shift_told

pub returns-clause-unary : goal.returns-clause-unary
returns-clause-unary c = unary_told

pub returns-clause-casts : goal.returns-clause-casts
returns-clause-casts c = converted_told
