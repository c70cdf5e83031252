use Rattle.zw_num.proofs.BitLaws.{both, either, just_one, one_number}
use Rattle.zw_num.proofs.laws.bit_operators.Goals as goal

pub returns-clause-both : goal.returns-clause-both
returns-clause-both c = both

pub returns-clause-either : goal.returns-clause-either
returns-clause-either c = either

pub returns-clause-just_one : goal.returns-clause-just_one
returns-clause-just_one c = just_one

pub returns-clause-one_number : goal.returns-clause-one_number
returns-clause-one_number c = one_number
