use Rattle.zw_num.proofs.CountLaws.{leading, trailing, ones, all_bits}
use Rattle.zw_num.proofs.laws.counts.Goals as goal

pub returns-clause-leading : goal.returns-clause-leading
returns-clause-leading c = leading

pub returns-clause-trailing : goal.returns-clause-trailing
returns-clause-trailing c = λ bits n h. trailing bits n

pub returns-clause-ones : goal.returns-clause-ones
returns-clause-ones c = ones

pub returns-clause-all_bits : goal.returns-clause-all_bits
returns-clause-all_bits c = all_bits
