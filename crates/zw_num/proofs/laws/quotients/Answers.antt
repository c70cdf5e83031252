use Rattle.zw_num.proofs.DivisionLemmas.{truncated_law, floored_law, only_truncated, only_floored}
use Rattle.zw_num.proofs.laws.quotients.Goals as goal

pub returns-clause-truncated : goal.returns-clause-truncated
returns-clause-truncated c = truncated_law

pub returns-clause-floored : goal.returns-clause-floored
returns-clause-floored c = floored_law

pub returns-clause-one_truncated : goal.returns-clause-one_truncated
returns-clause-one_truncated c = only_truncated

pub returns-clause-one_floored : goal.returns-clause-one_floored
returns-clause-one_floored c = only_floored
