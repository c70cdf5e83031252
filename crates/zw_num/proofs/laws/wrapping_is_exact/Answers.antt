use Rattle.zw_num.proofs.WrappedLemmas.{wrapped_same, wrapped_within}
use Rattle.zw_num.proofs.laws.wrapping_is_exact.Goals as goal

pub returns-clause-wrapping : goal.returns-clause-wrapping
returns-clause-wrapping c = wrapped_same

pub returns-clause-truncating : goal.returns-clause-truncating
returns-clause-truncating c = wrapped_within
