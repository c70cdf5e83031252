use Rattle.zw_num.proofs.ReversalLaws.{again}
use Rattle.zw_num.proofs.WrappedLemmas.{wrapped_turned, wrapped_bits, bits_wrapped}
use Rattle.zw_num.proofs.laws.twice.Goals as goal

pub returns-clause-turned : goal.returns-clause-turned
returns-clause-turned c = wrapped_turned

pub returns-clause-reversed : goal.returns-clause-reversed
returns-clause-reversed c = again

pub returns-clause-as_bits : goal.returns-clause-as_bits
returns-clause-as_bits c = wrapped_bits

pub returns-clause-as_value : goal.returns-clause-as_value
returns-clause-as_value c = bits_wrapped
