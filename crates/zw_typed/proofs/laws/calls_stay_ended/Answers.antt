-- By the lemma on the machine.
use Rattle.zw_typed.proofs.StayingLemmas.{exports-stay_ended}
use Rattle.zw_typed.proofs.laws.calls_stay_ended.Goals as goal

pub returns : goal.returns
returns c = exports-stay_ended
