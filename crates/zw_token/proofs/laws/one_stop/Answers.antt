use Rattle.zw_token.proofs.Stops.{same_stop}
use Rattle.zw_token.proofs.laws.one_stop.Goals as goal

pub returns : goal.returns
returns c = λ text at place a b left right. same_stop left right
