use Rattle.zw_token.proofs.Stops.{never_both}
use Rattle.zw_token.proofs.laws.stop_or_list.Goals as goal

pub returns : goal.returns
returns c = λ text list at error tokens stop. never_both tokens stop
