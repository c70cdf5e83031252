use Rattle.zw_token.proofs.Lists.{one_from}
use Rattle.zw_token.proofs.laws.one_list.Goals as goal

pub returns : goal.returns
returns c = λ text a b left right. one_from left.list right.list
