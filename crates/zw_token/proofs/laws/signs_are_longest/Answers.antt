use Rattle.zw_token.proofs.KindLemmas.{sign_longest}
use Rattle.zw_token.proofs.laws.signs_are_longest.Goals as goal

pub returns-clause-is_sign : goal.returns-clause-is_sign
returns-clause-is_sign c = λ rest k n begins. (sign_longest rest k n begins.is_front).0

pub returns-clause-longest : goal.returns-clause-longest
returns-clause-longest c = λ rest k n begins. (sign_longest rest k n begins.is_front).1
