use Rattle.zw_calls.proofs.RequestLemmas.{one_request}
use Rattle.zw_calls.proofs.laws.one_request.Goals as goal

pub returns : goal.returns
returns c = one_request
