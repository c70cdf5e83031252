use Rattle.zw_wasm_reach.proofs.Reaching.{labels_stay_few}
use Rattle.zw_wasm_reach.proofs.laws.labels_stay_few.Goals as goal

pub returns : goal.returns
returns c = labels_stay_few
