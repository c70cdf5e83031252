use Rattle.zw_wasm_read.proofs.Stopping.{one_stop}
use Rattle.zw_wasm_read.proofs.laws.one_stop_of_bytes.Goals as goal

pub returns : goal.returns
returns c = λ bytes at other code another p q. one_stop bytes at code other another p q
