use Rattle.zw_wasm.proofs.Incoming.{values_come}
use Rattle.zw_wasm.proofs.execution.values_come_in.Goals as goal

pub returns : goal.returns
returns c = values_come
