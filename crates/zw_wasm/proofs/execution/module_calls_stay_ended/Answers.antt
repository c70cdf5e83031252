use Rattle.zw_wasm.proofs.MachineLasts.{machine-stays_ended}
use Rattle.zw_wasm.proofs.execution.module_calls_stay_ended.Goals as goal

pub returns : goal.returns
returns c = machine-stays_ended
