use Rattle.zw_wasm_read.proofs.Uniqueness.{sure-limits}
use Rattle.zw_wasm_read.proofs.vectors.LimitsDecode.decode.Goals as goal

pub returns-clause-sure : goal.returns-clause-sure
returns-clause-sure c = sure-limits
