use Rattle.zw_wasm_read.proofs.Uniqueness.{sure-value_type}
use Rattle.zw_wasm_read.proofs.vectors.ValTypeDecode.decode.Goals as goal

pub returns-clause-sure : goal.returns-clause-sure
returns-clause-sure c = sure-value_type
