use Rattle.zw_wasm_read.proofs.Uniqueness.{sure-function_type}
use Rattle.zw_wasm_read.proofs.vectors.FuncTypeDecode.decode.Goals as goal

pub returns-clause-sure : goal.returns-clause-sure
returns-clause-sure c = sure-function_type
