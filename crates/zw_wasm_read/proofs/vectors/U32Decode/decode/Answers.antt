use Rattle.zw_wasm_read.proofs.Uniqueness.{sure-u32}
use Rattle.zw_wasm_read.proofs.vectors.U32Decode.decode.Goals as goal

pub returns-clause-sure : goal.returns-clause-sure
returns-clause-sure c = sure-u32
