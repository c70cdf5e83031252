use Rattle.zw_wasm_read.proofs.EntryLemmas.{sure-code}
use Rattle.zw_wasm_read.proofs.vectors.CodeBodyDecode.decode.Goals as goal

pub returns-clause-sure : goal.returns-clause-sure
returns-clause-sure c = sure-code
