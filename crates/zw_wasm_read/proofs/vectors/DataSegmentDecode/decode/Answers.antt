use Rattle.zw_wasm_read.proofs.EntryLemmas.{sure-data}
use Rattle.zw_wasm_read.proofs.vectors.DataSegmentDecode.decode.Goals as goal

pub returns-clause-sure : goal.returns-clause-sure
returns-clause-sure c = sure-data
