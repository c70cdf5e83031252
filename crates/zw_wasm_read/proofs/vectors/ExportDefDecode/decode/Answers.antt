use Rattle.zw_wasm_read.proofs.EntryLemmas.{sure-export}
use Rattle.zw_wasm_read.proofs.vectors.ExportDefDecode.decode.Goals as goal

pub returns-clause-sure : goal.returns-clause-sure
returns-clause-sure c = sure-export
