use Rattle.zw_wasm_read.proofs.EntryLemmas.{sure-import}
use Rattle.zw_wasm_read.proofs.vectors.FuncImportDecode.decode.Goals as goal

pub returns-clause-sure : goal.returns-clause-sure
returns-clause-sure c = sure-import
