use Rattle.zw_wasm_read.proofs.EntryLemmas.{sure-global}
use Rattle.zw_wasm_read.proofs.vectors.GlobalDefDecode.decode.Goals as goal

pub returns-clause-sure : goal.returns-clause-sure
returns-clause-sure c = sure-global
