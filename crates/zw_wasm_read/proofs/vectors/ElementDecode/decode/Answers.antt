use Rattle.zw_wasm_read.proofs.EntryLemmas.{sure-element}
use Rattle.zw_wasm_read.proofs.vectors.ElementDecode.decode.Goals as goal

pub returns-clause-sure : goal.returns-clause-sure
returns-clause-sure c = sure-element
