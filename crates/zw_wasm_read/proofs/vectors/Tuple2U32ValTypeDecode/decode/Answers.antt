use Rattle.zw_wasm_read.proofs.EntryLemmas.{sure-local_run}
use Rattle.zw_wasm_read.proofs.vectors.Tuple2U32ValTypeDecode.decode.Goals as goal

pub returns-clause-sure : goal.returns-clause-sure
returns-clause-sure c = sure-local_run
