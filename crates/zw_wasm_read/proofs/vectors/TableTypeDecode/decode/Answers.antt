use Rattle.zw_wasm.specs.ModuleBytes.{IsTableType}
use Rattle.zw_wasm_read.proofs.EntryLemmas.{sure-table}
use Rattle.zw_wasm_read.proofs.Exits.{exit}
use Rattle.zw_wasm_read.proofs.vectors.TableTypeDecode.decode.Goals as goal

pub returns-in_err-limits-clause-reads : goal.returns-in_err-limits-clause-reads
returns-in_err-limits-clause-reads c = exit IsTableType _ _ _ c.from_residual.ensures.1 c.in_err-limits.ensures (λ unfit x rest l. unfit x.limits rest l)

pub returns-in_err-limits-clause-sure : goal.returns-in_err-limits-clause-sure
returns-in_err-limits-clause-sure c = sure-table

pub returns-clause-sure : goal.returns-clause-sure
returns-clause-sure c = sure-table
