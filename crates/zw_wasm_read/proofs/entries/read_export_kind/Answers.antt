use Rattle.zw_wasm.specs.ModuleBytes.{Byte}
use Rattle.zw_wasm_read.proofs.EntryLemmas.{kind_first}
use Rattle.zw_wasm_read.proofs.Exits.{exit}
use Rattle.zw_wasm_read.proofs.entries.read_export_kind.Goals as goal

pub returns-in_err-kind : goal.returns-in_err-kind
returns-in_err-kind c = exit Byte _ _ _ c.from_residual.ensures.1 c.in_err-kind.ensures (λ unfit x rest l. unfit x _ (kind_first x _ _ l))
