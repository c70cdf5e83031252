use Rattle.zw_wasm.specs.ModuleBytes.{IsName, IsExportKind, IsU32}
use Rattle.zw_wasm_read.proofs.EntryLemmas.{sure-export_kind}
use Rattle.zw_wasm_read.proofs.Exits.{exit}
use Rattle.zw_wasm_read.proofs.Leaving.{turn, then}
use Rattle.zw_wasm_read.proofs.Uniqueness.{sure-name, behind}
use Rattle.zw_wasm_read.proofs.entries.read_export.Goals as goal

pub returns-in_err-name : goal.returns-in_err-name
returns-in_err-name c = exit IsName _ _ _ c.from_residual.ensures.1 c.in_err-name.ensures (λ unfit x rest l. unfit _ _ (turn l).first)

pub returns-in_err-kind : goal.returns-in_err-kind
returns-in_err-kind c = exit IsExportKind _ _ _ c.from_residual-in_err-kind.ensures.1 c.in_err-kind.ensures (λ unfit x rest l. unfit _ _ (turn (behind sure-name _ c.in_ok-name.ensures l).1).first)

pub returns-in_err-index : goal.returns-in_err-index
returns-in_err-index c = exit IsU32 _ _ _ c.from_residual-in_err-index.ensures.1 c.in_err-index.ensures (λ unfit x rest l. unfit _ _ (behind sure-export_kind _ c.in_ok-kind.ensures (behind sure-name _ c.in_ok-name.ensures l).1).1)

pub returns : goal.returns
returns c = then c.in_ok-name.ensures (then c.in_ok-kind.ensures c.in_ok-index.ensures)
