use Rattle.zw_wasm.specs.ModuleBytes.{IsByteVector}
use Rattle.zw_wasm_read.proofs.EntryLemmas.{code_content, no_body}
use Rattle.zw_wasm_read.proofs.Exits.{exit_part, exit_from_body}
use Rattle.zw_wasm_read.proofs.entries.read_code.Goals as goal

pub returns-in_err-content : goal.returns-in_err-content
returns-in_err-content c = exit_part IsByteVector _ _ _ c.from_residual.ensures.1 c.in_err-content.ensures (λ unfit body rest l. unfit _ rest (code_content body _ rest l).1)

pub returns-in_err-body : goal.returns-in_err-body
returns-in_err-body c = exit_from_body _ _ _ c.from_residual-in_err-body.ensures.1 c.in_err-body.ensures (no_body _ _ _ c.in_ok-content.ensures)
