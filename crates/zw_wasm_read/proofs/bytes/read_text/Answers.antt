use Rattle.zw_wasm.specs.ModuleBytes.{IsByteVector}
use Rattle.zw_wasm_read.proofs.ByteLemmas.{no_text, no_is}
use Rattle.zw_wasm_read.proofs.Exits.{exit_between}
use Rattle.zw_wasm_read.proofs.Uniqueness.{name-bytes}
use Rattle.zw_wasm_read.proofs.bytes.read_text.Goals as goal

pub returns-in_err-content : goal.returns-in_err-content
returns-in_err-content c = exit_between IsByteVector _ _ _ c.from_residual.ensures.1 c.in_err-content.ensures (λ unfit x rest l. unfit x rest (name-bytes l))

pub returns-then-not-is_utf8 : goal.returns-then-not-is_utf8
returns-then-not-is_utf8 c = no_text _ _ _ c.in_ok-content.ensures (no_is _ c.if-not-is_utf8.ensures)
