use Rattle.zw_wasm.specs.ModuleBytes.{Byte, AreLimits}
use Rattle.zw_wasm_read.proofs.Exits.{exit_passed, follow}
use Rattle.zw_wasm_read.proofs.Leaving.{turn, then}
use Rattle.zw_wasm_read.proofs.Uniqueness.{behind_byte}
use Rattle.zw_wasm_read.proofs.types.read_table_type.Goals as goal

pub returns-in_err-b : goal.returns-in_err-b
returns-in_err-b c = exit_passed (Byte 0x70) _ _ _ c.from_residual.ensures.1 c.in_err-b.ensures (λ unfit x rest l. unfit _ (turn l).first)

pub returns : goal.returns
returns c = follow AreLimits _ _ c.read_limits.ensures (λ x rest l. then c.in_ok-b.ensures l) (λ unfit x rest l. unfit x rest (behind_byte c.in_ok-b.ensures l))
