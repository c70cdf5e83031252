use Rattle.zw_wasm.specs.ModuleBytes.{Byte}
use Rattle.zw_wasm_read.proofs.Exits.{exit_passed}
use Rattle.zw_wasm_read.proofs.InstructionLemmas.{zero_behind}
use Rattle.zw_wasm_read.proofs.instructions.read_sizing.Goals as goal

pub returns-in_err-b : goal.returns-in_err-b
returns-in_err-b c = exit_passed (Byte 0x00) _ _ _ c.from_residual.ensures.1 c.in_err-b.ensures (λ unfit i rest l. unfit _ (zero_behind _ i _ _ c.requires.low c.requires.high l))
