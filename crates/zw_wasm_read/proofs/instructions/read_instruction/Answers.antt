use Rattle.zw_wasm.specs.ModuleBytes.{Byte}
use Rattle.zw_wasm_read.specs.Operands.{IsBehind}
use Rattle.zw_wasm_read.proofs.Exits.{exit, follow}
use Rattle.zw_wasm_read.proofs.InstructionLemmas.{behind_code, code_of}
use Rattle.zw_wasm_read.proofs.Leaving.{turn}
use Rattle.zw_wasm_read.proofs.instructions.read_instruction.Goals as goal

pub returns-in_err-code : goal.returns-in_err-code
returns-in_err-code c = exit Byte _ _ _ c.from_residual.ensures.1 c.in_err-code.ensures (λ unfit i rest l. unfit _ _ (turn l).first)

pub returns : goal.returns
returns c = follow (IsBehind _) _ _ c.read_behind.ensures (λ i rest l. behind_code _ i _ _ rest c.in_ok-code.ensures l) (λ unfit i rest l. unfit i rest (code_of _ i _ _ rest c.in_ok-code.ensures l))
