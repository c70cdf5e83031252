use Rattle.zw_wasm.specs.ModuleBytes.{IsBlockType}
use Rattle.zw_wasm_read.proofs.Exits.{exit}
use Rattle.zw_wasm_read.proofs.InstructionLemmas.{block_behind}
use Rattle.zw_wasm_read.proofs.instructions.read_block.Goals as goal

pub returns-in_err-ty : goal.returns-in_err-ty
returns-in_err-ty c = exit IsBlockType _ _ _ c.from_residual.ensures.1 c.in_err-ty.ensures (λ unfit i rest l. let r = block_behind _ i _ _ c.requires.low c.requires.high l in unfit r.0 _ r.1)
