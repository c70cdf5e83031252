use Rattle.zw_wasm.specs.ModuleBytes.{IsU32}
use Rattle.zw_wasm_read.proofs.Exits.{exit}
use Rattle.zw_wasm_read.proofs.InstructionLemmas.{index_behind}
use Rattle.zw_wasm_read.proofs.instructions.read_indexed.Goals as goal

pub returns-in_err-index : goal.returns-in_err-index
returns-in_err-index c = exit IsU32 _ _ _ c.from_residual.ensures.1 c.in_err-index.ensures (λ unfit i rest l. let n = index_behind _ i _ _ c.requires l in unfit n.0 _ n.1)
