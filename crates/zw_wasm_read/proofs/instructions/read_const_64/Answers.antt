use Rattle.zw_wasm.specs.ModuleBytes.{IsS64}
use Rattle.zw_wasm_read.proofs.Exits.{exit}
use Rattle.zw_wasm_read.proofs.InstructionLemmas.{const_64_behind}
use Rattle.zw_wasm_read.proofs.instructions.read_const_64.Goals as goal

pub returns-in_err-number : goal.returns-in_err-number
returns-in_err-number c = exit IsS64 _ _ _ c.from_residual.ensures.1 c.in_err-number.ensures (λ unfit i rest l. let z = const_64_behind i _ _ l in unfit z.0 _ z.1)
