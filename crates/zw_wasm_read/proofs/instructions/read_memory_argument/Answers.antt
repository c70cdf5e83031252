use Rattle.zw_wasm.specs.ModuleBytes.{IsU32}
use Rattle.zw_wasm_read.proofs.Exits.{exit}
use Rattle.zw_wasm_read.proofs.Leaving.{turn, then}
use Rattle.zw_wasm_read.proofs.Uniqueness.{sure-u32, behind}
use Rattle.zw_wasm_read.proofs.instructions.read_memory_argument.Goals as goal

pub returns-in_err-align : goal.returns-in_err-align
returns-in_err-align c = exit IsU32 _ _ _ c.from_residual.ensures.1 c.in_err-align.ensures (λ unfit at rest l. unfit at.align _ (turn l).first)

pub returns-in_err-offset : goal.returns-in_err-offset
returns-in_err-offset c = exit IsU32 _ _ _ c.from_residual-in_err-offset.ensures.1 c.in_err-offset.ensures (λ unfit at rest l. unfit at.offset _ (behind sure-u32 _ c.in_ok-align.ensures l).1)

pub returns : goal.returns
returns c = then c.in_ok-align.ensures c.in_ok-offset.ensures
