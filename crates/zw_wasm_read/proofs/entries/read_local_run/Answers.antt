use Rattle.zw_wasm.specs.ModuleBytes.{IsU32, IsValueType}
use Rattle.zw_wasm_read.proofs.Exits.{exit}
use Rattle.zw_wasm_read.proofs.Leaving.{turn, then}
use Rattle.zw_wasm_read.proofs.Uniqueness.{sure-u32, behind}
use Rattle.zw_wasm_read.proofs.entries.read_local_run.Goals as goal

pub returns-in_err-count : goal.returns-in_err-count
returns-in_err-count c = exit IsU32 _ _ _ c.from_residual.ensures.1 c.in_err-count.ensures (λ unfit x rest l. unfit _ _ (turn l).first)

pub returns-in_err-ty : goal.returns-in_err-ty
returns-in_err-ty c = exit IsValueType _ _ _ c.from_residual-in_err-ty.ensures.1 c.in_err-ty.ensures (λ unfit x rest l. unfit _ _ (behind sure-u32 _ c.in_ok-count.ensures l).1)

pub returns : goal.returns
returns c = then c.in_ok-count.ensures c.in_ok-ty.ensures
