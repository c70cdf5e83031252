use Rattle.zw_wasm.specs.ModuleBytes.{IsExpression, IsMutability, IsValueType}
use Rattle.zw_wasm_read.proofs.Exits.{exit}
use Rattle.zw_wasm_read.proofs.Leaving.{turn, then}
use Rattle.zw_wasm_read.proofs.Uniqueness.{sure-value_type, sure-mutability, behind, past_two}
use Rattle.zw_wasm_read.proofs.entries.read_global.Goals as goal

pub returns-in_err-ty : goal.returns-in_err-ty
returns-in_err-ty c = exit IsValueType _ _ _ c.from_residual.ensures.1 c.in_err-ty.ensures (λ unfit x rest l. unfit _ _ (turn (turn l).first).first)

pub returns-in_err-mutable : goal.returns-in_err-mutable
returns-in_err-mutable c = exit IsMutability _ _ _ c.from_residual-in_err-mutable.ensures.1 c.in_err-mutable.ensures (λ unfit x rest l. unfit _ _ (behind sure-value_type _ c.in_ok-ty.ensures (turn l).first).1)

pub returns-in_err-init : goal.returns-in_err-init
returns-in_err-init c = exit IsExpression _ _ _ c.from_residual-in_err-init.ensures.1 c.in_err-init.ensures (λ unfit x rest l. unfit _ _ (past_two sure-value_type sure-mutability _ _ c.in_ok-ty.ensures c.in_ok-mutable.ensures l))

pub returns : goal.returns
returns c = then (then c.in_ok-ty.ensures c.in_ok-mutable.ensures) c.in_ok-init.ensures
