use Rattle.zw_wasm.specs.ModuleBytes.{IsExpression, IsU32, IsVector}
use Rattle.zw_wasm_read.proofs.ExpressionLemmas.{sure-expression}
use Rattle.zw_wasm_read.proofs.Exits.{exit}
use Rattle.zw_wasm_read.proofs.Leaving.{turn, then}
use Rattle.zw_wasm_read.proofs.Uniqueness.{sure-u32, behind, past_two}
use Rattle.zw_wasm_read.proofs.entries.read_element.Goals as goal

pub returns-in_err-table : goal.returns-in_err-table
returns-in_err-table c = exit IsU32 _ _ _ c.from_residual.ensures.1 c.in_err-table.ensures (λ unfit x rest l. unfit _ _ (turn (turn l).first).first)

pub returns-in_err-at : goal.returns-in_err-at
returns-in_err-at c = exit IsExpression _ _ _ c.from_residual-in_err-at.ensures.1 c.in_err-at.ensures (λ unfit x rest l. unfit _ _ (behind sure-u32 _ c.in_ok-table.ensures (turn l).first).1)

pub returns-in_err-funcs : goal.returns-in_err-funcs
returns-in_err-funcs c = exit (IsVector IsU32) _ _ _ c.from_residual-in_err-funcs.ensures.1 c.in_err-funcs.ensures (λ unfit x rest l. unfit _ _ (past_two sure-u32 sure-expression _ _ c.in_ok-table.ensures c.in_ok-at.ensures l))

pub returns : goal.returns
returns c = then (then c.in_ok-table.ensures c.in_ok-at.ensures) c.in_ok-funcs.ensures
