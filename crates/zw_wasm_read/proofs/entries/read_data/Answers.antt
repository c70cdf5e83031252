use Rattle.zw_wasm.specs.ModuleBytes.{IsByteVector, IsExpression, IsU32}
use Rattle.zw_wasm_read.proofs.ExpressionLemmas.{sure-expression}
use Rattle.zw_wasm_read.proofs.Exits.{exit}
use Rattle.zw_wasm_read.proofs.Leaving.{turn, then}
use Rattle.zw_wasm_read.proofs.Uniqueness.{sure-u32, behind, past_two}
use Rattle.zw_wasm_read.proofs.entries.read_data.Goals as goal

pub returns-in_err-memory : goal.returns-in_err-memory
returns-in_err-memory c = exit IsU32 _ _ _ c.from_residual.ensures.1 c.in_err-memory.ensures (λ unfit x rest l. unfit _ _ (turn (turn l).first).first)

pub returns-in_err-at : goal.returns-in_err-at
returns-in_err-at c = exit IsExpression _ _ _ c.from_residual-in_err-at.ensures.1 c.in_err-at.ensures (λ unfit x rest l. unfit _ _ (behind sure-u32 _ c.in_ok-memory.ensures (turn l).first).1)

pub returns-in_err-bytes : goal.returns-in_err-bytes
returns-in_err-bytes c = exit IsByteVector _ _ _ c.from_residual-in_err-bytes.ensures.1 c.in_err-bytes.ensures (λ unfit x rest l. unfit _ _ (past_two sure-u32 sure-expression _ _ c.in_ok-memory.ensures c.in_ok-at.ensures l))

pub returns : goal.returns
returns c = then (then c.in_ok-memory.ensures c.in_ok-at.ensures) c.in_ok-bytes.ensures
