use Rattle.zw_wasm.specs.ModuleBytes.{IsVector, IsLocalRun, IsExpression}
use Rattle.zw_wasm_read.proofs.EntryLemmas.{sure-local_run, all_of, not_all, not_empty, not_few}
use Rattle.zw_wasm_read.proofs.Exits.{exit_body}
use Rattle.zw_wasm_read.proofs.Leaving.{turn}
use Rattle.zw_wasm_read.proofs.Uniqueness.{sure-vector, behind}
use Rattle.zw_wasm_read.proofs.entries.read_body.Goals as goal

pub returns-in_err-locals : goal.returns-in_err-locals
returns-in_err-locals c = exit_body (IsVector IsLocalRun) _ _ _ c.from_residual.ensures.1 c.in_err-locals.ensures (λ unfit body b. unfit _ _ (turn (all_of _ b.parts)).first)

pub returns-in_err-instrs : goal.returns-in_err-instrs
returns-in_err-instrs c = exit_body IsExpression _ _ _ c.from_residual-in_err-instrs.ensures.1 c.in_err-instrs.ensures (λ unfit body b. unfit _ _ (behind (sure-vector sure-local_run) _ c.in_ok-locals.ensures (all_of _ b.parts)).1)

pub returns-then-not-is_empty : goal.returns-then-not-is_empty
returns-then-not-is_empty c = not_all _ _ _ _ _ c.in_ok-locals.ensures c.in_ok-instrs.ensures (λ e few. not_empty _ _ c.is_empty.ensures c.if-not-is_empty.true e)

pub returns-then-not-are_few : goal.returns-then-not-are_few
returns-then-not-are_few c = not_all _ _ _ _ _ c.in_ok-locals.ensures c.in_ok-instrs.ensures (λ e few. not_few _ _ c.are_few.ensures c.if-not-are_few.true (rw c.as_slice.ensures few))
