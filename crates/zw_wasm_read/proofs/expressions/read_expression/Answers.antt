use Rattle.std.proofs.Common.{reverse}
use Rattle.zw_wasm.specs.ModuleBytes.{IsInstruction}
use Rattle.zw_wasm_read.proofs.Exits.{exit}
use Rattle.zw_wasm_read.proofs.ExpressionLemmas.{one_on, no_next, exit_refused, goes_by}
use Rattle.zw_wasm_read.proofs.expressions.read_expression.Goals as goal

pub returns-in_err-instr : goal.returns-in_err-instr
returns-in_err-instr c = exit IsInstruction _ _ _ c.from_residual.ensures.1 c.in_err-instr.ensures (no_next _ _ _ _ c.loop-opened.invariant)

pub returns-in_err-ended : goal.returns-in_err-ended
returns-in_err-ended c = exit_refused _ _ _ _ _ (reverse c.go_on.new.opened) _ _ _ c.from_residual-in_err-ended.ensures.1 c.in_err-ended.ensures c.loop-opened.invariant c.in_ok-instr.ensures

pub loop-opened-preserved : goal.loop-opened-preserved
loop-opened-preserved c =
    rw c.in_ok-push.ensures.ok
    (one_on _ _ _ _ _ _ _ c.loop-opened.invariant c.in_ok-instr.ensures (goes_by (reverse c.loop-opened.opened) (reverse c.go_on.new.opened) c.in_ok-instr.instr _ c.in_ok-ended.ensures c.if-ended.false))
