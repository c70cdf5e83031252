use Rattle.zw_wasm_read.proofs.SectionLemmas.{exit_customs, one_over, wrong_number, is_first, not_first}
use Rattle.zw_wasm_read.proofs.sections.pass_customs.Goals as goal

pub returns-in_err-rest : goal.returns-in_err-rest
returns-in_err-rest c = exit_customs _ _ _ _ _ _ c.from_residual.ensures.1 c.loop-rest.invariant (is_first 0 _ _ c.begins_with.ensures c.loop-rest-test.true) c.in_err-rest.ensures

pub loop-rest-preserved : goal.loop-rest-preserved
loop-rest-preserved c = one_over _ _ _ _ _ c.loop-rest.invariant c.in_ok-rest.ensures

pub returns-then-not-is_in_order : goal.returns-then-not-is_in_order
returns-then-not-is_in_order c = wrong_number _ _ _ _ _ _ c.loop-rest.invariant (not_first 0 _ _ c.begins_with.ensures c.loop-rest-test.false) c.is_in_order.ensures c.if-not-is_in_order.true c.stop.ensures
