use Rattle.std.proofs.Common.{arith}
use Rattle.zw_wasm_run.proofs.FlatCode.{ends-last, ends-more, ends-whole}
use Rattle.zw_wasm_run.proofs.control.sequence_ends.Goals as goal

pub loop-place-init : goal.loop-place-init
loop-place-init c = ends-last c.args.instrs.now _ (c.in_ok-ends.ensures.items_if_clones_equal (λ y clone. clone))

pub loop-place-preserved : goal.loop-place-preserved
loop-place-preserved c = ends-more c.args.instrs.now c.loop-place.place c.loop-place.ends.items _ (omega arith) (omega arith) c.loop-place.invariant c.sequence_end.ensures

pub returns : goal.returns
returns c = ends-whole c.args.instrs.now c.loop-place.place c.loop-place.ends.items c.loop-place-test.false c.loop-place.invariant
