use Rattle.std.proofs.Common.{◌-◌, None, arith, rules}
use Rattle.zw_wasm_check.proofs.Taking.{taken_fails, taken_from_nowhere, taken_more}
use Rattle.zw_wasm_check.proofs.operands.take_all.Goals as goal

pub returns-then-not-take : goal.returns-then-not-take
returns-then-not-take c =
    taken_fails c.args.types.now (c.loop-place.place - 1) _ _
    (taken_more c.args.types.now c.loop-place.place _ _ _ None (omega arith) (omega arith) c.loop-place.invariant c.if-not-take.ensures)

pub returns-then-is_empty : goal.returns-then-is_empty
returns-then-is_empty c = taken_from_nowhere c.args.types.now c.loop-place.place _ c.loop-place.operands _ (omega arith) (omega arith) (search rules) c.loop-place.invariant
