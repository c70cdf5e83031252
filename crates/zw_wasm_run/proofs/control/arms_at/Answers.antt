use Rattle.std.proofs.Common.{◌+◌, false, arith}
use Rattle.zw_wasm_run.proofs.FlatCode.{arms-two, arms-one}
use Rattle.zw_wasm_run.proofs.control.arms_at.Goals as goal

pub returns-then-end : goal.returns-then-end
returns-then-end c =
    let first = c.requires.behind.each (c.args.place + 1) (record { next = 0; by_else = false }) (omega arith) (omega arith) in
    arms-two _ _ _ _ c.requires.inside c.if-end.true first (c.requires.behind.each _ (record { next = 0; by_else = false }) first.behind first.within)

pub returns-else-end : goal.returns-else-end
returns-else-end c =
    arms-one _ _ _ c.requires.inside c.if-end.false (c.requires.behind.each (c.args.place + 1) (record { next = 0; by_else = false }) (omega arith) (omega arith))
