use Rattle.std.proofs.Common.{◌≡◌, ◌++◌, length}
use Rattle.zw_report.specs.Lines.{items}
use Rattle.zw_report.proofs.lines.push_items.Given as goal

-- the items so far, followed by those that are left, are all
abbrev pub invariant-loop-ty : goal.invariant-loop-ty
invariant-loop-ty l = l.line.items ++ items l.left l.numbers l.texts ≡ l.fn.line.items ++ items l.tys l.event.args l.event.shown

abbrev pub decreases-loop-ty : goal.decreases-loop-ty
decreases-loop-ty l = length l.left
