-- What was copied, followed by what is left, is the list, and the new item is still there.
use Rattle.std.proofs.Common.{◌≡◌, ◌++◌, drop}
use Rattle.zw_values.proofs.paths.with_item.Given as goal

abbrev pub invariant-loop-value : goal.invariant-loop-value
invariant-loop-value l = (l.copies ++ drop l.value-index l.values ≡ l.values) × (l.new ≡ l.fn.new)
