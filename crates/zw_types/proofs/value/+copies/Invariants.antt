-- What was copied, followed by what is left, is the list.
use Rattle.std.proofs.Common.{◌≡◌, ◌++◌, drop}
use Rattle.zw_types.proofs.value.+copies.Given as goal

abbrev pub invariant-copy_all-loop-value : goal.invariant-copy_all-loop-value
invariant-copy_all-loop-value l = l.copied ++ drop l.value-index l.values ≡ l.values
