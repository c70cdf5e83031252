-- What the number so far and the values that are left come to is what all come to.
use Rattle.std.proofs.Common.{◌≡◌, List, map, drop}
use Rattle.zw_types.specs.TypeTrees.{TypeTree}
use Rattle.zw_types.specs.Readings.{value_tree}
use Rattle.zw_values.specs.Applied as operation
use Rattle.zw_ops.proofs.extremes.extreme_from.Given as goal

abbrev pub invariant-loop-value : goal.invariant-loop-value
invariant-loop-value l = (types : List TypeTree) → operation.extreme_from l.op l.chosen (map (value_tree types) (drop l.value-index l.rest))
    ≡ operation.extreme_from l.op l.fn.first (map (value_tree types) l.rest)
