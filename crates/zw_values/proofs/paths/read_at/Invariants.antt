-- What is left of the path leads from this place to where the path leads from the value.
use Rattle.std.proofs.Common.{◌≡◌, List, drop}
use Rattle.zw_types.specs.TypeTrees.{TypeTree}
use Rattle.zw_types.specs.Readings.{value_tree}
use Rattle.zw_values.specs.Paths.{value_at}
use Rattle.zw_values.proofs.paths.read_at.Given as goal

abbrev pub invariant-loop-step : goal.invariant-loop-step
invariant-loop-step l = (types : List TypeTree) → value_at (value_tree types l.place) (drop l.step-index l.path) ≡ value_at (value_tree types l.v) l.path
