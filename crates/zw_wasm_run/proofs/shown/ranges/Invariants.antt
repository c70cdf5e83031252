use Rattle.zw_wasm_run.specs.Hosting.{numbers_held}
use Rattle.zw_wasm_run.proofs.ShownParts.{RangesSoFar}
use Rattle.zw_wasm_run.proofs.shown.ranges.Given as goal

abbrev pub invariant-loop-at : goal.invariant-loop-at
invariant-loop-at l = RangesSoFar l.shows l.import l.memory (numbers_held l.params l.words) l.at l.shown
