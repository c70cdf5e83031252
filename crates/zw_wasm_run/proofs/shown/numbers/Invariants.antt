use Rattle.zw_wasm_run.specs.Hosting.{numbers_held}
use Rattle.zw_wasm_run.proofs.ShownParts.{NumbersSoFar}
use Rattle.zw_wasm_run.proofs.shown.numbers.Given as goal

abbrev pub invariant-loop-at : goal.invariant-loop-at
invariant-loop-at l = NumbersSoFar l.shows l.import (numbers_held l.params l.words) l.at l.numbers
