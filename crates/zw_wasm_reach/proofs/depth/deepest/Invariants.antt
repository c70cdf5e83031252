use Rattle.std.proofs.Common.{◌≡◌, max, drop}
use Rattle.zw_wasm_reach.specs.Counts as counts
use Rattle.zw_wasm_reach.proofs.depth.deepest.Given as goal

abbrev pub invariant-loop-body : goal.invariant-loop-body
invariant-loop-body l = counts.deepest l.m ≡ max l.greatest (counts.most_open_in (drop l.body-index l.m.codes))
