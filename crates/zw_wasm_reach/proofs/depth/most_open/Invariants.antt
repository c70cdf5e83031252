use Rattle.std.proofs.Common.{◌≡◌, ◌≤◌, max, drop}
use Rattle.zw_wasm_reach.specs.Counts as counts
use Rattle.zw_wasm_reach.proofs.depth.most_open.Given as goal

abbrev pub invariant-loop-instr : goal.invariant-loop-instr
invariant-loop-instr l = record {
  few : l.open ≤ l.instr-index;
  goes_on : counts.most_open 0 l.instrs ≡ max l.greatest (counts.most_open l.open (drop l.instr-index l.instrs));
}
