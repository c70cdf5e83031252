use Rattle.zw_wasm_run.specs.Control.{AreEndsFrom}
use Rattle.zw_wasm_run.proofs.control.sequence_ends.Given as goal

abbrev pub invariant-loop-place : goal.invariant-loop-place
invariant-loop-place l = AreEndsFrom l.instrs l.place l.ends.items
