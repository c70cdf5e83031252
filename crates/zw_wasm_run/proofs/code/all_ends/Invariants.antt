use Rattle.zw_wasm_run.specs.Control.{HaveEndsTo}
use Rattle.zw_wasm_run.proofs.code.all_ends.Given as goal

abbrev pub invariant-loop-body : goal.invariant-loop-body
invariant-loop-body l = HaveEndsTo l.codes l.body-index l.ends
