use Rattle.std.proofs.Common.{length}
use Rattle.zw_wasm_read.proofs.SectionLemmas.{Over}
use Rattle.zw_wasm_read.proofs.sections.pass_customs.Given as goal

abbrev pub invariant-loop-rest : goal.invariant-loop-rest
invariant-loop-rest l = Over l.fn.total l.fn.last l.fn.b l.rest

abbrev pub decreases-loop-rest : goal.decreases-loop-rest
decreases-loop-rest l = length l.rest
