use Rattle.std.proofs.Common.{◌≡◌, ◌+◌, ◌++◌, drop}
use Rattle.zw_wasm.specs.ModuleBytes.{local_count}
use Rattle.zw_wasm_check.proofs.LocalLemmas.{ends_from}
use Rattle.zw_wasm_check.proofs.locals.Locals.new.Given as goal

abbrev pub invariant-loop-count : goal.invariant-loop-count
invariant-loop-count l = record {
  ends : l.ends ++ ends_from l.total (drop l.count-index l.runs) ≡ ends_from 0 l.runs;
  count : l.total + local_count (drop l.count-index l.runs) ≡ local_count l.runs;
}
