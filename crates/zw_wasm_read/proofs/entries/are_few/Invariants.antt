use Rattle.std.proofs.Common.{◌≡◌, ◌<◌, ◌^◌, take}
use Rattle.zw_wasm.specs.ModuleBytes.{local_count}
use Rattle.zw_wasm_read.proofs.entries.are_few.Given as goal

abbrev pub invariant-loop-run : goal.invariant-loop-run
invariant-loop-run l = record {
  so_far : l.count ≡ local_count (take l.run-index l.runs);
  few : l.count < 2 ^ 32;
}
