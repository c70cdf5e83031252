use Rattle.std.proofs.Common.{◌≡◌, ◌≤◌, ◌++◌, drop}
use Rattle.std.specs.Prelude.{vec_capacity}
use Rattle.zw_wasm_words.specs.Words.{zero_words}
use Rattle.zw_wasm_words.proofs.enter.push_locals.Given as goal

abbrev pub invariant-loop-count : goal.invariant-loop-count
invariant-loop-count l = record {
  items : l.stack.items ++ zero_words (drop l.count-index l.runs) ≡ l.initial.stack.items ++ zero_words l.runs;
  room : vec_capacity l.initial.stack ≤ vec_capacity l.stack;
}
