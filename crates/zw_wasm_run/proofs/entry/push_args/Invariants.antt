use Rattle.std.proofs.Common.{◌≤◌, take, vec_capacity}
use Rattle.zw_wasm_words.specs.Words.{Hold}
use Rattle.zw_wasm_run.proofs.entry.push_args.Given as goal

abbrev pub invariant-loop-arg : goal.invariant-loop-arg
invariant-loop-arg l = record {
  held : Hold l.words.items (take l.arg-index l.args);
  room : vec_capacity l.fn.words ≤ vec_capacity l.words;
}
