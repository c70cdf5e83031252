use Rattle.std.proofs.Common.{rules}
use Rattle.zw_wasm_words.proofs.ReturnWords.{keeps_results}
use Rattle.zw_wasm_words.proofs.labels.keep_results.Goals as goal

pub returns-clause-keeps : goal.returns-clause-keeps
returns-clause-keeps c = keeps_results c.args.frame.now c.args.stack.now.items c.drop_between.new.stack.items (search rules)
