use Rattle.std.proofs.Common.{rules}
use Rattle.zw_wasm_words.proofs.BranchWords.{branches}
use Rattle.zw_wasm_words.proofs.labels.unwind.Goals as goal

pub returns-clause-branches : goal.returns-clause-branches
returns-clause-branches c = branches c.args.label.now c.args.stack.now.items c.drop_between.new.stack.items (search rules)
