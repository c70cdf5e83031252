use Rattle.zw_wasm_words.proofs.ReturnWords.{returns_on}
use Rattle.zw_wasm_words.proofs.labels.leave.Goals as goal

pub returns-clause-returns : goal.returns-clause-returns
returns-clause-returns c = returns_on c.args.frame.now c.args.stack.now.items c.drop_between.new.stack.items c.drop_between.ensures.items
