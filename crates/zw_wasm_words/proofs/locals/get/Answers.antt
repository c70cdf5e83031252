use Rattle.std.proofs.Common.{rules}
use Rattle.zw_wasm_words.proofs.LocalRuns.{gets}
use Rattle.zw_wasm_words.proofs.locals.get.Goals as goal

pub returns-clause-acts : goal.returns-clause-acts
returns-clause-acts c = gets c.args.frame.now c.args.n c.in-Some.word c.args.stack.now.items c.push.new.self.items (search rules) (search rules)
