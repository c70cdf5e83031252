use Rattle.std.proofs.Common.{refl, rules}
use Rattle.zw_wasm_words.proofs.LocalRuns.{sets, sets_none}
use Rattle.zw_wasm_words.proofs.locals.set.Goals as goal

pub returns-then-len-place-clause-acts : goal.returns-then-len-place-clause-acts
returns-then-len-place-clause-acts c = sets_none c.args.frame.now c.args.n c.in-Some.word c.args.stack.now.items c.pop.new.self.items (search rules) (search rules)

pub returns-clause-acts : goal.returns-clause-acts
returns-clause-acts c = sets c.args.frame.now c.args.n c.in-Some.word c.args.stack.now.items c.pop.new.self.items _ (search rules) refl
