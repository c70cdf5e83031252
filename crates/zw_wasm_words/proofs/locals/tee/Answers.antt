use Rattle.std.proofs.Common.{◌-◌, length, take, refl, rules}
use Rattle.zw_wasm_words.proofs.LocalRuns.{tees}
use Rattle.zw_wasm_words.proofs.locals.tee.Goals as goal

pub returns-clause-acts : goal.returns-clause-acts
returns-clause-acts c =
    let old = c.args.stack.now.items in
    tees c.args.frame.now c.args.n c.in-Some.word old (take (length old - 1) old) _ (search rules) refl
