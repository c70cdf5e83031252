use Rattle.std.proofs.Common.{rules}
use Rattle.zw_wasm_run.proofs.Stacked.{branch_returns, branch_traps}
use Rattle.zw_wasm_run.proofs.stacks.branch.Goals as goal

pub returns-then-n-own-clause-acts : goal.returns-then-n-own-clause-acts
returns-then-n-own-clause-acts c m behind = c.jump.ensures.acts m

pub returns-then-n-own-2-clause-acts : goal.returns-then-n-own-2-clause-acts
returns-then-n-own-2-clause-acts c m behind = branch_returns m c.args.n c.give_back.result c.args.stacks.now c.give_back.new.stacks (search rules) (c.give_back.ensures.acts m behind)

pub returns-clause-acts : goal.returns-clause-acts
returns-clause-acts c m behind = branch_traps m c.args.n c.args.stacks.now _ (search rules)
