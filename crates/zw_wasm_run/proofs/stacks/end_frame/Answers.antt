use Rattle.std.proofs.Common.{refl, rules}
use Rattle.zw_wasm_run.proofs.Stepping.{ends_call, ends_frame}
use Rattle.zw_wasm_run.proofs.stacks.end_frame.Goals as goal

pub returns-in_default-clause-ends : goal.returns-in_default-clause-ends
returns-in_default-clause-ends c m = ends_call m c.args.stacks.now _ c.requires.none (search rules) c.leave.ensures.returns

pub returns-clause-ends : goal.returns-clause-ends
returns-clause-ends c m = ends_frame m c.in-Some.below c.pop.new.self.items c.args.stacks.now _ c.requires.none (search rules) c.leave.ensures.returns refl refl refl
