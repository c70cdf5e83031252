use Rattle.zw_wasm_run.proofs.Ending.{label_as_frame, locals_fit}
use Rattle.zw_wasm_run.proofs.settle.end_one.Goals as goal

pub returns-then-stacks-len-clause-ends : goal.returns-then-stacks-len-clause-ends
returns-then-stacks-len-clause-ends c = label_as_frame c.args.m.now c.args.stacks.now c.end_label.new.stacks (c.end_label.ensures.ends c.args.m.now)

pub end_frame-requires-clause-fit : goal.end_frame-requires-clause-fit
end_frame-requires-clause-fit c = locals_fit c.args.m.now c.args.stacks.now c.requires

pub returns-clause-ends : goal.returns-clause-ends
returns-clause-ends c = c.end_frame.ensures.ends c.args.m.now
