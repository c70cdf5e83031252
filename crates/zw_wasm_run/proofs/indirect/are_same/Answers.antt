use Rattle.zw_wasm_run.proofs.Places.{types_differ}
use Rattle.zw_wasm_run.proofs.indirect.are_same.Goals as goal

pub returns-then-left-right : goal.returns-then-left-right
returns-then-left-right c = types_differ c.args.left.now c.args.right.now c.if-left-right.true
