use Rattle.zw_drive.proofs.CompileLemmas.{compiled}
use Rattle.zw_drive.proofs.compile.compile.Goals as goal

pub returns-in_ok-lower-in-Ok : goal.returns-in_ok-lower-in-Ok
returns-in_ok-lower-in-Ok c =
    compiled c.args.text.now c.in-Ok.program c.in_ok-lower-in-Ok.field-0 c.in-Ok.ensures.program c.in_ok-lower-in-Ok.ensures.right
