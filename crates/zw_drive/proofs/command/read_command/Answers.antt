use Rattle.std.proofs.Common.{rules}
use Rattle.zw_drive.proofs.CommandLemmas.{exec_unasked}
use Rattle.zw_drive.proofs.command.read_command.Goals as goal

pub returns-in-None : goal.returns-in-None
returns-in-None c = exec_unasked c.args.words.now c.in-Some.behind.now (search rules) (rw c.in-None.is at c.in_ok-request.ensures)
