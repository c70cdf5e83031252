use Rattle.zw_drive.proofs.BuildLemmas.{check_stop}
use Rattle.zw_drive.proofs.build.check_text.Goals as goal

pub returns-in-Err-Stop : goal.returns-in-Err-Stop
returns-in-Err-Stop c = check_stop c.args.root.now c.args.text.now c.in-Err-Stop.stop c.stop_in_root.result (rw c.in-Err-Stop.field-0-is at c.in-Err-Stop.ensures.refused) c.stop_in_root.ensures
