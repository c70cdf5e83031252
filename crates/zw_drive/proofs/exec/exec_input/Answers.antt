use Rattle.zw_drive.proofs.ExecLemmas.{ran, bad_line, too_long, unread_replies}
use Rattle.zw_drive.proofs.exec.exec_input.Goals as goal

pub returns-in-Ok-clause-ends : goal.returns-in-Ok-clause-ends
returns-in-Ok-clause-ends g c = ran _ _ _ _ _ _ c.in-Ok.replies c.run.result c.in-Ok.ensures c.run.ensures.ends

pub returns-in-Err-BadLine-clause-ends : goal.returns-in-Err-BadLine-clause-ends
returns-in-Err-BadLine-clause-ends g c =
    rw c.in-Err-BadLine.field-0-is (bad_line _ _ _ _ _ c.in-Err-BadLine.line (rw c.in-Err-BadLine.field-0-is at c.in-Err-BadLine.ensures))

pub returns-in-Err-TooLong-clause-ends : goal.returns-in-Err-TooLong-clause-ends
returns-in-Err-TooLong-clause-ends g c = too_long _ _ _ _ _ (rw c.in-Err-TooLong.field-0-is at c.in-Err-TooLong.ensures)

pub returns-clause-ends : goal.returns-clause-ends
returns-clause-ends g c = unread_replies _ _ _ _ _
