use Rattle.zw_drive.proofs.ExecLemmas.{file_called, file_unloaded}
use Rattle.zw_drive.proofs.exec.exec.Goals as goal

pub returns-in-Ok-clause-ends : goal.returns-in-Ok-clause-ends
returns-in-Ok-clause-ends g c =
    file_called _ _ _ c.in-Ok.bytes.items _ _ _ _ c.exec_bytes.result c.in-Ok.ensures.ends (rw c.deref.ensures.value at c.exec_bytes.ensures.ends)

pub returns-in-Err-clause-ends : goal.returns-in-Err-clause-ends
returns-in-Err-clause-ends g c = rw c.judged_end.ensures (file_unloaded _ _ _ _ _ c.in-Err.e c.in-Err.ensures.ends)
