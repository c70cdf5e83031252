use Rattle.zw_drive.proofs.ExecLemmas.{bytes_called, bytes_refused}
use Rattle.zw_drive.proofs.exec.exec_bytes.Goals as goal

pub returns-in-Ok-clause-ends : goal.returns-in-Ok-clause-ends
returns-in-Ok-clause-ends g c = bytes_called _ _ c.args.bytes.now _ _ _ _ c.exec_module.result c.requires.fits c.in-Ok.ensures c.exec_module.ensures.ends

pub returns-in-Err-clause-ends : goal.returns-in-Err-clause-ends
returns-in-Err-clause-ends g c = rw c.judged_end.ensures (bytes_refused _ c.args.bytes.now _ _ c.in-Err.e c.requires.fits c.in-Err.ensures)
