use Rattle.zw_calls.specs.Requests.{request_of}
use Rattle.zw_drive.proofs.ExecLemmas.{input_read, input_failed_at, input_short}
use Rattle.zw_drive.proofs.exec.exec_prepared.Goals as goal

pub returns-in-Ok-clause-ends : goal.returns-in-Ok-clause-ends
returns-in-Ok-clause-ends g c =
    input_read _ _ _ _ _ _ _ c.in-Ok.bytes.items c.exec_input.result c.in-Ok.ensures.ok (rw c.deref.ensures.value at c.exec_input.ensures.ends)

pub returns-in-Err-Failed-clause-ends : goal.returns-in-Err-Failed-clause-ends
returns-in-Err-Failed-clause-ends g c = input_failed_at c.args.prepared.machine.code (request_of c.args.request.now) c.args.prepared.calls.items _ _ _ c.in-Err-Failed.ensures.err

pub returns-clause-ends : goal.returns-clause-ends
returns-clause-ends g c = input_short c.args.prepared.machine.code (request_of c.args.request.now) c.args.prepared.calls.items _ _ _ c.in-Err-Oom.ensures.err
