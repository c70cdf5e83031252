use Rattle.zw_drive.proofs.ExecLemmas.{idle}
use Rattle.zw_drive.proofs.exec.run.Goals as goal

pub run_session-ended-requires-clause-idle : goal.run_session-ended-requires-clause-idle
run_session-ended-requires-clause-idle g c = idle _ c.args.prepared c.requires

pub run_session-ended-requires-clause-calls : goal.run_session-ended-requires-clause-calls
run_session-ended-requires-clause-calls g c = rw c.as_slice.ensures.value c.requires.are_calls
