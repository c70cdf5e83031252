use Rattle.zw_drive.proofs.ValidateLemmas.{accepted_module, unaccepted}
use Rattle.zw_drive.proofs.validate.validate_bytes.Goals as goal

pub returns-clause-ends : goal.returns-clause-ends
returns-clause-ends g c = accepted_module c.args.bytes.now c.in-Ok.m _ _ c.accept.result c.in-Ok.ensures c.accept.ensures.ends

pub returns-in-Err-clause-ends : goal.returns-in-Err-clause-ends
returns-in-Err-clause-ends g c = unaccepted c.args.bytes.now _ c.in-Err.e c.in-Err.ensures
