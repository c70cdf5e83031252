use Rattle.std.proofs.Common.{List, ap, map}
use Rattle.zw_calls.specs.Requests.{call_of, request_of}
use Rattle.zw_calls.specs.declared.request.CallWords.{CallWords}
use Rattle.zw_drive.proofs.ExecLemmas.{module_called, module_denied_by, own_code}
use Rattle.zw_drive.proofs.exec.exec_module.Goals as goal

pub returns-in-Ok-clause-ends : goal.returns-in-Ok-clause-ends
returns-in-Ok-clause-ends g c = module_called c.args.m (request_of c.args.request.now) c.in-Ok.prepared _ _ _ _ c.exec_prepared.result (rw c.as_slice.ensures.value at c.in-Ok.ensures) c.exec_prepared.ensures.ends

pub returns-in-Err-clause-ends : goal.returns-in-Err-clause-ends
returns-in-Err-clause-ends g c = module_denied_by c.args.m (request_of c.args.request.now) (map call_of c.as_slice.result.now) _ _ c.in-Err.e (ap (λ (l : List CallWords). map call_of l) c.as_slice.ensures.value) c.in-Err.ensures

pub exec_prepared-requires : goal.exec_prepared-requires
exec_prepared-requires g c = own_code _ _ c.in-Ok.prepared (rw c.as_slice.ensures.value at c.in-Ok.ensures)
