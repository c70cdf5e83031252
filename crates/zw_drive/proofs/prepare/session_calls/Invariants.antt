use Rattle.std.proofs.Common.{drop, map}
use Rattle.zw_calls.specs.Requests.{call_of}
use Rattle.zw_drive.proofs.PrepareLemmas.{Found}
use Rattle.zw_drive.proofs.prepare.session_calls.Given as goal

abbrev pub invariant-loop-call : goal.invariant-loop-call
invariant-loop-call l = Found l.machine.code (map call_of l.calls) (map call_of (drop l.call-index l.calls)) l.found.items
