use Rattle.zw_drive.proofs.FoundLemmas.{call_item, step_item, failed_item, found_end}
use Rattle.zw_drive.proofs.prepare.session_calls.Goals as goal

pub session_call-requires : goal.session_call-requires
session_call-requires c = call_item c.args.calls.now c.loop-call.call-index c.call-item.result c.call-item.is c.loop-call-test.true c.requires

pub returns-in-Err : goal.returns-in-Err
returns-in-Err c =
    failed_item c.args.machine.now.code c.args.calls.now c.loop-call.call-index c.loop-call.found.items c.loop-call.invariant c.call-item.result c.call-item.is c.loop-call-test.true c.in-Err.e c.in-Err.ensures

pub loop-call-preserved : goal.loop-call-preserved
loop-call-preserved c =
    rw c.in_ok-add-in-Ok.ensures
    (step_item c.args.machine.now.code c.args.calls.now c.loop-call.call-index c.loop-call.found.items c.loop-call.invariant c.call-item.result c.call-item.is c.loop-call-test.true c.in-Ok.c c.in-Ok.ensures)

pub returns : goal.returns
returns c = found_end c.args.machine.now.code c.args.calls.now c.loop-call.call-index c.loop-call.found.items c.loop-call.invariant c.loop-call-test.false
