use Rattle.zw_drive.proofs.TextLemmas.{text_cut, text_unwritten}
use Rattle.zw_drive.proofs.BuildLemmas.{build_stop}
use Rattle.zw_drive.proofs.build.build_text.Goals as goal

pub returns-in-Err-Stop-clause-ends : goal.returns-in-Err-Stop-clause-ends
returns-in-Err-Stop-clause-ends g c =
    build_stop c.args.root.now c.args.text.now (g.O.Sink.taken c.args.out.now) c.in-Err-Stop.stop c.stop_in_root.result (rw c.in-Err-Stop.field-0-is at c.in-Err-Stop.ensures) c.stop_in_root.ensures

pub returns-in-Err-Failed-clause-ends : goal.returns-in-Err-Failed-clause-ends
returns-in-Err-Failed-clause-ends g c =
    let write = rw c.in-Err-Failed.field-0-is at c.in-Err-Failed.ensures in
    text_cut c.args.root.now c.args.text.now c.in-Ok.module (g.O.Sink.taken c.args.out.now) (g.O.Sink.taken c.write.new.sink) c.in-Ok.ensures write.spelled write.err

pub returns-clause-ends : goal.returns-clause-ends
returns-clause-ends g c =
    let write = rw c.in-Err-Oom-write.field-0-is at c.in-Err-Oom-write.ensures in
    text_unwritten c.args.root.now c.args.text.now c.in-Ok.module (g.O.Sink.taken c.args.out.now) (g.O.Sink.taken c.write.new.sink) c.in-Ok.ensures write.spelled write.err
