use Rattle.zw_wasm.proofs.Writes.{writes_spelling}
use Rattle.zw_wasm.proofs.writing.write.Goals as goal

pub returns-in-Ok-clause-spelled : goal.returns-in-Ok-clause-spelled
returns-in-Ok-clause-spelled g c = writes_spelling c.args.m.now (g.D.Sink.taken c.args.sink.now) (g.D.Sink.taken c.put_all.new.sink) c.put_all.result c.in-Ok.ensures.fit
