use Rattle.zw_drive.proofs.ValidateLemmas.{judged}
use Rattle.zw_drive.proofs.validate.judge.Goals as goal

pub returns-in-Ok : goal.returns-in-Ok
returns-in-Ok c = judged c.args.bytes.now c.in-Ok.m c.judge_module.result c.in-Ok.ensures c.judge_module.ensures

pub judge_module-requires : goal.judge_module-requires
judge_module-requires c = (c.args.bytes.now, c.in-Ok.ensures)
