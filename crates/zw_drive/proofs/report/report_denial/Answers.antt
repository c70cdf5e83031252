use Rattle.zw_drive.proofs.LineLemmas.{denial_some}
use Rattle.zw_drive.proofs.report.report_denial.Goals as goal

pub say-requires-clause-some : goal.say-requires-clause-some
say-requires-clause-some g c =
    rw c.deref.ensures.value (rw c.in-Ok.ensures (denial_some c.args.file.now c.args.denial))
