use Rattle.zw_report.proofs.Apart.{one_reading}
use Rattle.zw_report.proofs.laws.one_reading.Goals as goal

pub returns : goal.returns
returns c = one_reading
