use Rattle.zw_drive.proofs.DueLemmas.{one_due_lem, one_output}
use Rattle.zw_drive.proofs.laws.one_due.Goals as goal

pub returns-clause-told : goal.returns-clause-told
returns-clause-told c = one_due_lem

pub returns-clause-output : goal.returns-clause-output
returns-clause-output c = one_output
