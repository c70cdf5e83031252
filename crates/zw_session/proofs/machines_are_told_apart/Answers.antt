use Rattle.zw_session.proofs.TellingApart.{tells_apart}
use Rattle.zw_session.proofs.machines_are_told_apart.Goals as goal

pub returns : goal.returns
returns c = tells_apart
