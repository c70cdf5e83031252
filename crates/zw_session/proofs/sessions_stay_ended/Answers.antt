use Rattle.zw_session.proofs.Staying.{sessions_stay}
use Rattle.zw_session.proofs.sessions_stay_ended.Goals as goal

pub returns : goal.returns
returns g c = let m = g.M.Bounded in sessions_stay m.machine m.stays_ended
