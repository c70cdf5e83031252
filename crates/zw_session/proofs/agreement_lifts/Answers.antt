use Rattle.zw_session.proofs.Lifting.{agrees_by_calls}
use Rattle.zw_session.proofs.agreement_lifts.Goals as goal

pub returns : goal.returns
returns g c =
    let s = g.S.Simulation in
    agrees_by_calls s.related s.source s.target s.agrees_on_calls s.stays_ended s.source_start s.target_start s.starts
