use Rattle.zw_session.proofs.Lifting.{ends_by_calls}
use Rattle.zw_session.proofs.target_ends_as_source.Goals as goal

pub returns : goal.returns
returns g c =
    let s = g.S.Simulation in
    ends_by_calls s.related s.source s.target s.agrees_on_calls s.stays_ended s.source_start s.target_start s.starts
