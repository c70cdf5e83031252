use Rattle.zw_session.proofs.Order.{goes_in_order}
use Rattle.zw_session.proofs.calls_go_in_order.Goals as goal

pub returns : goal.returns
returns g c = goes_in_order g.M.Bounded.machine
