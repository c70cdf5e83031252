-- By the lemmas on the nodes, each by hand.
use Rattle.zw_typed.proofs.FitLemmas.{worked_fits}
use Rattle.zw_typed.proofs.laws.fits_are_worked.Goals as goal

pub returns : goal.returns
returns c = worked_fits
