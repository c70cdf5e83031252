use Rattle.zw_files.proofs.DiscoveryLemmas.{one-end}
use Rattle.zw_files.proofs.laws.one_end.Goals as goal

pub returns : goal.returns
returns c = one-end
