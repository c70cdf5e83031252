use Rattle.zw_files.proofs.DiscoveryLemmas.{one-discovery}
use Rattle.zw_files.proofs.laws.one_discovery.Goals as goal

pub returns : goal.returns
returns c = one-discovery
