use Rattle.zw_files.proofs.DiscoveryLemmas.{one_reading, some_reading}
use Rattle.zw_files.proofs.laws.texts_read_once.Goals as goal

pub returns-clause-once : goal.returns-clause-once
returns-clause-once c = one_reading

pub returns-clause-some : goal.returns-clause-some
returns-clause-some c = some_reading
