use Rattle.zw_names.proofs.SetLemmas.{IsTrue-holds}
use Rattle.zw_names.proofs.sets.holds.Goals as goal

pub returns : goal.returns
returns c = IsTrue-holds c.args.name.now c.args.set.now.keys c.contains.result c.contains.ensures
