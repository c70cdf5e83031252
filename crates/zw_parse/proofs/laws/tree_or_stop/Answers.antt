use Rattle.zw_parse.proofs.SyntaxLemmas.{tree_or_stop, tree_not_stop}
use Rattle.zw_parse.proofs.laws.tree_or_stop.Goals as goal

pub returns-clause-either : goal.returns-clause-either
returns-clause-either c = tree_or_stop

pub returns-clause-never_both : goal.returns-clause-never_both
returns-clause-never_both c = tree_not_stop
