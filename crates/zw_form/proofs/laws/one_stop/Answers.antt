use Rattle.zw_parse.proofs.SyntaxLemmas.{tree_once, stop_once, tree_not_stop}
use Rattle.zw_form.proofs.FormLemmas.{one_stop-of}
use Rattle.zw_form.proofs.laws.one_stop.Goals as goal

pub returns : goal.returns
returns c = one_stop-of tree_once stop_once tree_not_stop
