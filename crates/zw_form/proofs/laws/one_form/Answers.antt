use Rattle.zw_parse.proofs.SyntaxLemmas.{tree_once, stop_once, tree_not_stop}
use Rattle.zw_form.proofs.FormLemmas.{one_form-of}
use Rattle.zw_form.proofs.laws.one_form.Goals as goal

pub returns : goal.returns
returns c = one_form-of tree_once stop_once tree_not_stop
