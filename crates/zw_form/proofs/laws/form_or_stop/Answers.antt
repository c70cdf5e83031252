use Rattle.zw_parse.proofs.SyntaxLemmas.{tree_once, stop_once, tree_not_stop}
use Rattle.zw_form.proofs.FormLemmas.{stop_or_form}
use Rattle.zw_form.proofs.laws.form_or_stop.Goals as goal

pub returns : goal.returns
returns c = λ text trees stop form stops. stop_or_form tree_once stop_once tree_not_stop text stop trees stops form
