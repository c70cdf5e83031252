use Rattle.zw_form.proofs.SmallLemmas.{form_small}
use Rattle.zw_form.proofs.laws.forms_are_small.Goals as goal

pub returns : goal.returns
returns c = form_small
