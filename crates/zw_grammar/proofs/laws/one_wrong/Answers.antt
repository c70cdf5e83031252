use Rattle.zw_grammar.proofs.LawLemmas.{wrong_once}
use Rattle.zw_grammar.proofs.laws.one_wrong.Goals as goal

pub returns : goal.returns
returns c = wrong_once
