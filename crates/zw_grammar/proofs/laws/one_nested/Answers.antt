use Rattle.zw_grammar.proofs.LawLemmas.{nested_once}
use Rattle.zw_grammar.proofs.laws.one_nested.Goals as goal

pub returns : goal.returns
returns c = nested_once
