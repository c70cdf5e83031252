use Rattle.zw_grammar.proofs.LawLemmas.{one_final}
use Rattle.zw_grammar.proofs.laws.one_reading.Goals as goal

pub returns : goal.returns
returns c = one_final
