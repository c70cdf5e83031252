use Rattle.zw_grammar.proofs.LawLemmas.{not_wrong, not_nested}
use Rattle.zw_grammar.proofs.laws.read_or_stopped.Goals as goal

pub returns-clause-wrong : goal.returns-clause-wrong
returns-clause-wrong c = not_wrong

pub returns-clause-nested : goal.returns-clause-nested
returns-clause-nested c = not_nested
