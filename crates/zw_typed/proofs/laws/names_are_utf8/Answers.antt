-- By the lemma on ASCII.
use Rattle.zw_typed.proofs.NameLemmas.{names_are_utf8}
use Rattle.zw_typed.proofs.laws.names_are_utf8.Goals as goal

pub returns : goal.returns
returns c = λ name. names_are_utf8 name
