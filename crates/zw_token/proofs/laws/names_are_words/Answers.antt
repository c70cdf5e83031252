use Rattle.zw_token.proofs.KindLemmas.{name_word}
use Rattle.zw_token.proofs.laws.names_are_words.Goals as goal

pub returns : goal.returns
returns c = λ rest n begins. name_word rest n begins.is_front
