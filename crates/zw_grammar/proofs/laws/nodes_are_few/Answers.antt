use Rattle.zw_grammar.proofs.SizeLemmas.{read_small}
use Rattle.zw_grammar.proofs.laws.nodes_are_few.Goals as goal

pub returns : goal.returns
returns c = read_small
