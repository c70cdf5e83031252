use Rattle.zw_parse.proofs.SyntaxLemmas.{few_of_tree}
use Rattle.zw_parse.proofs.laws.trees_are_small.Goals as goal

pub returns : goal.returns
returns c = few_of_tree
