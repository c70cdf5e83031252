use Rattle.zw_parse.proofs.SyntaxLemmas.{tree_once}
use Rattle.zw_parse.proofs.laws.one_tree.Goals as goal

pub returns : goal.returns
returns c = tree_once
