use Rattle.zw_parse.proofs.SyntaxLemmas.{one_root, trees_in_order, preorder_in_order}
use Rattle.zw_parse.proofs.laws.tokens_of_trees.Goals as goal

pub returns-clause-root : goal.returns-clause-root
returns-clause-root c = one_root

pub returns-clause-order : goal.returns-clause-order
returns-clause-order c = trees_in_order

pub returns-clause-preorder : goal.returns-clause-preorder
returns-clause-preorder c = preorder_in_order
