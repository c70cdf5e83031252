use Rattle.zw_tree.proofs.Nodes.{count-preorder, last-within}
use Rattle.zw_tree.proofs.laws.nodes_in_preorder.Goals as goal

pub returns-clause-count : goal.returns-clause-count
returns-clause-count g c = count-preorder

pub returns-clause-last : goal.returns-clause-last
returns-clause-last g c = last-within
