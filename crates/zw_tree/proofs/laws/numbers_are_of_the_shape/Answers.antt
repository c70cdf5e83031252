use Rattle.zw_tree.proofs.Subtrees.{preorder-map, parent-map, children-map}
use Rattle.zw_tree.proofs.laws.numbers_are_of_the_shape.Goals as goal

pub returns-clause-preorder : goal.returns-clause-preorder
returns-clause-preorder g c = preorder-map

pub returns-clause-parent : goal.returns-clause-parent
returns-clause-parent g c = parent-map

pub returns-clause-children : goal.returns-clause-children
returns-clause-children g c = children-map
