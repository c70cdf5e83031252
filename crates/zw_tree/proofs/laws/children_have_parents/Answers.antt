use Rattle.zw_tree.proofs.Descent.{child-parent, parent-child, parent-before}
use Rattle.zw_tree.proofs.laws.children_have_parents.Goals as goal

pub returns-clause-parent : goal.returns-clause-parent
returns-clause-parent g c = child-parent

pub returns-clause-child : goal.returns-clause-child
returns-clause-child g c = parent-child

pub returns-clause-order : goal.returns-clause-order
returns-clause-order g c = parent-before
