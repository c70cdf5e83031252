use Rattle.std.proofs.Common.{suc}
use Rattle.zw_tree.proofs.Growing.{preorder-under, parent-under-new, parent-under-other, children-under-new, children-under-same, children-under-other}
use Rattle.zw_tree.proofs.Subtrees.{trees-under}
use Rattle.zw_tree.proofs.laws.growth_keeps_numbers.Goals as goal

pub returns-clause-preorder : goal.returns-clause-preorder
returns-clause-preorder g c = preorder-under

pub returns-clause-roots : goal.returns-clause-roots
returns-clause-roots g c = trees-under

pub returns-clause-parent : goal.returns-clause-parent
returns-clause-parent g c = parent-under-new

pub returns-clause-other_parents : goal.returns-clause-other_parents
returns-clause-other_parents g c = parent-under-other

pub returns-clause-no_children : goal.returns-clause-no_children
returns-clause-no_children g c = children-under-new

pub returns-clause-last_child : goal.returns-clause-last_child
returns-clause-last_child g c = children-under-same

pub returns-clause-other_children : goal.returns-clause-other_children
returns-clause-other_children g c = λ item forest n o m lt ne. children-under-other item forest n o m lt ne (suc m)
