use Rattle.zw_tree.proofs.Regrown.{first_nodes-all, grows-next, may_grow-next}
use Rattle.zw_tree.proofs.laws.trees_grow_in_preorder.Goals as goal

pub returns-clause-next : goal.returns-clause-next
returns-clause-next g c = grows-next

pub returns-clause-may_grow : goal.returns-clause-may_grow
returns-clause-may_grow g c = may_grow-next

pub returns-clause-all : goal.returns-clause-all
returns-clause-all g c = first_nodes-all
