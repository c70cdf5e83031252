use Rattle.zw_tree.proofs.Families.{child-first, child-next}
use Rattle.zw_tree.proofs.laws.children_in_order.Goals as goal

pub returns-clause-first : goal.returns-clause-first
returns-clause-first g c = child-first

pub returns-clause-next : goal.returns-clause-next
returns-clause-next g c = child-next
