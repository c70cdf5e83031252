use Rattle.std.proofs.Common.{◌-◌, length, reverse}
use Rattle.zw_tree.specs.Trees.{Forest}
use Rattle.zw_grammar.specs.Building.{Span}
use Rattle.zw_parse.specs.Order.{IsTree, Kept}
use Rattle.zw_parse.proofs.order.preorder.Given as goal

abbrev pub invariant-loop-next : goal.invariant-loop-next
invariant-loop-next l = (forest : Forest Span) → IsTree l.built forest → Kept l.built forest (reverse l.waiting.items) l.order.items

abbrev pub decreases-loop-next : goal.decreases-loop-next
decreases-loop-next l = length l.built - length l.order.items
