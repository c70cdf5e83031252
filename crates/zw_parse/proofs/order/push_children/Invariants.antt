use Rattle.std.proofs.Common.{◌-◌, ◌≤◌, length, reverse}
use Rattle.zw_tree.specs.Trees.{Forest}
use Rattle.zw_grammar.specs.Building.{Span}
use Rattle.zw_parse.specs.Order.{EndsAt, Pushed}
use Rattle.zw_parse.proofs.order.push_children.Given as goal

abbrev pub invariant-loop-end : goal.invariant-loop-end
invariant-loop-end l = record { within : l.end ≤ length l.built; pushed : (root : Span) (below : Forest Span) (ends : EndsAt l.built l.fn.at root below) → Pushed ends l.begin l.end l.parent (reverse l.initial.waiting.items) (reverse l.waiting.items) }

abbrev pub decreases-loop-end : goal.decreases-loop-end
decreases-loop-end l = l.end - l.begin
