use Rattle.std.proofs.Common.{◌≡◌, ◌-◌, ◌++◌, List, length}
use Rattle.zw_tree.specs.Trees.{Forest, trees}
use Rattle.zw_grammar.specs.declared.builder.Built.{Built}
use Rattle.zw_grammar.specs.Building.{Span, start_of, front, rest}
use Rattle.zw_grammar.specs.Nodes.{nodes}
use Rattle.zw_grammar.proofs.builder.last_trees.Given as goal

abbrev pub invariant-loop : goal.invariant-loop
invariant-loop l = (older : List Built) (ended : Forest Span) → l.list ≡ older ++ nodes ended → l.least ≡ length older →
    (l.first ≡ start_of l.next (rest (trees ended - l.counter) ended)) × (l.before ≡ length (older ++ nodes (front (trees ended - l.counter) ended)))
