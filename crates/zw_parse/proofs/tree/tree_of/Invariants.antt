use Rattle.std.proofs.Common.{◌≡◌}
use Rattle.zw_tree.specs.Trees.{Forest, map_forest}
use Rattle.zw_tree.specs.Growth.{first_nodes}
use Rattle.zw_grammar.specs.Building.{Span}
use Rattle.zw_parse.specs.Order.{IsTree}
use Rattle.zw_parse.specs.Entries.{entry_at}
use Rattle.zw_parse.proofs.tree.tree_of.Given as goal

abbrev pub invariant-loop-next : goal.invariant-loop-next
invariant-loop-next l = (forest : Forest Span) → IsTree l.nodes forest → l.ast ≡ first_nodes (map_forest (entry_at l.file l.text l.tokens) forest) l.next-index
