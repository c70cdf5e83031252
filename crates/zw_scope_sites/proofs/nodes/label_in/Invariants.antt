use Rattle.std.proofs.Common.{◌≡◌}
use Rattle.zw_tree.specs.Numbering.{below, after}
use Rattle.zw_scope_sites.specs.Scopes.{label_in}
use Rattle.zw_scope_sites.proofs.nodes.label_in.Given as goal

abbrev pub invariant-loop-child : goal.invariant-loop-child
invariant-loop-child l = label_in (after l.child-index (below l.ast l.n)) ≡ label_in (below l.ast l.n)
