use Rattle.std.proofs.Common.{◌≡◌}
use Rattle.zw_tree.specs.Numbering.{below, after}
use Rattle.zw_scope_sites.specs.Scopes.{name_in}
use Rattle.zw_scope_sites.proofs.nodes.name_in.Given as goal

abbrev pub invariant-loop-child : goal.invariant-loop-child
invariant-loop-child l = name_in (after l.child-index (below l.ast l.n)) ≡ name_in (below l.ast l.n)
