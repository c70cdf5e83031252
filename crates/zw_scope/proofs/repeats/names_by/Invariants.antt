use Rattle.std.proofs.Common.{◌≡◌, ◌<◌, ◌++◌, All}
use Rattle.zw_tree.specs.Numbering.{below, after}
use Rattle.zw_tree.specs.Trees.{count}
use Rattle.zw_scope.specs.Repeats.{entries, names_by}
use Rattle.zw_scope.proofs.repeats.names_by.Given as goal

abbrev pub invariant-loop-child : goal.invariant-loop-child
invariant-loop-child l = record {
  there : All (λ c. c < count l.ast) l.names.items;
  are : entries l.ast l.names.items ++ names_by l.named (after l.child-index (below l.ast l.n)) ≡ names_by l.named (below l.ast l.n);
}
