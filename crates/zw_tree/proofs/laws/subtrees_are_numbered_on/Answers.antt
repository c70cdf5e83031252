use Rattle.std.proofs.Common.{refl, ◌+◌}
use Rattle.zw_tree.proofs.Nodes.{from-below}
use Rattle.zw_tree.proofs.Subtrees.{node-root}
use Rattle.zw_tree.proofs.laws.subtrees_are_numbered_on.Goals as goal

pub returns-clause-root : goal.returns-clause-root
returns-clause-root g c = node-root

pub returns-clause-below : goal.returns-clause-below
returns-clause-below g c = λ forest n k lt fits. from-below forest n lt k (n + k) refl fits
