use Rattle.std.proofs.Common.{arith}
use Rattle.zw_tree.proofs.Descent.{descendant-numbers, numbers-descendant}
use Rattle.zw_tree.proofs.laws.descendants_are_next.Goals as goal

pub returns : goal.returns
returns g c = λ forest n m lt. (
  (λ below. let both = descendant-numbers forest n m below in (both.0, omega arith)),
  (λ between. numbers-descendant forest n m lt between.0 between.1),
)
