-- By the lemma on the walk.
use Rattle.zw_sema.proofs.BoundLemmas.{walk-lasts}
use Rattle.zw_sema.proofs.laws.larger_bounds_give_the_same.Goals as goal

pub returns : goal.returns
returns c = λ forest bound k task parts state n. walk-lasts forest bound k task parts state n
