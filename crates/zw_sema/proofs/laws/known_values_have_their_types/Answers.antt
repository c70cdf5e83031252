-- By the lemma on the walk.
use Rattle.std.proofs.Common.{subst}
use Rattle.zw_sema.specs.Walk.{Out}
use Rattle.zw_sema.proofs.KnownLemmas.{IsSoundOut, walk-sound}
use Rattle.zw_sema.proofs.laws.known_values_have_their_types.Goals as goal

pub returns : goal.returns
returns c = λ forest bound task parts state part behind h k s e. subst (λ (out : Out). IsSoundOut out) e (walk-sound forest bound task parts state h k s)
