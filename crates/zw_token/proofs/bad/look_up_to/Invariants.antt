use Rattle.zw_token.specs.Reading.{IsGoodUpTo}
use Rattle.zw_token.proofs.bad.look_up_to.Given as goal

abbrev pub invariant-loop-at : goal.invariant-loop-at
invariant-loop-at l = IsGoodUpTo l.text l.at l.valid
