use Rattle.std.proofs.Common.{ℕ, ◌-◌, ◌≤◌, length}
use Rattle.zw_token.specs.Tokens.{IsGap}
use Rattle.zw_token.proofs.lexer.gap_end.Given as goal

-- what is blank up to some place from here on is blank from the start on
abbrev pub invariant-loop-at : goal.invariant-loop-at
invariant-loop-at l = record {
  within : l.at ≤ length l.text;
  goes_on : (to : ℕ) → IsGap l.text l.at to → IsGap l.text l.fn.from to;
}

abbrev pub decreases-loop-at : goal.decreases-loop-at
decreases-loop-at l = length l.text - l.at
