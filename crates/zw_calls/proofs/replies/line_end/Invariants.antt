use Rattle.std.proofs.Common.{◌≡◌, ◌+◌, ◌==◌, drop}
use Rattle.std.specs.List.{position_or_len}
use Rattle.zw_calls.proofs.replies.line_end.Given as goal

-- no LF stands in the bytes so far
abbrev pub invariant-loop-at : goal.invariant-loop-at
invariant-loop-at l = l.at + position_or_len (λ byte. byte == 10) (drop l.at l.text) ≡ position_or_len (λ byte. byte == 10) l.text
