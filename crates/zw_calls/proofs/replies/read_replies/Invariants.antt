use Rattle.std.proofs.Common.{◌+◌, ◌≤◌, length}
use Rattle.std.specs.Str.Lines.{lines}
use Rattle.zw_calls.proofs.ReplyLemmas.{IsRead}
use Rattle.zw_calls.proofs.replies.read_replies.Given as goal

-- the replies so far, and those of the lines that are left
abbrev pub invariant-loop-line : goal.invariant-loop-line
invariant-loop-line l = record {
  within : l.number + length l.left ≤ length l.bytes;
  read : IsRead (lines l.bytes) (lines l.left) l.replies l.number;
}

abbrev pub decreases-loop-line : goal.decreases-loop-line
decreases-loop-line l = length l.left
