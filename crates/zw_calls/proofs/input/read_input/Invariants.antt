use Rattle.std.proofs.Common.{◌≡◌, ◌-◌, ◌≤◌, length}
use Rattle.std.specs.Io.KnownBytes.{Consumes}
use Rattle.zw_calls.proofs.input.read_input.Given as goal

-- the bytes so far were read, and the source hasn't failed
abbrev pub invariant-loop-piece : goal.invariant-loop-piece
invariant-loop-piece g l = record {
  within : length l.bytes.items ≤ 16777217;
  read : Consumes (g.S.Source.left l.fn.input) (g.S.Source.left l.input) l.bytes.items;
  steady : g.S.Source.faults l.input ≡ g.S.Source.faults l.fn.input;
}

abbrev pub decreases-loop-piece : goal.decreases-loop-piece
decreases-loop-piece g l = 16777217 - length l.bytes.items
