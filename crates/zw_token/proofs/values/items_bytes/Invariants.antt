use Rattle.std.proofs.Common.{◌≡◌, ◌++◌, ◌-◌, ◌≤◌, drop, length}
use Rattle.zw_token.specs.Literals.{items_bytes}
use Rattle.zw_token.proofs.values.items_bytes.Given as goal

-- the bytes so far, followed by those of the items that are left, are those of all
abbrev pub invariant-loop-len : goal.invariant-loop-len
invariant-loop-len l = record {
  within : l.at ≤ length l.rest;
  so_far : l.bytes.items ++ items_bytes 34 (drop l.at l.rest) ≡ items_bytes 34 l.rest;
}

abbrev pub decreases-loop-len : goal.decreases-loop-len
decreases-loop-len l = length l.rest - l.at
