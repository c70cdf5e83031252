use Rattle.std.proofs.Common.{◌≡◌, ◌+◌, ◌-◌, ◌≤◌, drop, length}
use Rattle.zw_token.specs.Literals.{items_len}
use Rattle.zw_token.proofs.literals.items_len.Given as goal

-- the items so far and those that are left are all
abbrev pub invariant-loop-len : goal.invariant-loop-len
invariant-loop-len l = record {
  within : l.at ≤ length l.rest;
  counted : l.at + items_len l.quote (drop l.at l.rest) ≡ items_len l.quote l.rest;
}

abbrev pub decreases-loop-len : goal.decreases-loop-len
decreases-loop-len l = length l.rest - l.at
