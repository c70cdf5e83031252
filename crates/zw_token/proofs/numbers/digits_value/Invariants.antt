use Rattle.std.proofs.Common.{◌≡◌, ◌<◌, ◌^◌, take}
use Rattle.zw_token.specs.Numbers.{digits_value}
use Rattle.zw_token.proofs.numbers.digits_value.Given as goal

-- the value of the digits so far
abbrev pub invariant-loop-digit : goal.invariant-loop-digit
invariant-loop-digit l = record {
  is : l.value ≡ digits_value l.base (take l.digit-index l.digits);
  fits : l.value < 2 ^ 128;
}
