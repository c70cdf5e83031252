use Rattle.std.proofs.Common.{◌≡◌, drop, false}
use Rattle.zw_token.specs.Numbers.{are_digits_behind}
use Rattle.zw_token.proofs.numbers.are_digits.Given as goal

-- the digits that are left decide as all do
abbrev pub invariant-loop-digit : goal.invariant-loop-digit
invariant-loop-digit l = are_digits_behind l.base l.behind (drop l.digit-index l.digits) ≡ are_digits_behind l.base false l.digits
