use Rattle.std.proofs.Common.{◌≡◌, refl}
use Rattle.std.specs.Int.{w32, w64}
use lib.Count.{count_leading_zeros, count_trailing_zeros, ones_in}
use lib.Count as count
use Rattle.zw_wasm.proofs.execution.numbers_are_worked.Goals as goal
use Rattle.zw_wasm.specs.declared.module.UnaryOperator.TheVariants.{Clz, Ctz, Popcnt}
use Rattle.zw_wasm.specs.Numerics.{unary_of}

zeros_before : unary_of Clz w32 1 ≡ 31
unfolding count_leading_zeros
zeros_before = refl

zeros_before_none : unary_of Clz w64 0 ≡ 64
unfolding count_leading_zeros
zeros_before_none = refl

zeros_behind : unary_of Ctz w32 8 ≡ 3
unfolding count_trailing_zeros
zeros_behind = refl

zeros_behind_none : unary_of Ctz w32 0 ≡ 32
unfolding count_trailing_zeros
zeros_behind_none = refl

ones : unary_of Popcnt w32 11 ≡ 3
unfolding count.ones ones_in
ones = refl

pub returns-clause-operators : goal.returns-clause-operators
returns-clause-operators c = record {
  sum = refl;
  sum_long = refl;
  difference = refl;
  nothing = refl;
  product = refl;
  quotient = refl;
  remainder = refl;
  by_negative = refl;
  remainder_by_negative = refl;
  without_sign = refl;
  remainder_without_sign = refl;
  overflows = refl;
  overflows_long = refl;
  remainder_zero = refl;
  least_by_one = refl;
  by_zero = refl;
  by_zero_unsigned = refl;
  remainder_by_zero = refl;
  remainder_by_zero_unsigned = refl;
  both = refl;
  either = refl;
  one = refl;
  left = refl;
  left_modulo = refl;
  left_long = refl;
  right = refl;
  right_with_sign = refl;
  right_with_sign_modulo = refl;
  turn_left = refl;
  turn_right = refl;
  turn_none = refl;
  zeros_before = zeros_before;
  zeros_before_none = zeros_before_none;
  zeros_behind = zeros_behind;
  zeros_behind_none = zeros_behind_none;
  ones = ones;
  less = refl;
  less_without_sign = refl;
  less_long = refl;
  greater = refl;
  greater_without_sign = refl;
  at_most = refl;
  at_most_without_sign = refl;
  at_least = refl;
  at_least_without_sign = refl;
  equal = refl;
  different = refl;
  wrapped = refl;
  extended = refl;
  extended_byte = refl;
  loads = refl;
  loads_with_sign = refl;
  loads_without_sign = refl;
  stores = refl;
  stores_low = refl;
}
