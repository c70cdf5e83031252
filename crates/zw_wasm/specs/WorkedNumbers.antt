-- WorkedNumbers: what operators on numbers give, worked out by hand (WebAssembly Core Specification 1.0, 4.3.2).
use Rattle.std.specs.Prelude.{◌≡◌, pos, negsuc, true, false, [], ◌∷◌}
use Rattle.zw_session.specs.Sessions.{Number, Truth}
use Rattle.zw_wasm.specs.Signature.{Logical, Signed, Unsigned, scalar_of}
use Rattle.zw_wasm.specs.Structure.{I32, I64}
use Rattle.std.specs.Int.{w8, w32, w64}
use Rattle.zw_wasm.specs.declared.module.BinaryOperator.TheVariants.{Add, Sub, Mul, DivS, DivU, RemS, RemU, And, Or, Xor, Shl, ShrS, ShrU, Rotl, Rotr}
use Rattle.zw_wasm.specs.declared.module.Comparison.TheVariants.{Eq, Ne, LtS, LtU, GtS, GtU, LeS, LeU, GeS, GeU}
use Rattle.zw_wasm.specs.declared.module.LoadKind.TheVariants as load
use Rattle.zw_wasm.specs.declared.module.StoreKind.TheVariants as store
use Rattle.zw_wasm.specs.declared.module.UnaryOperator.TheVariants.{Clz, Ctz, Popcnt}
use Rattle.zw_wasm.specs.Accesses.{bits_loaded, bytes_stored}
use Rattle.zw_wasm.specs.Numerics.{DividesByZero, Gives, Overflows, binary_of, extend_s, is_related, unary_of, wrap}

pub record WorkedNumbers : Type 0 where
  -- sums, differences and products are modulo 2^N
  pub sum : binary_of Add w32 4294967295 2 ≡ Gives 1
  pub sum_long : binary_of Add w64 4294967295 2 ≡ Gives 4294967297
  pub difference : binary_of Sub w64 3 10 ≡ Gives 18446744073709551609
  pub nothing : binary_of Sub w32 10 10 ≡ Gives 0
  pub product : binary_of Mul w32 65536 65537 ≡ Gives 65536
  -- quotients go towards 0, and a remainder has the sign of the dividend: -7 by 2, 7 by -2
  pub quotient : binary_of DivS w32 4294967289 2 ≡ Gives 4294967293
  pub remainder : binary_of RemS w32 4294967289 2 ≡ Gives 4294967295
  pub by_negative : binary_of DivS w32 7 4294967294 ≡ Gives 4294967293
  pub remainder_by_negative : binary_of RemS w32 7 4294967294 ≡ Gives 1
  pub without_sign : binary_of DivU w32 4294967289 2 ≡ Gives 2147483644
  pub remainder_without_sign : binary_of RemU w32 4294967289 2 ≡ Gives 1
  -- -2^(N-1) by -1, and by 0
  pub overflows : binary_of DivS w32 2147483648 4294967295 ≡ Overflows
  pub overflows_long : binary_of DivS w64 9223372036854775808 18446744073709551615 ≡ Overflows
  pub remainder_zero : binary_of RemS w32 2147483648 4294967295 ≡ Gives 0
  pub least_by_one : binary_of DivS w32 2147483648 1 ≡ Gives 2147483648
  pub by_zero : binary_of DivS w32 2147483648 0 ≡ DividesByZero
  pub by_zero_unsigned : binary_of DivU w64 7 0 ≡ DividesByZero
  pub remainder_by_zero : binary_of RemS w64 7 0 ≡ DividesByZero
  pub remainder_by_zero_unsigned : binary_of RemU w32 0 0 ≡ DividesByZero
  -- bit by bit
  pub both : binary_of And w32 12 10 ≡ Gives 8
  pub either : binary_of Or w32 12 10 ≡ Gives 14
  pub one : binary_of Xor w32 12 10 ≡ Gives 6
  -- shifts are by a number modulo N
  pub left : binary_of Shl w32 2147483649 1 ≡ Gives 2
  pub left_modulo : binary_of Shl w32 1 33 ≡ Gives 2
  pub left_long : binary_of Shl w64 1 33 ≡ Gives 8589934592
  pub right : binary_of ShrU w32 2147483648 31 ≡ Gives 1
  pub right_with_sign : binary_of ShrS w32 2147483648 31 ≡ Gives 4294967295
  pub right_with_sign_modulo : binary_of ShrS w32 4294967288 33 ≡ Gives 4294967292
  pub turn_left : binary_of Rotl w32 2147483649 1 ≡ Gives 3
  pub turn_right : binary_of Rotr w32 1 1 ≡ Gives 2147483648
  pub turn_none : binary_of Rotl w64 2147483649 64 ≡ Gives 2147483649
  -- how a number begins and ends
  pub zeros_before : unary_of Clz w32 1 ≡ 31
  pub zeros_before_none : unary_of Clz w64 0 ≡ 64
  pub zeros_behind : unary_of Ctz w32 8 ≡ 3
  pub zeros_behind_none : unary_of Ctz w32 0 ≡ 32
  pub ones : unary_of Popcnt w32 11 ≡ 3
  -- -1 and 1, with signs and without
  pub less : is_related LtS w32 4294967295 1 ≡ true
  pub less_without_sign : is_related LtU w32 4294967295 1 ≡ false
  pub less_long : is_related LtS w64 4294967295 1 ≡ false
  pub greater : is_related GtS w32 1 4294967295 ≡ true
  pub greater_without_sign : is_related GtU w32 1 4294967295 ≡ false
  pub at_most : is_related LeS w32 4294967295 4294967295 ≡ true
  pub at_most_without_sign : is_related LeU w32 4294967295 1 ≡ false
  pub at_least : is_related GeS w32 4294967295 1 ≡ false
  pub at_least_without_sign : is_related GeU w32 4294967295 1 ≡ true
  pub equal : is_related Eq w32 7 7 ≡ true
  pub different : is_related Ne w32 7 7 ≡ false
  -- from one width to another
  pub wrapped : wrap w32 4294967301 ≡ 5
  pub extended : extend_s w32 w64 2147483648 ≡ 18446744071562067968
  pub extended_byte : extend_s w8 w32 127 ≡ 127
  -- in the memory the lowest byte comes first
  pub loads : bits_loaded load.I64 (1 ∷ 2 ∷ 3 ∷ 4 ∷ 5 ∷ 6 ∷ 7 ∷ 8 ∷ []) ≡ 578437695752307201
  pub loads_with_sign : bits_loaded load.I64S16 (254 ∷ 255 ∷ []) ≡ 18446744073709551614
  pub loads_without_sign : bits_loaded load.I64U16 (254 ∷ 255 ∷ []) ≡ 65534
  pub stores : bytes_stored store.I32 16909060 ≡ (4 ∷ 3 ∷ 2 ∷ 1 ∷ [])
  pub stores_low : bytes_stored store.I64Low32 4328719365 ≡ (5 ∷ 4 ∷ 3 ∷ 2 ∷ [])

-- How a host reads numbers: each is read whole, so that a bit above the declared type tells it from every value of that type.
pub record WorkedReadings : Type 0 where
  pub unsigned : scalar_of (Unsigned 8) (I32 255) ≡ Number (pos 255)
  pub bit_above : scalar_of (Unsigned 8) (I32 511) ≡ Number (pos 511)
  pub long : scalar_of (Unsigned 33) (I64 4294967296) ≡ Number (pos 4294967296)
  pub signed : scalar_of (Signed 8) (I32 4294967295) ≡ Number (negsuc 0)
  pub sign_above : scalar_of (Signed 8) (I32 255) ≡ Number (pos 255)
  pub signed_long : scalar_of (Signed 64) (I64 18446744073709551614) ≡ Number (negsuc 1)
  pub not_extended : scalar_of (Signed 40) (I64 4294967295) ≡ Number (pos 4294967295)
  -- a truth value is 0 or 1
  pub no : scalar_of Logical (I32 0) ≡ Truth false
  pub yes : scalar_of Logical (I32 1) ≡ Truth true
  pub no_truth : scalar_of Logical (I32 2) ≡ Number (pos 2)
