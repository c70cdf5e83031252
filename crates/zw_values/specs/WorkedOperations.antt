-- What operations come to, worked out by hand (Zig Language Reference 0.13.0, Operators and Builtin Functions).
use Rattle.std.specs.Prelude.{◌≡◌, ◌-◌, ◌^◌, ℕ, pos, neg_ℤ, Bool, true, false, [], ◌∷◌}
use Rattle.zw_num.specs.declared.operator.Arithmetic.TheVariants.{Add, Sub, Mul, AddWrap, SubWrap, MulWrap, AddSat, SubSat, MulSat}
use Rattle.zw_num.specs.declared.operator.Division.TheVariants.{Div, Rem, DivTrunc, DivFloor, DivExact, RemTrunc, Mod}
use Rattle.zw_num.specs.declared.operator.Shift.TheVariants.{Shl, Shr, ShlSat, ShlExact, ShrExact}
use Rattle.zw_num.specs.declared.operator.Comparison.TheVariants.{Equal, NotEqual, Less, LessOrEqual, Greater, GreaterOrEqual}
use Rattle.zw_num.specs.declared.operator.Extreme.TheVariants.{Min, Max}
use Rattle.zw_num.specs.declared.operator.Unary.TheVariants.{Neg, NegWrap, BitNot, ByteSwap, BitReverse, Abs}
use Rattle.zw_num.specs.declared.operator.Count.TheVariants.{Clz, Ctz, PopCount}
use Rattle.zw_num.specs.declared.operator.Cast.TheVariants.{As, IntCast, Truncate, BitCast, IntFromBool}
use Rattle.zw_num.specs.declared.operator.Measure.TheVariants.{BitSizeOf}
use Rattle.zw_num.specs.declared.operator.Bitwise.TheVariants as bits
use Rattle.zw_num.specs.declared.operator.Logic.TheVariants as logic
use Rattle.zw_num.specs.declared.operator.Operator.{Operator}
use Rattle.zw_num.specs.declared.operator.Operator.TheVariants as family
use Rattle.zw_types.specs.TypeTrees.{TypeTree, ValueTree, IntType, ComptimeIntType, BoolType, TypeType, NumberValue, TruthValue, UndefinedValue, TypeValue}
use Rattle.zw_values.specs.Applied.{Outcome, Gives, Panics, IsWild, Passes, applied}

abbrev pub u : ℕ → TypeTree
u bits = IntType false bits false

abbrev pub i : ℕ → TypeTree
i bits = IntType true bits false

abbrev pub z : ℕ → ValueTree
z n = NumberValue (pos n)

abbrev pub minus : ℕ → ValueTree
minus n = NumberValue (neg_ℤ (pos n))

abbrev pub truth : Bool → ValueTree
truth b = TruthValue b

-- two operands, or one, of the type that the result has
abbrev pub two : Operator → TypeTree → ValueTree → ValueTree → Outcome
two name ty a b = applied name (ty ∷ ty ∷ []) ty (a ∷ b ∷ [])

abbrev pub one : Operator → TypeTree → ValueTree → Outcome
one name ty a = applied name (ty ∷ []) ty (a ∷ [])

-- an operand of one type and a result of another
abbrev pub from_to : Operator → TypeTree → TypeTree → ValueTree → Outcome
from_to name own to a = applied name (own ∷ []) to (a ∷ [])

-- a comparison
abbrev pub whether : Operator → ValueTree → ValueTree → Outcome
whether name a b = applied name [] BoolType (a ∷ b ∷ [])

pub record WorkedIntegers : Type 0 where
  -- checked: the last value, and one past it
  pub sum : two (family.Arithmetic Add) (u 8) (z 254) (z 1) ≡ Gives (z 255)
  pub sum_past : two (family.Arithmetic Add) (u 8) (z 255) (z 1) ≡ Panics 1
  pub difference_past : two (family.Arithmetic Sub) (u 8) (z 0) (z 1) ≡ Panics 1
  pub difference_least : two (family.Arithmetic Sub) (i 8) (minus 127) (z 1) ≡ Gives (minus 128)
  pub product_past : two (family.Arithmetic Mul) (u 64) (z (2 ^ 32)) (z (2 ^ 32)) ≡ Panics 1
  pub sum_wraps : two (family.Arithmetic AddWrap) (i 8) (z 127) (z 1) ≡ Gives (minus 128)
  pub difference_wraps : two (family.Arithmetic SubWrap) (u 8) (z 0) (z 1) ≡ Gives (z 255)
  pub product_wraps : two (family.Arithmetic MulWrap) (u 8) (z 16) (z 17) ≡ Gives (z 16)
  pub sum_stays : two (family.Arithmetic AddSat) (i 8) (minus 128) (minus 1) ≡ Gives (minus 128)
  pub difference_stays : two (family.Arithmetic SubSat) (u 8) (z 3) (z 4) ≡ Gives (z 0)
  pub product_stays : two (family.Arithmetic MulSat) (u 8) (z 16) (z 17) ≡ Gives (z 255)
  -- division: toward zero, down, exactly
  pub quotient : two (family.Division Div) (u 8) (z 7) (z 2) ≡ Gives (z 3)
  pub by_zero : two (family.Division Div) (u 8) (z 7) (z 0) ≡ Panics 7
  pub rest : two (family.Division Rem) (u 8) (z 7) (z 2) ≡ Gives (z 1)
  pub rest_by_zero : two (family.Division Rem) (u 8) (z 7) (z 0) ≡ Panics 7
  pub truncated : two (family.Division DivTrunc) (i 8) (minus 7) (z 2) ≡ Gives (minus 3)
  pub truncated_past : two (family.Division DivTrunc) (i 8) (minus 128) (minus 1) ≡ Panics 1
  pub floored : two (family.Division DivFloor) (i 8) (minus 7) (z 2) ≡ Gives (minus 4)
  pub exact : two (family.Division DivExact) (i 8) (minus 8) (z 2) ≡ Gives (minus 4)
  pub exact_rest : two (family.Division DivExact) (i 8) (minus 7) (z 2) ≡ Panics 8
  pub exact_past : two (family.Division DivExact) (i 8) (minus 128) (minus 1) ≡ Panics 1
  pub rem : two (family.Division RemTrunc) (i 8) (minus 7) (z 2) ≡ Gives (minus 1)
  pub rem_least : two (family.Division RemTrunc) (i 8) (minus 128) (minus 1) ≡ Gives (z 0)
  pub modulo : two (family.Division Mod) (i 8) (minus 7) (z 2) ≡ Gives (z 1)
  pub modulo_by_negative : two (family.Division Mod) (i 8) (z 7) (minus 2) ≡ Gives (minus 1)
  -- bits
  pub both : two (family.Bitwise bits.And) (u 8) (z 12) (z 10) ≡ Gives (z 8)
  pub either : two (family.Bitwise bits.Or) (u 8) (z 12) (z 10) ≡ Gives (z 14)
  pub just_one : two (family.Bitwise bits.Xor) (i 8) (minus 1) (z 1) ≡ Gives (minus 2)
  pub turned : one (family.Unary BitNot) (u 8) (z 1) ≡ Gives (z 254)
  pub turned_signed : one (family.Unary BitNot) (i 8) (z 1) ≡ Gives (minus 2)
  -- shifts: a right operand has a type of its own
  pub left : applied (family.Shift Shl) (u 8 ∷ u 3 ∷ []) (u 8) (z 129 ∷ z 1 ∷ []) ≡ Gives (z 2)
  pub left_past : applied (family.Shift Shl) (u 5 ∷ u 3 ∷ []) (u 5) (z 1 ∷ z 5 ∷ []) ≡ Panics 9
  pub right : applied (family.Shift Shr) (i 8 ∷ u 3 ∷ []) (i 8) (minus 3 ∷ z 1 ∷ []) ≡ Gives (minus 2)
  pub left_stays : applied (family.Shift ShlSat) (u 8 ∷ u 64 ∷ []) (u 8) (z 3 ∷ z 200 ∷ []) ≡ Gives (z 255)
  pub left_exact : applied (family.Shift ShlExact) (u 8 ∷ u 3 ∷ []) (u 8) (z 128 ∷ z 1 ∷ []) ≡ Panics 10
  pub right_exact : applied (family.Shift ShrExact) (u 8 ∷ u 3 ∷ []) (u 8) (z 3 ∷ z 1 ∷ []) ≡ Panics 10
  -- one operand
  pub negated : one (family.Unary Neg) (i 8) (z 128) ≡ Gives (minus 128)
  pub negated_past : one (family.Unary Neg) (i 8) (minus 128) ≡ Panics 1
  pub negated_wraps : one (family.Unary NegWrap) (i 8) (minus 128) ≡ Gives (minus 128)
  pub absolute : from_to (family.Unary Abs) (i 8) (u 8) (minus 128) ≡ Gives (z 128)
  pub least : two (family.Extreme Min) (i 8) (minus 1) (z 1) ≡ Gives (minus 1)
  pub greatest : applied (family.Extreme Max) (u 8 ∷ u 8 ∷ u 8 ∷ []) (u 8) (z 3 ∷ z 5 ∷ z 4 ∷ []) ≡ Gives (z 5)
  pub zeros_before : from_to (family.Count Clz) (u 8) (u 4) (z 1) ≡ Gives (z 7)
  pub zeros_behind : from_to (family.Count Ctz) (i 8) (u 4) (z 0) ≡ Gives (z 8)
  pub ones : from_to (family.Count PopCount) (i 8) (u 4) (minus 1) ≡ Gives (z 8)
  pub bytes : one (family.Unary ByteSwap) (u 16) (z 258) ≡ Gives (z 513)
  pub bits : one (family.Unary BitReverse) (i 8) (z 1) ≡ Gives (minus 128)
  -- casts
  pub cast : from_to (family.Cast IntCast) (i 64) (u 8) (z 255) ≡ Gives (z 255)
  pub cast_past : from_to (family.Cast IntCast) (i 64) (u 8) (z 256) ≡ Panics 11
  pub cast_negative : from_to (family.Cast IntCast) (i 64) (u 8) (minus 1) ≡ Panics 12
  pub cast_signed : from_to (family.Cast IntCast) (i 64) (i 8) (minus 129) ≡ Panics 11
  pub lowest : from_to (family.Cast Truncate) (u 16) (u 8) (z 258) ≡ Gives (z 2)
  pub lowest_of_any : from_to (family.Cast Truncate) ComptimeIntType (i 8) (z 255) ≡ Gives (minus 1)
  pub same_bits : from_to (family.Cast BitCast) (u 8) (i 8) (z 255) ≡ Gives (minus 1)
  pub as_number : from_to (family.Cast IntFromBool) BoolType (u 1) (truth true) ≡ Gives (z 1)

pub record WorkedComptime : Type 0 where
  -- `comptime_int` ends at -2^127 and 2^127 - 1
  pub last_power : two (family.Shift Shl) ComptimeIntType (z 1) (z 126) ≡ Gives (z (2 ^ 126))
  pub past_power : two (family.Shift Shl) ComptimeIntType (z 1) (z 127) ≡ Passes 9
  pub sum_past : two (family.Arithmetic Add) ComptimeIntType (z (2 ^ 127 - 1)) (z 1) ≡ Passes 9
  pub product_past : two (family.Arithmetic MulWrap) ComptimeIntType (z (2 ^ 64)) (z (2 ^ 64)) ≡ Passes 9
  pub negated_past : one (family.Unary Neg) ComptimeIntType (minus (2 ^ 127)) ≡ Passes 9
  pub absolute_past : one (family.Unary Abs) ComptimeIntType (minus (2 ^ 127)) ≡ Passes 9
  pub by_zero : two (family.Division DivTrunc) ComptimeIntType (z 1) (z 0) ≡ Panics 7
  pub negative_amount : two (family.Shift Shr) ComptimeIntType (z 1) (minus 1) ≡ Panics 9

pub record WorkedValues : Type 0 where
  -- integers are compared by their numbers
  pub less : whether (family.Comparison Less) (minus 1) (z 0) ≡ Gives (truth true)
  pub not_less : whether (family.Comparison Less) (z 1) (z 1) ≡ Gives (truth false)
  pub at_most : whether (family.Comparison LessOrEqual) (z 1) (z 1) ≡ Gives (truth true)
  pub greater : whether (family.Comparison Greater) (z 2) (z 1) ≡ Gives (truth true)
  pub at_least : whether (family.Comparison GreaterOrEqual) (z 0) (z 1) ≡ Gives (truth false)
  pub same : whether (family.Comparison Equal) (minus 1) (minus 1) ≡ Gives (truth true)
  pub differ : whether (family.Comparison NotEqual) (minus 1) (z 1) ≡ Gives (truth true)
  pub same_truths : whether (family.Comparison Equal) (truth false) (truth false) ≡ Gives (truth true)
  pub truths_differ : whether (family.Comparison NotEqual) (truth false) (truth true) ≡ Gives (truth true)
  -- `usize` and `u32` are two types
  pub same_types : whether (family.Comparison Equal) (TypeValue (u 8)) (TypeValue (u 8)) ≡ Gives (truth true)
  pub types_differ : whether (family.Comparison Equal) (TypeValue (u 32)) (TypeValue (IntType false 32 true)) ≡ Gives (truth false)
  -- truth values
  pub negation : one (family.Logic logic.Not) BoolType (truth true) ≡ Gives (truth false)
  pub both : two (family.Logic logic.And) BoolType (truth true) (truth false) ≡ Gives (truth false)
  pub first_decides : two (family.Logic logic.And) BoolType (truth false) UndefinedValue ≡ Gives (truth false)
  pub second_is_it : two (family.Logic logic.Or) BoolType (truth false) UndefinedValue ≡ Gives UndefinedValue
  pub either : two (family.Logic logic.Or) BoolType (truth true) UndefinedValue ≡ Gives (truth true)
  -- types
  pub integer_bits : from_to (family.Measure BitSizeOf) TypeType ComptimeIntType (TypeValue (i 9)) ≡ Gives (z 9)
  pub truth_bits : from_to (family.Measure BitSizeOf) TypeType ComptimeIntType (TypeValue BoolType) ≡ Gives (z 1)
  pub as_type : applied (family.Cast As) (TypeType ∷ ComptimeIntType ∷ []) (u 8) (TypeValue (u 8) ∷ z 7 ∷ []) ≡ Gives (z 7)
  -- undefined: it is copied, and not computed with, compared or decided by
  pub copied : applied (family.Cast As) (TypeType ∷ u 8 ∷ []) (u 8) (TypeValue (u 8) ∷ UndefinedValue ∷ []) ≡ Gives UndefinedValue
  pub computed : two (family.Arithmetic AddWrap) (u 8) UndefinedValue (z 1) ≡ IsWild
  pub times_nothing : two (family.Arithmetic Mul) (u 8) (z 0) UndefinedValue ≡ IsWild
  pub shifted : two (family.Shift Shl) (u 8) (z 1) UndefinedValue ≡ IsWild
  pub negated : one (family.Unary Neg) (i 8) UndefinedValue ≡ IsWild
  pub counted : from_to (family.Count Clz) (u 8) (u 4) UndefinedValue ≡ IsWild
  pub compared : whether (family.Comparison Equal) UndefinedValue UndefinedValue ≡ IsWild
  pub decided : two (family.Logic logic.And) BoolType UndefinedValue (truth false) ≡ IsWild
  pub denied : one (family.Logic logic.Not) BoolType UndefinedValue ≡ IsWild
  pub least : applied (family.Extreme Min) (u 8 ∷ u 8 ∷ []) (u 8) (UndefinedValue ∷ z 0 ∷ []) ≡ IsWild
