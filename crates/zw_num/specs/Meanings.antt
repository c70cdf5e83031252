-- What each operator and builtin means on whole numbers and truth values, family by family (Zig Language Reference 0.13.0, Operators
-- and Builtin Functions), and a row for each: its operands, and what it can fault with. The law `faults_are_told` says that no meaning
-- faults with anything else.
use Rattle.std.specs.Prelude.{◌≡◌, ◌/◌, ◌%◌, ◌≤ℤ◌, ℕ, ℤ, pos, neg_ℤ, ◌+ℤ◌, ◌-ℤ◌, ◌*ℤ◌, Bool, true, false, not, int_le, int_lt, unsigned_abs, count_ones, if◌then◌else◌, List, [], ◌∷◌, Contains, Result, Ok, MatchResult}
use Rattle.std.specs.Ordering.{int_eq}
use Rattle.std.specs.Int.{int_min, int_max}
use Rattle.std.specs.Int.Count.{count_leading_zeros, count_trailing_zeros}
use Rattle.zw_num.specs.declared.int_ty.IntTy.{IntTy}
use Rattle.zw_num.specs.declared.int_ty.IntTy.TheVariants.{Sized, Comptime}
use Rattle.zw_num.specs.declared.num_fault.NumFault.{NumFault}
use Rattle.zw_num.specs.declared.num_fault.NumFault.TheVariants.{Overflow, DivZero, Remainder, ShiftAmount, ShiftBits, Truncated, Negative}
use Rattle.zw_num.specs.declared.operator.Arithmetic.{Arithmetic}
use Rattle.zw_num.specs.declared.operator.Arithmetic.TheVariants.{Add, Sub, Mul, AddWrap, SubWrap, MulWrap, AddSat, SubSat, MulSat}
use Rattle.zw_num.specs.declared.operator.Division.{Division}
use Rattle.zw_num.specs.declared.operator.Division.TheVariants.{Div, Rem, DivTrunc, DivFloor, DivExact, RemTrunc, Mod}
use Rattle.zw_num.specs.declared.operator.Bitwise.{Bitwise}
use Rattle.zw_num.specs.declared.operator.Bitwise.TheVariants as bits
use Rattle.zw_num.specs.declared.operator.Shift.{Shift}
use Rattle.zw_num.specs.declared.operator.Shift.TheVariants.{Shl, Shr, ShlSat, ShlExact, ShrExact}
use Rattle.zw_num.specs.declared.operator.Comparison.{Comparison}
use Rattle.zw_num.specs.declared.operator.Comparison.TheVariants.{Equal, NotEqual, Less, LessOrEqual, Greater, GreaterOrEqual}
use Rattle.zw_num.specs.declared.operator.Extreme.{Extreme}
use Rattle.zw_num.specs.declared.operator.Extreme.TheVariants.{Min, Max}
use Rattle.zw_num.specs.declared.operator.Unary.{Unary}
use Rattle.zw_num.specs.declared.operator.Unary.TheVariants.{Neg, NegWrap, BitNot, ByteSwap, BitReverse, Abs}
use Rattle.zw_num.specs.declared.operator.Count.{Count}
use Rattle.zw_num.specs.declared.operator.Count.TheVariants.{Clz, Ctz, PopCount}
use Rattle.zw_num.specs.declared.operator.Cast.{Cast}
use Rattle.zw_num.specs.declared.operator.Cast.TheVariants.{As, IntCast, Truncate, BitCast, IntFromBool}
use Rattle.zw_num.specs.declared.operator.Logic.{Logic}
use Rattle.zw_num.specs.declared.operator.Logic.TheVariants as logic
use Rattle.zw_num.specs.declared.operator.Operator.{Operator}
use Rattle.zw_num.specs.declared.operator.Operator.TheVariants as family
use Rattle.zw_num.specs.Arithmetic.{IsIn, IsSized, exact, wrapped, saturated, cast_to, truncated, floored, rest_of, divided, exact_quotient, power, shifted, kept, none_lost, none_dropped, bits_and, bits_or, bits_xor, bits_not, pattern, reversed, width}

-- ---- what each family means; `ty` is the type of the result

-- a result that a sized type wraps round or holds at its ends, and that `comptime_int` has exactly
abbrev pub wrapping : IntTy → ℤ → Result ℤ NumFault
wrapping (Sized signed bits) z = Ok (wrapped (Sized signed bits) z)
wrapping Comptime z = exact Comptime z

abbrev pub saturating : IntTy → ℤ → Result ℤ NumFault
saturating (Sized signed bits) z = Ok (saturated (Sized signed bits) z)
saturating Comptime z = exact Comptime z

abbrev pub arithmetic : Arithmetic → IntTy → ℤ → ℤ → Result ℤ NumFault
arithmetic Add ty a b = exact ty (a +ℤ b)
arithmetic Sub ty a b = exact ty (a -ℤ b)
arithmetic Mul ty a b = exact ty (a *ℤ b)
arithmetic AddWrap ty a b = wrapping ty (a +ℤ b)
arithmetic SubWrap ty a b = wrapping ty (a -ℤ b)
arithmetic MulWrap ty a b = wrapping ty (a *ℤ b)
arithmetic AddSat ty a b = saturating ty (a +ℤ b)
arithmetic SubSat ty a b = saturating ty (a -ℤ b)
arithmetic MulSat ty a b = saturating ty (a *ℤ b)

-- The operands of `/` and `%` aren't negative, where both roundings are one.
abbrev pub division : Division → IntTy → ℤ → ℤ → Result ℤ NumFault
division Div ty a b = divided b (exact ty (truncated a b))
division Rem ty a b = divided b (Ok (rest_of a b (truncated a b)))
division DivTrunc ty a b = divided b (exact ty (truncated a b))
division DivFloor ty a b = divided b (exact ty (floored a b))
division DivExact ty a b = divided b (exact_quotient ty a b)
division RemTrunc ty a b = divided b (Ok (rest_of a b (truncated a b)))
division Mod ty a b = divided b (Ok (rest_of a b (floored a b)))

abbrev pub bitwise : Bitwise → ℤ → ℤ → ℤ
bitwise bits.And a b = bits_and a b
bitwise bits.Or a b = bits_or a b
bitwise bits.Xor a b = bits_xor a b

-- a number of the result's type, and an amount
abbrev pub shift : Shift → IntTy → ℤ → ℤ → Result ℤ NumFault
shift Shl ty a b = shifted ty b (kept ty (a *ℤ power b))
shift Shr ty a b = shifted ty b (Ok (floored a (power b)))
shift ShlSat ty a b = saturating ty (a *ℤ power b)
shift ShlExact ty a b = shifted ty b (none_lost ty (a *ℤ power b))
shift ShrExact ty a b = shifted ty b (none_dropped a (power b))

abbrev pub compared : Comparison → ℤ → ℤ → Bool
compared Equal a b = int_eq a b
compared NotEqual a b = not (int_eq a b)
compared Less a b = int_lt a b
compared LessOrEqual a b = int_le a b
compared Greater a b = int_lt b a
compared GreaterOrEqual a b = int_le b a

abbrev pub extreme : Extreme → ℤ → ℤ → ℤ
extreme Min a b = int_min a b
extreme Max a b = int_max a b

-- of a number of the type `own`
abbrev pub unary : Unary → IntTy → IntTy → ℤ → Result ℤ NumFault
unary Neg own ty a = exact ty (neg_ℤ a)
unary NegWrap own ty a = wrapping ty (neg_ℤ a)
unary BitNot own ty a = Ok (wrapped ty (bits_not a))
unary ByteSwap own ty a = Ok (wrapped ty (pos (reversed 256 (width own / 8) (pattern (width own) a))))
unary BitReverse own ty a = Ok (wrapped ty (pos (reversed 2 (width own) (pattern (width own) a))))
unary Abs own ty a = exact ty (pos (unsigned_abs a))

-- of the bits of a number in a width, as the number from 0 on that has them
abbrev pub counted : Count → ℕ → ℕ → ℕ
counted Clz bits n = count_leading_zeros bits n
counted Ctz bits n = count_trailing_zeros bits n
counted PopCount bits n = count_ones n

-- A truth value that becomes a number is 1 or 0 already (`number_of_truth`).
abbrev pub converted : Cast → IntTy → ℤ → Result ℤ NumFault
converted As ty a = Ok a
converted IntCast ty a = cast_to ty a
converted Truncate ty a = Ok (wrapped ty a)
converted BitCast ty a = Ok (wrapped ty a)
converted IntFromBool ty a = Ok a

abbrev pub number_of_truth : Bool → ℤ
number_of_truth true = pos 1
number_of_truth false = pos 0

-- `!` has one operand, and doesn't ask for the second
abbrev pub truth : Logic → Bool → Bool → Bool
truth logic.And a b = if a then b else false
truth logic.Or a b = if a then true else b
truth logic.Not a b = not a

-- ---- what the code asks of operands, beside that they are values of their types

-- the amount of a saturating shift isn't negative
abbrev pub IsAmountFor : Shift → ℤ → Type 0
IsAmountFor ShlSat amount = pos 0 ≤ℤ amount
IsAmountFor _ amount = Unit {0}

-- What an operator of one number asks of its type, the result's type and the number. `~` and the reversals are for sized types, and
-- `@byteSwap` for whole bytes.
abbrev pub IsOperandOf : Unary → IntTy → IntTy → ℤ → Type 0
IsOperandOf Neg own ty z = IsIn ty z
IsOperandOf NegWrap own ty z = IsIn ty z
IsOperandOf BitNot own ty z = IsSized ty × IsIn ty z
IsOperandOf ByteSwap own ty z = (own ≡ ty) × IsSized ty × (width ty % 8 ≡ 0) × IsIn ty z
IsOperandOf BitReverse own ty z = (own ≡ ty) × IsSized ty × IsIn ty z
IsOperandOf Abs own ty z = Unit {0}

-- ---- a row for each operator

-- how many operands there are, and of what
pub data Operands : Type 0 where
  -- two integers of the result's type
  TwoIntegers : Operands
  -- an integer of the result's type, and the amount of a shift
  IntegerAndAmount : Operands
  -- two values of one kind, the integers of any types
  TwoValues : Operands
  -- one integer or more
  SomeIntegers : Operands
  -- one integer
  OneInteger : Operands
  -- one truth value, or two
  OneTruth : Operands
  TwoTruths : Operands
  -- a type alone, or a type and a value that becomes one of it
  OneType : Operands
  TypeAndValue : Operands

abbrev pub operands_of_cast : Cast → Operands
operands_of_cast As = TypeAndValue
operands_of_cast IntFromBool = OneTruth
operands_of_cast _ = OneInteger

abbrev pub operands_of_logic : Logic → Operands
operands_of_logic logic.Not = OneTruth
operands_of_logic _ = TwoTruths

abbrev pub operands : Operator → Operands
operands (family.Arithmetic op) = TwoIntegers
operands (family.Division op) = TwoIntegers
operands (family.Bitwise op) = TwoIntegers
operands (family.Shift op) = IntegerAndAmount
operands (family.Comparison op) = TwoValues
operands (family.Extreme op) = SomeIntegers
operands (family.Unary op) = OneInteger
operands (family.Count op) = OneInteger
operands (family.Cast op) = operands_of_cast op
operands (family.Logic op) = operands_of_logic op
operands (family.Measure op) = OneType

abbrev pub faults_of_arithmetic : Arithmetic → List NumFault
faults_of_arithmetic Add = Overflow ∷ []
faults_of_arithmetic Sub = Overflow ∷ []
faults_of_arithmetic Mul = Overflow ∷ []
faults_of_arithmetic _ = []

abbrev pub faults_of_division : Division → List NumFault
faults_of_division Div = DivZero ∷ Overflow ∷ []
faults_of_division Rem = DivZero ∷ []
faults_of_division DivTrunc = DivZero ∷ Overflow ∷ []
faults_of_division DivFloor = DivZero ∷ Overflow ∷ []
faults_of_division DivExact = DivZero ∷ Overflow ∷ Remainder ∷ []
faults_of_division RemTrunc = DivZero ∷ []
faults_of_division Mod = DivZero ∷ []

abbrev pub faults_of_shift : Shift → List NumFault
faults_of_shift Shl = ShiftAmount ∷ []
faults_of_shift Shr = ShiftAmount ∷ []
faults_of_shift ShlSat = []
faults_of_shift ShlExact = ShiftAmount ∷ ShiftBits ∷ []
faults_of_shift ShrExact = ShiftAmount ∷ ShiftBits ∷ []

abbrev pub faults_of_unary : Unary → List NumFault
faults_of_unary Neg = Overflow ∷ []
faults_of_unary Abs = Overflow ∷ []
faults_of_unary _ = []

abbrev pub faults_of_cast : Cast → List NumFault
faults_of_cast IntCast = Truncated ∷ Negative ∷ []
faults_of_cast _ = []

-- what an operator can fault with in a sized type
abbrev pub faults : Operator → List NumFault
faults (family.Arithmetic op) = faults_of_arithmetic op
faults (family.Division op) = faults_of_division op
faults (family.Bitwise op) = []
faults (family.Shift op) = faults_of_shift op
faults (family.Comparison op) = []
faults (family.Extreme op) = []
faults (family.Unary op) = faults_of_unary op
faults (family.Count op) = []
faults (family.Cast op) = faults_of_cast op
faults (family.Logic op) = []
faults (family.Measure op) = []

-- In `comptime_int`, which doesn't wrap round, any of them can pass the range.
abbrev pub faults_in : IntTy → Operator → List NumFault
faults_in (Sized signed bits) op = faults op
faults_in Comptime op = Overflow ∷ faults op

-- a meaning's fault, where it has one, is among these
abbrev pub FaultsAmong : List NumFault → Result ℤ NumFault → Type 0
FaultsAmong among result = MatchResult result (λ z. Unit {0}) (λ fault. Contains among fault)
