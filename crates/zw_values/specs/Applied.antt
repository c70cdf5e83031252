-- What the operators and builtins give on known integers, truth values and types (Zig Language Reference 0.13.0, Operators and Builtin
-- Functions): the meanings of the families on numbers, lifted to values. It is the one meaning of an operator, while a program is
-- compiled and while it runs.
--
-- `applied` is the whole of it: an operator, the types of its operands, the type of its result, and the values of the operands. Operands
-- were checked before: on others it says `IsWild`, which means nothing there. `@sizeOf` and `@alignOf` ask a table of types, and say
-- `IsWild` too.
use Rattle.std.specs.Prelude.{ℕ, ℤ, pos, Bool, true, false, not, if◌then◌else◌, List, [], ◌∷◌, Option, Some, None, Result, Ok, Err}
use Rattle.zw_num.specs.declared.int_ty.IntTy.{IntTy}
use Rattle.zw_num.specs.declared.int_ty.IntTy.TheVariants.{Sized, Comptime}
use Rattle.zw_num.specs.declared.num_fault.NumFault.{NumFault}
use Rattle.zw_num.specs.declared.num_fault.NumFault.TheVariants as fault
use Rattle.zw_num.specs.declared.operator.Comparison.{Comparison}
use Rattle.zw_num.specs.declared.operator.Comparison.TheVariants.{Equal, NotEqual}
use Rattle.zw_num.specs.declared.operator.Count.{Count}
use Rattle.zw_num.specs.declared.operator.Extreme.{Extreme}
use Rattle.zw_num.specs.declared.operator.Logic.{Logic}
use Rattle.zw_num.specs.declared.operator.Logic.TheVariants as logic
use Rattle.zw_num.specs.declared.operator.Cast.{Cast}
use Rattle.zw_num.specs.declared.operator.Cast.TheVariants.{As, IntCast, Truncate, BitCast, IntFromBool}
use Rattle.zw_num.specs.declared.operator.Measure.{Measure}
use Rattle.zw_num.specs.declared.operator.Measure.TheVariants.{SizeOf, AlignOf, BitSizeOf}
use Rattle.zw_num.specs.declared.operator.Operator.{Operator}
use Rattle.zw_num.specs.declared.operator.Operator.TheVariants as family
use Rattle.zw_num.specs.Arithmetic.{pattern, width}
use Rattle.zw_num.specs.Meanings.{arithmetic, division, bitwise, shift, compared, extreme, unary, counted, converted, number_of_truth}
use Rattle.zw_types.specs.TypeTrees as tree
use Rattle.zw_types.specs.TypeTrees.{TypeTree, ValueTree}
use Rattle.zw_values.specs.Sameness.{is_same}
use Rattle.zw_values.specs.Coercions.{integer_of}

-- what an operation comes to: a value, a panic with its cause, unchecked illegal behaviour, or a limit that is passed
pub data Outcome : Type 0 where
  Gives : ValueTree → Outcome
  Panics : ℕ → Outcome
  IsWild : Outcome
  Passes : ℕ → Outcome

-- what a fault of exact arithmetic comes to in a result type: on `comptime_int` an overflow passes limit 9
abbrev pub outcome_of_fault : IntTy → NumFault → Outcome
outcome_of_fault Comptime fault.Overflow = Passes 9
outcome_of_fault (Sized signed bits) fault.Overflow = Panics 1
outcome_of_fault ty fault.DivZero = Panics 7
outcome_of_fault ty fault.Remainder = Panics 8
outcome_of_fault ty fault.ShiftAmount = Panics 9
outcome_of_fault ty fault.ShiftBits = Panics 10
outcome_of_fault ty fault.Truncated = Panics 11
outcome_of_fault ty fault.Negative = Panics 12

abbrev pub outcome_of : IntTy → Result ℤ NumFault → Outcome
outcome_of ty (Ok z) = Gives (tree.NumberValue z)
outcome_of ty (Err e) = outcome_of_fault ty e

-- ---- on values: an operand that is undefined makes the operation wild

-- a meaning on two numbers, and on one, with a result of this type
abbrev pub of_two_numbers : IntTy → (ℤ → ℤ → Result ℤ NumFault) → ValueTree → ValueTree → Outcome
of_two_numbers ty meaning (tree.NumberValue a) (tree.NumberValue b) = outcome_of ty (meaning a b)
of_two_numbers ty meaning _ _ = IsWild

abbrev pub of_number : IntTy → (ℤ → Result ℤ NumFault) → ValueTree → Outcome
of_number ty meaning (tree.NumberValue a) = outcome_of ty (meaning a)
of_number ty meaning _ = IsWild

-- what `==` and `!=` say of two things that are the same or not
abbrev pub equality : Comparison → Bool → Outcome
equality Equal same = Gives (tree.TruthValue same)
equality NotEqual same = Gives (tree.TruthValue (not same))
equality _ same = IsWild

-- Integers are compared by their numbers; `==` and `!=` hold for truth values and types too.
abbrev pub compared_values : Comparison → ValueTree → ValueTree → Outcome
compared_values op (tree.NumberValue a) (tree.NumberValue b) = Gives (tree.TruthValue (compared op a b))
compared_values op (tree.TruthValue a) (tree.TruthValue b) = equality op (if a then b else not b)
compared_values op (tree.TypeValue a) (tree.TypeValue b) = equality op (is_same a b)
compared_values _ _ _ = IsWild

abbrev pub count_on_value : Count → IntTy → ValueTree → Outcome
count_on_value op own (tree.NumberValue a) = Gives (tree.NumberValue (pos (counted op (width own) (pattern (width own) a))))
count_on_value op own _ = IsWild

-- the number that a value is, and what comes of it
abbrev pub number_in : ValueTree → Option ℤ
number_in (tree.NumberValue a) = Some a
number_in _ = None

abbrev pub on_number : Option ℤ → (ℤ → Outcome) → Outcome
on_number (Some a) f = f a
on_number None f = IsWild

-- `@min` and `@max` of one value or more
abbrev pub extreme_from : Extreme → ℤ → List ValueTree → Outcome
extreme_from op a [] = Gives (tree.NumberValue a)
extreme_from op a (b ∷ more) = on_number (number_in b) (λ b. extreme_from op (extreme op a b) more)

abbrev pub extreme_of : Extreme → List ValueTree → Outcome
extreme_of op [] = IsWild
extreme_of op (a ∷ more) = on_number (number_in a) (λ a. extreme_from op a more)

abbrev pub negated : ValueTree → Outcome
negated (tree.TruthValue b) = Gives (tree.TruthValue (not b))
negated _ = IsWild

-- The first operand decides: where it doesn't tell alone, the second one is the result, and may be undefined.
abbrev pub both : ValueTree → ValueTree → Outcome
both (tree.TruthValue a) b = Gives (if a then b else tree.TruthValue false)
both _ b = IsWild

abbrev pub either : ValueTree → ValueTree → Outcome
either (tree.TruthValue a) b = Gives (if a then tree.TruthValue true else b)
either _ b = IsWild

abbrev pub int_from_bool : ValueTree → Outcome
int_from_bool (tree.TruthValue b) = Gives (tree.NumberValue (number_of_truth b))
int_from_bool _ = IsWild

-- the bits of an integer type, and of `bool`
abbrev pub bit_size : TypeTree → Option ℕ
bit_size (tree.IntType signed bits size) = Some bits
bit_size tree.BoolType = Some 1
bit_size _ = None

abbrev pub number_or_wild : Option ℕ → Outcome
number_or_wild (Some n) = Gives (tree.NumberValue (pos n))
number_or_wild None = IsWild

abbrev pub bit_size_of : ValueTree → Outcome
bit_size_of (tree.TypeValue ty) = number_or_wild (bit_size ty)
bit_size_of _ = IsWild

-- ---- all of them

abbrev pub on_one : (ValueTree → Outcome) → List ValueTree → Outcome
on_one f (a ∷ []) = f a
on_one f _ = IsWild

abbrev pub on_two : (ValueTree → ValueTree → Outcome) → List ValueTree → Outcome
on_two f (a ∷ b ∷ []) = f a b
on_two f _ = IsWild

-- the integers of a type, and of the type of the first operand
abbrev pub in_integers : Option IntTy → (IntTy → Outcome) → Outcome
in_integers (Some ty) f = f ty
in_integers None f = IsWild

abbrev pub first_integers : List TypeTree → Option IntTy
first_integers (ty ∷ more) = integer_of ty
first_integers [] = None

-- a meaning of two integers of the result's type
abbrev pub on_integers : (IntTy → ℤ → ℤ → Result ℤ NumFault) → TypeTree → List ValueTree → Outcome
on_integers meaning to values = in_integers (integer_of to) (λ ty. on_two (of_two_numbers ty (meaning ty)) values)

-- a meaning of an integer of its own type, with a result of another
abbrev pub on_integer : (IntTy → IntTy → ℤ → Result ℤ NumFault) → List TypeTree → TypeTree → List ValueTree → Outcome
on_integer meaning from to values =
    in_integers (first_integers from) (λ own. in_integers (integer_of to) (λ ty. on_one (of_number ty (meaning own ty)) values))

abbrev pub logic_applied : Logic → List ValueTree → Outcome
logic_applied logic.And values = on_two both values
logic_applied logic.Or values = on_two either values
logic_applied logic.Not values = on_one negated values

-- A value of one of these types that becomes one of another stays as it is.
abbrev pub cast_applied : Cast → List TypeTree → TypeTree → List ValueTree → Outcome
cast_applied As from to values = on_two (λ ty v. Gives v) values
cast_applied IntFromBool from to values = on_one int_from_bool values
cast_applied IntCast from to values = on_integer (λ own. converted IntCast) from to values
cast_applied Truncate from to values = on_integer (λ own. converted Truncate) from to values
cast_applied BitCast from to values = on_integer (λ own. converted BitCast) from to values

abbrev pub measured : Measure → List ValueTree → Outcome
measured BitSizeOf values = on_one bit_size_of values
measured SizeOf values = IsWild
measured AlignOf values = IsWild

-- what an operator comes to
abbrev pub applied : Operator → List TypeTree → TypeTree → List ValueTree → Outcome
applied (family.Arithmetic op) from to values = on_integers (arithmetic op) to values
applied (family.Division op) from to values = on_integers (division op) to values
applied (family.Bitwise op) from to values = on_integers (λ ty a b. Ok (bitwise op a b)) to values
applied (family.Shift op) from to values = on_integers (shift op) to values
applied (family.Comparison op) from to values = on_two (compared_values op) values
applied (family.Extreme op) from to values = extreme_of op values
applied (family.Unary op) from to values = on_integer (unary op) from to values
applied (family.Count op) from to values = in_integers (first_integers from) (λ own. on_one (count_on_value op own) values)
applied (family.Cast op) from to values = cast_applied op from to values
applied (family.Logic op) from to values = logic_applied op values
applied (family.Measure op) from to values = measured op values
