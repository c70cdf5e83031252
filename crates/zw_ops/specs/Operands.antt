-- What was checked of operands before an operator is applied: a number among them is one of the type that the operator works in.
use Rattle.std.specs.Prelude.{◌≡◌, ℤ, IsTrue, List, [], ◌∷◌, All, Option, Some, None, MatchOption}
use Rattle.zw_num.specs.declared.int_ty.IntTy.{IntTy}
use Rattle.zw_num.specs.declared.operator.Shift.{Shift}
use Rattle.zw_num.specs.declared.operator.Measure.{Measure}
use Rattle.zw_num.specs.declared.operator.Measure.TheVariants.{SizeOf, AlignOf, BitSizeOf}
use Rattle.zw_num.specs.declared.operator.Operator.{Operator}
use Rattle.zw_num.specs.declared.operator.Operator.TheVariants as family
use Rattle.zw_num.specs.Arithmetic.{IsIn, IsSized}
use Rattle.zw_num.specs.Meanings.{IsAmountFor, IsOperandOf}
use Rattle.zw_types.specs.declared.value.Value.{Value}
use Rattle.zw_types.specs.declared.value.Value.TheVariants as v
use Rattle.zw_types.specs.TypeTrees.{TypeTree, ValueTree, NumberValue, TypeValue}
use Rattle.zw_layout.specs.Sizes.{is_simple}
use Rattle.zw_values.specs.Coercions.{integer_of}
use Rattle.zw_values.specs.Applied.{first_integers}

-- where the value is a number, it is such a number
abbrev pub IfNumber : (ℤ → Type 0) → ValueTree → Type 0
IfNumber P value = (z : ℤ) → value ≡ NumberValue z → P z

-- the same of a value of the code
abbrev pub IfHasNumber : (ℤ → Type 0) → Value → Type 0
IfHasNumber P value = (z : ℤ) → value ≡ v.Number z → P z

-- a fact of an integer type, where there is one
abbrev pub IfInteger : Option IntTy → (IntTy → Type 0) → Type 0
IfInteger ty P = MatchOption ty (Unit {0}) P

-- the operands of a shift
abbrev pub AreShifted : Shift → IntTy → List ValueTree → Type 0
AreShifted op ty (a ∷ b ∷ []) = IfNumber (IsIn ty) a × IfNumber (IsAmountFor op) b
AreShifted op ty _ = Unit {0}

-- the type that is the one operand
abbrev pub asked_type : List ValueTree → Option TypeTree
asked_type (TypeValue ty ∷ []) = Some ty
asked_type _ = None

-- a type whose layout is asked for has no parts so far
abbrev pub IsMeasurable : Measure → TypeTree → Type 0
IsMeasurable SizeOf ty = IsTrue (is_simple ty)
IsMeasurable AlignOf ty = IsTrue (is_simple ty)
IsMeasurable BitSizeOf ty = Unit {0}

-- numbers of the result's type
abbrev pub AreOfResult : TypeTree → List ValueTree → Type 0
AreOfResult to values = IfInteger (integer_of to) (λ ty. All (IfNumber (IsIn ty)) values)

-- What an operator asks of its operands, their types and the result's type. Comparisons, `@min` and `@max`, casts and operators on truth
-- values ask nothing.
abbrev pub IsReady : Operator → List TypeTree → TypeTree → List ValueTree → Type 0
IsReady (family.Arithmetic op) from to values = AreOfResult to values
IsReady (family.Division op) from to values = AreOfResult to values
IsReady (family.Bitwise op) from to values = AreOfResult to values
IsReady (family.Shift op) from to values = IfInteger (integer_of to) (λ ty. AreShifted op ty values)
IsReady (family.Comparison op) from to values = Unit {0}
IsReady (family.Extreme op) from to values = Unit {0}
IsReady (family.Unary op) from to values =
    IfInteger (first_integers from) (λ own. IfInteger (integer_of to) (λ ty. All (IfNumber (IsOperandOf op own ty)) values))
IsReady (family.Count op) from to values = IfInteger (first_integers from) (λ own. IsSized own × All (IfNumber (IsIn own)) values)
IsReady (family.Cast op) from to values = Unit {0}
IsReady (family.Logic op) from to values = Unit {0}
IsReady (family.Measure op) from to values = MatchOption (asked_type values) (Unit {0}) (IsMeasurable op)
