-- The code of each family of operators on types of at most 32 bits. An operator of one operand has that of the setting's left type.
use Rattle.std.specs.Prelude.{List, []}
use Rattle.zw_num.specs.declared.operator.Arithmetic.{Arithmetic}
use Rattle.zw_num.specs.declared.operator.Arithmetic.TheVariants as arithmetic
use Rattle.zw_num.specs.declared.operator.Division.{Division}
use Rattle.zw_num.specs.declared.operator.Division.TheVariants as division
use Rattle.zw_num.specs.declared.operator.Bitwise.{Bitwise}
use Rattle.zw_num.specs.declared.operator.Bitwise.TheVariants as bitwise
use Rattle.zw_num.specs.declared.operator.Shift.{Shift}
use Rattle.zw_num.specs.declared.operator.Shift.TheVariants as shift
use Rattle.zw_num.specs.declared.operator.Comparison.{Comparison}
use Rattle.zw_num.specs.declared.operator.Comparison.TheVariants as comparison
use Rattle.zw_num.specs.declared.operator.Extreme.{Extreme}
use Rattle.zw_num.specs.declared.operator.Extreme.TheVariants as extreme
use Rattle.zw_num.specs.declared.operator.Unary.{Unary}
use Rattle.zw_num.specs.declared.operator.Unary.TheVariants as unary
use Rattle.zw_num.specs.declared.operator.Count.{Count}
use Rattle.zw_num.specs.declared.operator.Count.TheVariants as count
use Rattle.zw_num.specs.declared.operator.Cast.{Cast}
use Rattle.zw_num.specs.declared.operator.Cast.TheVariants as cast
use Rattle.zw_num.specs.declared.operator.Logic.{Logic}
use Rattle.zw_num.specs.declared.operator.Logic.TheVariants as logic
use Rattle.zw_num.specs.declared.operator.Operator.{Operator}
use Rattle.zw_num.specs.declared.operator.Operator.TheVariants as family
use Rattle.zw_safety_narrow.specs.CastCode.{cast_code, truncated_code, negated_code, opposite_code, turned_code, distance_code}
use Rattle.zw_safety_narrow.specs.CompareCode.{comparison_code, choice_code}
use Rattle.zw_safety_narrow.specs.CountCode.{leading_code, trailing_code, ones_code}
use Rattle.zw_safety_narrow.specs.DivisionCode.{quotient_code, rest_code}
use Rattle.zw_safety_narrow.specs.ExactCode.{exact_quotient_code, left_exact_code, right_exact_code}
use Rattle.zw_safety_narrow.specs.FloorCode.{modulo_code, floor_code}
use Rattle.zw_safety_narrow.specs.NarrowCode.{sum_code, difference_code, exact_code, wrapped_code}
use Rattle.zw_safety_narrow.specs.WordCode.{word_code, not_code}
use Rattle.zw_safety_narrow.specs.ReversalCode.{byte_swap_code, bit_reverse_code}
use Rattle.zw_safety_narrow.specs.SaturatingCode.{saturated_code, saturated_product_code, saturated_left_code}
use Rattle.zw_safety_narrow.specs.ShiftCode.{left_code, right_code}
use Rattle.zw_safety_narrow.specs.declared.setting.Setting.{Setting}
use Rattle.zw_wasm.specs.declared.module.BinaryOperator.TheVariants as operator
use Rattle.zw_wasm.specs.declared.module.Comparison.TheVariants.{Eq, Ne, LtS, LtU, GtS, GtU, LeS, LeU, GeS, GeU}
use Rattle.zw_wasm.specs.declared.module.Instr.{Instr}

-- sums, differences and products
abbrev pub code_of_arithmetic : Arithmetic → Setting → List Instr
code_of_arithmetic arithmetic.Add t = sum_code t.left t.right t.to t.scratch
code_of_arithmetic arithmetic.Sub t = difference_code t.left t.right t.to t.scratch
code_of_arithmetic arithmetic.Mul t = exact_code operator.Mul t.left t.right t.to t.scratch
code_of_arithmetic arithmetic.AddWrap t = wrapped_code operator.Add t.to
code_of_arithmetic arithmetic.SubWrap t = wrapped_code operator.Sub t.to
code_of_arithmetic arithmetic.MulWrap t = wrapped_code operator.Mul t.to
code_of_arithmetic arithmetic.AddSat t = saturated_code operator.Add t.left t.right t.to t.scratch
code_of_arithmetic arithmetic.SubSat t = saturated_code operator.Sub t.left t.right t.to t.scratch
code_of_arithmetic arithmetic.MulSat t = saturated_product_code t.left t.right t.to t.scratch

-- quotients and rests
abbrev pub code_of_division : Division → Setting → List Instr
code_of_division division.Div t = quotient_code t.left t.right t.to t.scratch
code_of_division division.Rem t = rest_code t.left t.right t.scratch
code_of_division division.DivTrunc t = quotient_code t.left t.right t.to t.scratch
code_of_division division.DivFloor t = floor_code t.left t.right t.to t.scratch
code_of_division division.DivExact t = exact_quotient_code t.left t.right t.to t.scratch
code_of_division division.RemTrunc t = rest_code t.left t.right t.scratch
code_of_division division.Mod t = modulo_code t.left t.right t.scratch

-- bit by bit
abbrev pub code_of_bitwise : Bitwise → List Instr
code_of_bitwise bitwise.And = word_code operator.And
code_of_bitwise bitwise.Or = word_code operator.Or
code_of_bitwise bitwise.Xor = word_code operator.Xor

-- shifts
abbrev pub code_of_shift : Shift → Setting → List Instr
code_of_shift shift.Shl t = left_code t.right t.to t.scratch
code_of_shift shift.Shr t = right_code t.left t.right t.to t.scratch
code_of_shift shift.ShlSat t = saturated_left_code t.left t.right t.to t.scratch
code_of_shift shift.ShlExact t = left_exact_code t.left t.right t.to t.scratch
code_of_shift shift.ShrExact t = right_exact_code t.left t.right t.to t.scratch

-- comparisons
abbrev pub code_of_comparison : Comparison → Setting → List Instr
code_of_comparison comparison.Equal t = comparison_code Eq Eq t.left t.right t.scratch
code_of_comparison comparison.NotEqual t = comparison_code Ne Ne t.left t.right t.scratch
code_of_comparison comparison.Less t = comparison_code LtS LtU t.left t.right t.scratch
code_of_comparison comparison.LessOrEqual t = comparison_code LeS LeU t.left t.right t.scratch
code_of_comparison comparison.Greater t = comparison_code GtS GtU t.left t.right t.scratch
code_of_comparison comparison.GreaterOrEqual t = comparison_code GeS GeU t.left t.right t.scratch

-- the lesser and the greater of two
abbrev pub code_of_extreme : Extreme → Setting → List Instr
code_of_extreme extreme.Min t = choice_code LtS LtU t.left t.right t.scratch
code_of_extreme extreme.Max t = choice_code GtS GtU t.left t.right t.scratch

-- operators of one integer
abbrev pub code_of_unary : Unary → Setting → List Instr
code_of_unary unary.Neg t = opposite_code t.left t.to t.scratch
code_of_unary unary.NegWrap t = negated_code t.to
code_of_unary unary.BitNot t = turned_code t.to
code_of_unary unary.ByteSwap t = byte_swap_code t.left t.to t.scratch
code_of_unary unary.BitReverse t = bit_reverse_code t.left t.to t.scratch
code_of_unary unary.Abs t = distance_code t.left t.scratch

-- counts of bits
abbrev pub code_of_count : Count → Setting → List Instr
code_of_count count.Clz t = leading_code t.left
code_of_count count.Ctz t = trailing_code t.left t.scratch
code_of_count count.PopCount t = ones_code t.left

-- casts: those of a value that the type has leave it as it is
abbrev pub code_of_cast : Cast → Setting → List Instr
code_of_cast cast.As t = []
code_of_cast cast.IntCast t = cast_code t.left t.to t.scratch
code_of_cast cast.Truncate t = truncated_code t.left t.to
code_of_cast cast.BitCast t = truncated_code t.left t.to
code_of_cast cast.IntFromBool t = []

-- `!`; `and` and `or` have no code here, since they choose what is computed
abbrev pub code_of_logic : Logic → List Instr
code_of_logic logic.And = []
code_of_logic logic.Or = []
code_of_logic logic.Not = not_code

-- The code of an operator. A measure of a type is known before there is code.
abbrev pub narrow_code : Operator → Setting → List Instr
narrow_code (family.Arithmetic x) t = code_of_arithmetic x t
narrow_code (family.Division x) t = code_of_division x t
narrow_code (family.Bitwise x) t = code_of_bitwise x
narrow_code (family.Shift x) t = code_of_shift x t
narrow_code (family.Comparison x) t = code_of_comparison x t
narrow_code (family.Extreme x) t = code_of_extreme x t
narrow_code (family.Unary x) t = code_of_unary x t
narrow_code (family.Count x) t = code_of_count x t
narrow_code (family.Cast x) t = code_of_cast x t
narrow_code (family.Logic x) t = code_of_logic x
narrow_code (family.Measure x) t = []
