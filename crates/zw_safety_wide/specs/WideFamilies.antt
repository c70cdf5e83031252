-- The code of operators by family, where a type has more than 32 bits. An operator of one operand has that of the setting's left type.
use Rattle.std.specs.Prelude.{List, []}
use Rattle.zw_num.specs.declared.operator.Arithmetic.{Arithmetic}
use Rattle.zw_num.specs.declared.operator.Arithmetic.TheVariants as arithmetic
use Rattle.zw_num.specs.declared.operator.Cast.{Cast}
use Rattle.zw_num.specs.declared.operator.Cast.TheVariants as cast
use Rattle.zw_num.specs.declared.operator.Division.{Division}
use Rattle.zw_num.specs.declared.operator.Division.TheVariants as division
use Rattle.zw_num.specs.declared.operator.Logic.{Logic}
use Rattle.zw_num.specs.declared.operator.Logic.TheVariants as logic
use Rattle.zw_num.specs.declared.operator.Operator.{Operator}
use Rattle.zw_num.specs.declared.operator.Operator.TheVariants as family
use Rattle.zw_num.specs.declared.operator.Shift.{Shift}
use Rattle.zw_num.specs.declared.operator.Shift.TheVariants as shift
use Rattle.zw_num.specs.declared.operator.Unary.{Unary}
use Rattle.zw_num.specs.declared.operator.Unary.TheVariants as unary
use Rattle.zw_safety_narrow.specs.declared.setting.Setting.{Setting}
use Rattle.zw_safety_wide.specs.WideCastCode.{wide_cast_code, wide_distance_code, wide_code_of_count}
use Rattle.zw_safety_wide.specs.WideReversalCode.{wide_byte_swap_code, wide_bit_reverse_code}
use Rattle.zw_safety_wide.specs.WideSaturatingCode.{wide_sum_sat_code, wide_difference_sat_code, wide_product_sat_code}
use Rattle.zw_safety_wide.specs.WideShiftCode.{wide_left_exact_code, wide_right_exact_code, wide_left_sat_code}
use Rattle.zw_safety_wide.specs.WideSignedCode.{wide_quotient_code, wide_rest_code, wide_modulo_code, wide_floor_code, wide_exact_quotient_code}
use Rattle.zw_safety_words.specs.WideBitCode.{wide_code_of_bitwise, wide_left_code, wide_right_code, wide_minus_one, wide_same_code, wide_truncated_code, wide_opposite_code}
use Rattle.zw_safety_words.specs.WideCode.{wide_sum_code, wide_difference_code, wide_product_code, wide_wrapped_code}
use Rattle.zw_safety_words.specs.WideOrderCode.{wide_code_of_comparison, wide_code_of_extreme}
use Rattle.zw_safety_words.specs.WideTruthCode.{wide_not_code}
use Rattle.zw_wasm.specs.declared.module.BinaryOperator.TheVariants.{Add, Sub, Mul, Xor}
use Rattle.zw_wasm.specs.declared.module.Instr.{Instr}

abbrev pub wide_code_of_arithmetic : Arithmetic → Setting → List Instr
wide_code_of_arithmetic arithmetic.Add t = wide_sum_code t.left t.right t.to t.scratch
wide_code_of_arithmetic arithmetic.Sub t = wide_difference_code t.left t.right t.to t.scratch
wide_code_of_arithmetic arithmetic.Mul t = wide_product_code t.left t.right t.to t.scratch
wide_code_of_arithmetic arithmetic.AddWrap t = wide_wrapped_code Add t.left t.right t.to t.scratch
wide_code_of_arithmetic arithmetic.SubWrap t = wide_wrapped_code Sub t.left t.right t.to t.scratch
wide_code_of_arithmetic arithmetic.MulWrap t = wide_wrapped_code Mul t.left t.right t.to t.scratch
wide_code_of_arithmetic arithmetic.AddSat t = wide_sum_sat_code t.left t.right t.to t.scratch
wide_code_of_arithmetic arithmetic.SubSat t = wide_difference_sat_code t.left t.right t.to t.scratch
wide_code_of_arithmetic arithmetic.MulSat t = wide_product_sat_code t.left t.right t.to t.scratch

abbrev pub wide_code_of_division : Division → Setting → List Instr
wide_code_of_division division.Div t = wide_quotient_code t.left t.right t.to t.scratch
wide_code_of_division division.Rem t = wide_rest_code t.left t.right t.to t.scratch
wide_code_of_division division.DivTrunc t = wide_quotient_code t.left t.right t.to t.scratch
wide_code_of_division division.DivFloor t = wide_floor_code t.left t.right t.to t.scratch
wide_code_of_division division.DivExact t = wide_exact_quotient_code t.left t.right t.to t.scratch
wide_code_of_division division.RemTrunc t = wide_rest_code t.left t.right t.to t.scratch
wide_code_of_division division.Mod t = wide_modulo_code t.left t.right t.to t.scratch

abbrev pub wide_code_of_shift : Shift → Setting → List Instr
wide_code_of_shift shift.Shl t = wide_left_code t.left t.right t.to t.scratch
wide_code_of_shift shift.Shr t = wide_right_code t.left t.right t.to t.scratch
wide_code_of_shift shift.ShlSat t = wide_left_sat_code t.left t.right t.to t.scratch
wide_code_of_shift shift.ShlExact t = wide_left_exact_code t.left t.right t.to t.scratch
wide_code_of_shift shift.ShrExact t = wide_right_exact_code t.left t.right t.to t.scratch

abbrev pub wide_code_of_unary : Unary → Setting → List Instr
wide_code_of_unary unary.Neg t = wide_opposite_code t.left t.to t.scratch
wide_code_of_unary unary.NegWrap t = wide_minus_one Mul t.left t.to
wide_code_of_unary unary.BitNot t = wide_minus_one Xor t.left t.to
wide_code_of_unary unary.ByteSwap t = wide_byte_swap_code t.left t.to t.scratch
wide_code_of_unary unary.BitReverse t = wide_bit_reverse_code t.left t.to t.scratch
wide_code_of_unary unary.Abs t = wide_distance_code t.left t.to t.scratch

abbrev pub wide_code_of_cast : Cast → Setting → List Instr
wide_code_of_cast cast.As t = wide_same_code t.left t.to
wide_code_of_cast cast.IntCast t = wide_cast_code t.left t.to t.scratch
wide_code_of_cast cast.Truncate t = wide_truncated_code t.left t.to
wide_code_of_cast cast.BitCast t = wide_truncated_code t.left t.to
wide_code_of_cast cast.IntFromBool t = wide_same_code t.left t.to

-- `!`; `and` and `or` have no code here, since they choose what is computed
abbrev pub wide_code_of_logic : Logic → Setting → List Instr
wide_code_of_logic logic.And t = []
wide_code_of_logic logic.Or t = []
wide_code_of_logic logic.Not t = wide_not_code t.left t.to

-- The code of an operator. A measure of a type is known before there is code.
abbrev pub wide_operator_code : Operator → Setting → List Instr
wide_operator_code (family.Arithmetic x) t = wide_code_of_arithmetic x t
wide_operator_code (family.Division x) t = wide_code_of_division x t
wide_operator_code (family.Bitwise x) t = wide_code_of_bitwise x t
wide_operator_code (family.Shift x) t = wide_code_of_shift x t
wide_operator_code (family.Comparison x) t = wide_code_of_comparison x t
wide_operator_code (family.Extreme x) t = wide_code_of_extreme x t
wide_operator_code (family.Unary x) t = wide_code_of_unary x t
wide_operator_code (family.Count x) t = wide_code_of_count x t
wide_operator_code (family.Cast x) t = wide_code_of_cast x t
wide_operator_code (family.Logic x) t = wide_code_of_logic x t
wide_operator_code (family.Measure x) t = []
