-- The code of each operator that is served on types of at most 32 bits is right wherever it stands, family by family.
use Rattle.std.proofs.Common.{◌≡◌, ◌%◌, true, refl}
use Rattle.zw_num.specs.Arithmetic.{width}
use Rattle.zw_num.specs.declared.operator.Arithmetic.{Arithmetic}
use Rattle.zw_num.specs.declared.operator.Arithmetic.TheVariants as arithmetic_op
use Rattle.zw_num.specs.declared.operator.Division.{Division}
use Rattle.zw_num.specs.declared.operator.Division.TheVariants as division_op
use Rattle.zw_num.specs.declared.operator.Bitwise.{Bitwise}
use Rattle.zw_num.specs.declared.operator.Bitwise.TheVariants as bitwise_op
use Rattle.zw_num.specs.declared.operator.Shift.{Shift}
use Rattle.zw_num.specs.declared.operator.Shift.TheVariants as shift_op
use Rattle.zw_num.specs.declared.operator.Comparison.{Comparison}
use Rattle.zw_num.specs.declared.operator.Comparison.TheVariants as comparison_op
use Rattle.zw_num.specs.declared.operator.Extreme.{Extreme}
use Rattle.zw_num.specs.declared.operator.Extreme.TheVariants as extreme_op
use Rattle.zw_num.specs.declared.operator.Unary.{Unary}
use Rattle.zw_num.specs.declared.operator.Unary.TheVariants as unary_op
use Rattle.zw_num.specs.declared.operator.Count.{Count}
use Rattle.zw_num.specs.declared.operator.Count.TheVariants as count_op
use Rattle.zw_num.specs.declared.operator.Cast.{Cast}
use Rattle.zw_num.specs.declared.operator.Cast.TheVariants as cast_op
use Rattle.zw_num.specs.declared.operator.Logic.{Logic}
use Rattle.zw_num.specs.declared.operator.Logic.TheVariants as logic_op
use Rattle.zw_num.specs.declared.operator.Operator.{Operator}
use Rattle.zw_num.specs.declared.operator.Operator.TheVariants as family
use Rattle.zw_safety_narrow.proofs.CastRight.{neg-right, bit_not-right, neg_wrap-right, not-right, abs-right, as-right, from_bool-right, cast-right, truncate-right, bit_cast-right}
use Rattle.zw_safety_narrow.proofs.CountRight.{clz-right, ctz-right, pop_count-right}
use Rattle.zw_safety_narrow.proofs.ExactRight.{div_exact-right, shl_exact-right, shr_exact-right, shl_sat-right}
use Rattle.zw_safety_narrow.proofs.FloorRight.{mod-right, div_floor-right}
use Rattle.zw_safety_narrow.proofs.OperatorsRight.{AreNarrow, sum-right, difference-right, product-right, sum_wrap-right, difference_wrap-right, product_wrap-right}
use Rattle.zw_safety_narrow.proofs.OrderRight.{and-right, or-right, xor-right, equal-right, not_equal-right, less-right, less_or_equal-right, greater-right, greater_or_equal-right, min-right, max-right}
use Rattle.zw_safety_narrow.proofs.ReversalRight.{byte_swap-right, bit_reverse-right}
use Rattle.zw_safety_narrow.proofs.SaturatingRight.{add_sat-right, sub_sat-right, mul_sat-right}
use Rattle.zw_safety_narrow.proofs.ShareRight.{shl-right, shr-right, div-right, rem-right, div_trunc-right, rem_trunc-right}
use Rattle.zw_safety_narrow.specs.CompareCode.{is_unsigned}
use Rattle.zw_safety_narrow.specs.Families.{code_of_arithmetic, code_of_division, code_of_bitwise, code_of_shift, code_of_comparison, code_of_extreme, code_of_unary, code_of_count, code_of_cast, code_of_logic, narrow_code}
use Rattle.zw_safety_narrow.specs.Operators.{IsNarrow, IsServedIn32, IsRightOfTwo, IsRightOfOne, IsRight, has_two, has_one, is_saturated_shift, is_byte_swap}
use Rattle.zw_safety_narrow.specs.declared.setting.Setting.{Setting}

arithmetic_right : (x : Arithmetic) (t : Setting) → AreNarrow t.left t.right t.to → IsRightOfTwo (family.Arithmetic x) t (code_of_arithmetic x t)
arithmetic_right arithmetic_op.Add t h = sum-right t h
arithmetic_right arithmetic_op.Sub t h = difference-right t h
arithmetic_right arithmetic_op.Mul t h = product-right t h
arithmetic_right arithmetic_op.AddWrap t h = sum_wrap-right t h
arithmetic_right arithmetic_op.SubWrap t h = difference_wrap-right t h
arithmetic_right arithmetic_op.MulWrap t h = product_wrap-right t h
arithmetic_right arithmetic_op.AddSat t h = add_sat-right t h
arithmetic_right arithmetic_op.SubSat t h = sub_sat-right t h
arithmetic_right arithmetic_op.MulSat t h = mul_sat-right t h

division_right : (x : Division) (t : Setting) → AreNarrow t.left t.right t.to → IsRightOfTwo (family.Division x) t (code_of_division x t)
division_right division_op.Div t h = div-right t h
division_right division_op.Rem t h = rem-right t h
division_right division_op.DivTrunc t h = div_trunc-right t h
division_right division_op.DivFloor t h = div_floor-right t h
division_right division_op.DivExact t h = div_exact-right t h
division_right division_op.RemTrunc t h = rem_trunc-right t h
division_right division_op.Mod t h = mod-right t h

bitwise_right : (x : Bitwise) (t : Setting) → AreNarrow t.left t.right t.to → IsRightOfTwo (family.Bitwise x) t (code_of_bitwise x)
bitwise_right bitwise_op.And t h = and-right t h
bitwise_right bitwise_op.Or t h = or-right t h
bitwise_right bitwise_op.Xor t h = xor-right t h

shift_right : (x : Shift) (t : Setting) → AreNarrow t.left t.right t.to → (is_saturated_shift (family.Shift x) ≡ true → is_unsigned t.right ≡ true) → IsRightOfTwo (family.Shift x) t (code_of_shift x t)
shift_right shift_op.Shl t h u = shl-right t h
shift_right shift_op.Shr t h u = shr-right t h
shift_right shift_op.ShlSat t h u = shl_sat-right t h (u refl)
shift_right shift_op.ShlExact t h u = shl_exact-right t h
shift_right shift_op.ShrExact t h u = shr_exact-right t h

comparison_right : (x : Comparison) (t : Setting) → AreNarrow t.left t.right t.to → IsRightOfTwo (family.Comparison x) t (code_of_comparison x t)
comparison_right comparison_op.Equal t h = equal-right t h
comparison_right comparison_op.NotEqual t h = not_equal-right t h
comparison_right comparison_op.Less t h = less-right t h
comparison_right comparison_op.LessOrEqual t h = less_or_equal-right t h
comparison_right comparison_op.Greater t h = greater-right t h
comparison_right comparison_op.GreaterOrEqual t h = greater_or_equal-right t h

extreme_right : (x : Extreme) (t : Setting) → AreNarrow t.left t.right t.to → IsRightOfTwo (family.Extreme x) t (code_of_extreme x t)
extreme_right extreme_op.Min t h = min-right t h
extreme_right extreme_op.Max t h = max-right t h

unary_right : (x : Unary) (t : Setting) → IsNarrow t.left → IsNarrow t.to → (is_byte_swap (family.Unary x) ≡ true → width t.left % 8 ≡ 0) → IsRightOfOne (family.Unary x) t (code_of_unary x t)
unary_right unary_op.Neg t h k u = neg-right t h k
unary_right unary_op.NegWrap t h k u = neg_wrap-right t h k
unary_right unary_op.BitNot t h k u = bit_not-right t h k
unary_right unary_op.ByteSwap t h k u = byte_swap-right t h k (u refl)
unary_right unary_op.BitReverse t h k u = bit_reverse-right t h k
unary_right unary_op.Abs t h k u = abs-right t h k

count_right : (x : Count) (t : Setting) → IsNarrow t.left → IsNarrow t.to → IsRightOfOne (family.Count x) t (code_of_count x t)
count_right count_op.Clz t h k = clz-right t h k
count_right count_op.Ctz t h k = ctz-right t h k
count_right count_op.PopCount t h k = pop_count-right t h k

cast_right : (x : Cast) (t : Setting) → IsNarrow t.left → IsNarrow t.to → IsRightOfOne (family.Cast x) t (code_of_cast x t)
cast_right cast_op.As t h k = as-right t h k
cast_right cast_op.IntCast t h k = cast-right t h k
cast_right cast_op.Truncate t h k = truncate-right t h k
cast_right cast_op.BitCast t h k = bit_cast-right t h k
cast_right cast_op.IntFromBool t h k = from_bool-right t h k

logic_right : (x : Logic) (t : Setting) → IsNarrow t.left → IsNarrow t.to → has_one (family.Logic x) ≡ true → IsRightOfOne (family.Logic x) t (code_of_logic x)
logic_right logic_op.And t h k e = absurd (cc)
logic_right logic_op.Or t h k e = absurd (cc)
logic_right logic_op.Not t h k e = not-right t h k

narrow_types : (o : Operator) (t : Setting) → IsServedIn32 o t → has_two o ≡ true → AreNarrow t.left t.right t.to
narrow_types o t served e = record { left_narrow = served.left_narrow; right_narrow = served.right_narrow e; to_narrow = served.to_narrow }

right_of_two : (o : Operator) (t : Setting) → IsServedIn32 o t → has_two o ≡ true → IsRightOfTwo o t (narrow_code o t)
right_of_two (family.Arithmetic x) t served e = arithmetic_right x t (narrow_types (family.Arithmetic x) t served e)
right_of_two (family.Division x) t served e = division_right x t (narrow_types (family.Division x) t served e)
right_of_two (family.Bitwise x) t served e = bitwise_right x t (narrow_types (family.Bitwise x) t served e)
right_of_two (family.Shift x) t served e = shift_right x t (narrow_types (family.Shift x) t served e) served.right_unsigned
right_of_two (family.Comparison x) t served e = comparison_right x t (narrow_types (family.Comparison x) t served e)
right_of_two (family.Extreme x) t served e = extreme_right x t (narrow_types (family.Extreme x) t served e)
right_of_two (family.Unary x) t served e = absurd (cc)
right_of_two (family.Count x) t served e = absurd (cc)
right_of_two (family.Cast x) t served e = absurd (cc)
right_of_two (family.Logic x) t served e = absurd (cc)
right_of_two (family.Measure x) t served e = absurd (cc)

right_of_one : (o : Operator) (t : Setting) → IsServedIn32 o t → has_one o ≡ true → IsRightOfOne o t (narrow_code o t)
right_of_one (family.Arithmetic x) t served e = absurd (cc)
right_of_one (family.Division x) t served e = absurd (cc)
right_of_one (family.Bitwise x) t served e = absurd (cc)
right_of_one (family.Shift x) t served e = absurd (cc)
right_of_one (family.Comparison x) t served e = absurd (cc)
right_of_one (family.Extreme x) t served e = absurd (cc)
right_of_one (family.Unary x) t served e = unary_right x t served.left_narrow served.to_narrow served.whole_bytes
right_of_one (family.Count x) t served e = count_right x t served.left_narrow served.to_narrow
right_of_one (family.Cast x) t served e = cast_right x t served.left_narrow served.to_narrow
right_of_one (family.Logic x) t served e = logic_right x t served.left_narrow served.to_narrow e
right_of_one (family.Measure x) t served e = absurd (cc)

-- each operator that is served
pub family_right : (o : Operator) (t : Setting) → IsServedIn32 o t → IsRight o t (narrow_code o t)
family_right o t served = record { of_two = right_of_two o t served; of_one = right_of_one o t served }
