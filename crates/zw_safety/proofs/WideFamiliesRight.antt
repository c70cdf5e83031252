-- The code of each operator that is served where a type has more than 32 bits is right wherever it stands, family by family.
use Rattle.std.proofs.Common.{◌≡◌, ℕ, ◌%◌, ◌+ℤ◌, ◌-ℤ◌, ◌*ℤ◌, true, refl, sym, subst}
use Rattle.zw_num.specs.Arithmetic.{width}
use Rattle.zw_num.specs.declared.operator.Arithmetic.{Arithmetic}
use Rattle.zw_num.specs.declared.operator.Arithmetic.TheVariants as arithmetic_op
use Rattle.zw_num.specs.declared.operator.Division.{Division}
use Rattle.zw_num.specs.declared.operator.Division.TheVariants as division_op
use Rattle.zw_num.specs.declared.operator.Bitwise.{Bitwise}
use Rattle.zw_num.specs.declared.operator.Bitwise.TheVariants as bitwise_op
use Rattle.zw_num.specs.declared.operator.Shift.{Shift}
use Rattle.zw_num.specs.declared.operator.Shift.TheVariants as shift_op
use Rattle.zw_num.specs.declared.operator.Comparison.{Comparison}
use Rattle.zw_num.specs.declared.operator.Comparison.TheVariants as comparison_op
use Rattle.zw_num.specs.declared.operator.Extreme.{Extreme}
use Rattle.zw_num.specs.declared.operator.Extreme.TheVariants as extreme_op
use Rattle.zw_num.specs.declared.operator.Unary.{Unary}
use Rattle.zw_num.specs.declared.operator.Unary.TheVariants as unary_op
use Rattle.zw_num.specs.declared.operator.Count.{Count}
use Rattle.zw_num.specs.declared.operator.Count.TheVariants as count_op
use Rattle.zw_num.specs.declared.operator.Cast.{Cast}
use Rattle.zw_num.specs.declared.operator.Cast.TheVariants as cast_op
use Rattle.zw_num.specs.declared.operator.Logic.{Logic}
use Rattle.zw_num.specs.declared.operator.Logic.TheVariants as logic_op
use Rattle.zw_num.specs.declared.operator.Operator.{Operator}
use Rattle.zw_num.specs.declared.operator.Operator.TheVariants as family
use Rattle.zw_safety_narrow.proofs.NarrowRuns.{EndsOn, addition, subtraction, multiplication}
use Rattle.zw_safety_narrow.proofs.SizedTypes.{sized_wraps, stored_sized}
use Rattle.zw_safety_wide.proofs.WideCastRight.{wide_cast-right, wide_abs-right, wide_clz-right, wide_ctz-right, wide_pop_count-right}
use Rattle.zw_safety_wide.proofs.WideReversalRight.{wide_byte_swap-right, wide_bit_reverse-right}
use Rattle.zw_safety_wide.proofs.WideSaturatingRight.{wide_add_sat-right, wide_sub_sat-right, wide_mul_sat-right}
use Rattle.zw_safety_wide.proofs.WideShareRight.{wide_div-right, wide_rem-right, wide_div_trunc-right, wide_rem_trunc-right, wide_div_floor-right, wide_mod-right, wide_div_exact-right}
use Rattle.zw_safety_wide.proofs.WideShiftRight.{wide_shl_exact-right, wide_shr_exact-right, wide_shl_sat-right}
use Rattle.zw_safety_words.proofs.WideBitRight.{AreStored, wide_and-right, wide_or-right, wide_xor-right, wide_equal-right, wide_not_equal-right, wide_less-right, wide_less_or_equal-right, wide_greater-right, wide_greater_or_equal-right, wide_min-right, wide_max-right, wide_shl-right, wide_shr-right, wide_neg-right, wide_not-right, wide_neg_wrap-right, wide_as-right, wide_from_bool-right, wide_truncate-right, wide_bit_cast-right}
use Rattle.zw_safety_words.proofs.WideTruthRight.{wide_is_false-right}
use Rattle.zw_safety_words.proofs.WideClosed.{wide_wrapped-closed, wide_sum-closed, wide_difference-closed, wide_product-closed}
use Rattle.zw_safety_words.proofs.WideProductRuns.{wide_product-ends}
use Rattle.zw_safety_words.proofs.WideRuns.{wide_wrapped-ends}
use Rattle.zw_safety_words.proofs.WideSums.{wide_sum-ends, wide_difference-ends}
use Rattle.zw_safety_words.proofs.WideTypes.{takes-wide_wrapped, takes-wide_sum, takes-wide_difference, takes-wide_product}
use Rattle.zw_safety_narrow.specs.CastCode.{holds}
use Rattle.zw_safety_narrow.specs.CompareCode.{is_unsigned}
use Rattle.zw_safety_narrow.specs.Operators.{IsStored, IsRightOfTwo, IsRightOfOne, has_two, has_one, is_saturated_shift, is_byte_swap, writes_locals}
use Rattle.zw_safety_narrow.specs.declared.setting.Setting.{Setting}
use Rattle.zw_safety_words.specs.WideCode.{wide_wrapped_code, wide_sum_code, wide_difference_code, wide_product_code}
use Rattle.zw_safety_wide.specs.WideFamilies.{wide_code_of_arithmetic, wide_code_of_division, wide_code_of_shift, wide_code_of_unary, wide_code_of_cast, wide_code_of_logic, wide_operator_code}
use Rattle.zw_safety_wide.specs.WideCastCode.{wide_code_of_count}
use Rattle.zw_safety_words.specs.WideBitCode.{wide_code_of_bitwise}
use Rattle.zw_safety_words.specs.WideOrderCode.{wide_code_of_comparison, wide_code_of_extreme}
use Rattle.zw_safety_wide.specs.WideSignedCode.{are_wide_shares}
use Rattle.zw_safety.specs.Families.{IsServedIn64, is_kept_shift}
use Rattle.zw_wasm.specs.declared.module.BinaryOperator.TheVariants.{Add, Sub, Mul}

-- ---- sums, differences and products

sum-right : (t : Setting) → AreStored t.left t.right t.to → IsRightOfTwo (family.Arithmetic arithmetic_op.Add) t (wide_sum_code t.left t.right t.to t.scratch)
sum-right t h = record {
  ends = λ m v c a b os rest il ir scratch state. wide_sum-ends m v c t.scratch t.left t.right t.to a b os rest h.left_stored h.right_stored h.to_stored il ir (scratch refl) state;
  typed = λ x ts scratch state. takes-wide_sum x t.left t.right t.to t.scratch ts (scratch refl) state;
  closed = wide_sum-closed t.left t.right t.to t.scratch;
}

difference-right : (t : Setting) → AreStored t.left t.right t.to → IsRightOfTwo (family.Arithmetic arithmetic_op.Sub) t (wide_difference_code t.left t.right t.to t.scratch)
difference-right t h = record {
  ends = λ m v c a b os rest il ir scratch state. wide_difference-ends m v c t.scratch t.left t.right t.to a b os rest h.left_stored h.right_stored h.to_stored il ir (scratch refl) state;
  typed = λ x ts scratch state. takes-wide_difference x t.left t.right t.to t.scratch ts (scratch refl) state;
  closed = wide_difference-closed t.left t.right t.to t.scratch;
}

product-right : (t : Setting) → AreStored t.left t.right t.to → IsRightOfTwo (family.Arithmetic arithmetic_op.Mul) t (wide_product_code t.left t.right t.to t.scratch)
product-right t h = record {
  ends = λ m v c a b os rest il ir scratch state. wide_product-ends m v c t.scratch t.left t.right t.to a b os rest h.left_stored h.right_stored h.to_stored il ir (scratch refl) state;
  typed = λ x ts scratch state. takes-wide_product x t.left t.right t.to t.scratch ts (scratch refl) state;
  closed = wide_product-closed t.left t.right t.to t.scratch;
}

-- a wrapping sum writes locals here
sum_wrap-right : (t : Setting) → AreStored t.left t.right t.to → writes_locals (family.Arithmetic arithmetic_op.AddWrap) t ≡ true → IsRightOfTwo (family.Arithmetic arithmetic_op.AddWrap) t (wide_wrapped_code Add t.left t.right t.to t.scratch)
sum_wrap-right t h e = record {
  ends = λ m v c a b os rest il ir scratch state.
      subst (λ r. EndsOn m v c t.scratch t.left t.right t.to a b os (wide_wrapped_code Add t.left t.right t.to t.scratch) rest r) (sym (sized_wraps t.to (a +ℤ b) (stored_sized t.to h.to_stored)))
      (wide_wrapped-ends m v c Add (λ a b. a +ℤ b) t.scratch t.left t.right t.to a b os rest addition h.left_stored h.right_stored h.to_stored il ir (scratch e));
  typed = λ x ts scratch state. takes-wide_wrapped x Add t.left t.right t.to t.scratch ts (scratch e);
  closed = wide_wrapped-closed Add t.left t.right t.to t.scratch;
}

difference_wrap-right : (t : Setting) → AreStored t.left t.right t.to → IsRightOfTwo (family.Arithmetic arithmetic_op.SubWrap) t (wide_wrapped_code Sub t.left t.right t.to t.scratch)
difference_wrap-right t h = record {
  ends = λ m v c a b os rest il ir scratch state.
      subst (λ r. EndsOn m v c t.scratch t.left t.right t.to a b os (wide_wrapped_code Sub t.left t.right t.to t.scratch) rest r) (sym (sized_wraps t.to (a -ℤ b) (stored_sized t.to h.to_stored)))
      (wide_wrapped-ends m v c Sub (λ a b. a -ℤ b) t.scratch t.left t.right t.to a b os rest subtraction h.left_stored h.right_stored h.to_stored il ir (scratch refl));
  typed = λ x ts scratch state. takes-wide_wrapped x Sub t.left t.right t.to t.scratch ts (scratch refl);
  closed = wide_wrapped-closed Sub t.left t.right t.to t.scratch;
}

product_wrap-right : (t : Setting) → AreStored t.left t.right t.to → IsRightOfTwo (family.Arithmetic arithmetic_op.MulWrap) t (wide_wrapped_code Mul t.left t.right t.to t.scratch)
product_wrap-right t h = record {
  ends = λ m v c a b os rest il ir scratch state.
      subst (λ r. EndsOn m v c t.scratch t.left t.right t.to a b os (wide_wrapped_code Mul t.left t.right t.to t.scratch) rest r) (sym (sized_wraps t.to (a *ℤ b) (stored_sized t.to h.to_stored)))
      (wide_wrapped-ends m v c Mul (λ a b. a *ℤ b) t.scratch t.left t.right t.to a b os rest multiplication h.left_stored h.right_stored h.to_stored il ir (scratch refl));
  typed = λ x ts scratch state. takes-wide_wrapped x Mul t.left t.right t.to t.scratch ts (scratch refl);
  closed = wide_wrapped-closed Mul t.left t.right t.to t.scratch;
}

arithmetic_right : (x : Arithmetic) (t : Setting) → AreStored t.left t.right t.to → writes_locals (family.Arithmetic x) t ≡ true → IsRightOfTwo (family.Arithmetic x) t (wide_code_of_arithmetic x t)
arithmetic_right arithmetic_op.Add t h w = sum-right t h
arithmetic_right arithmetic_op.Sub t h w = difference-right t h
arithmetic_right arithmetic_op.Mul t h w = product-right t h
arithmetic_right arithmetic_op.AddWrap t h w = sum_wrap-right t h w
arithmetic_right arithmetic_op.SubWrap t h w = difference_wrap-right t h
arithmetic_right arithmetic_op.MulWrap t h w = product_wrap-right t h
arithmetic_right arithmetic_op.AddSat t h w = wide_add_sat-right t h
arithmetic_right arithmetic_op.SubSat t h w = wide_sub_sat-right t h
arithmetic_right arithmetic_op.MulSat t h w = wide_mul_sat-right t h

-- ---- the other families

division_right : (x : Division) (t : Setting) → AreStored t.left t.right t.to → are_wide_shares t.left t.right t.to ≡ true → IsRightOfTwo (family.Division x) t (wide_code_of_division x t)
division_right division_op.Div t h e = wide_div-right t h e
division_right division_op.Rem t h e = wide_rem-right t h e
division_right division_op.DivTrunc t h e = wide_div_trunc-right t h e
division_right division_op.DivFloor t h e = wide_div_floor-right t h e
division_right division_op.DivExact t h e = wide_div_exact-right t h e
division_right division_op.RemTrunc t h e = wide_rem_trunc-right t h e
division_right division_op.Mod t h e = wide_mod-right t h e

bitwise_right : (x : Bitwise) (t : Setting) → AreStored t.left t.right t.to → IsRightOfTwo (family.Bitwise x) t (wide_code_of_bitwise x t)
bitwise_right bitwise_op.And t h = wide_and-right t h
bitwise_right bitwise_op.Or t h = wide_or-right t h
bitwise_right bitwise_op.Xor t h = wide_xor-right t h

shift_right : (x : Shift) (t : Setting) → AreStored t.left t.right t.to → (is_kept_shift (family.Shift x) ≡ true → holds t.to t.left ≡ true) → (is_saturated_shift (family.Shift x) ≡ true → is_unsigned t.right ≡ true) → IsRightOfTwo (family.Shift x) t (wide_code_of_shift x t)
shift_right shift_op.Shl t h k u = wide_shl-right t h
shift_right shift_op.Shr t h k u = wide_shr-right t h
shift_right shift_op.ShlSat t h k u = wide_shl_sat-right t h (k refl) (u refl)
shift_right shift_op.ShlExact t h k u = wide_shl_exact-right t h (k refl)
shift_right shift_op.ShrExact t h k u = wide_shr_exact-right t h

comparison_right : (x : Comparison) (t : Setting) → AreStored t.left t.right t.to → IsRightOfTwo (family.Comparison x) t (wide_code_of_comparison x t)
comparison_right comparison_op.Equal t h = wide_equal-right t h
comparison_right comparison_op.NotEqual t h = wide_not_equal-right t h
comparison_right comparison_op.Less t h = wide_less-right t h
comparison_right comparison_op.LessOrEqual t h = wide_less_or_equal-right t h
comparison_right comparison_op.Greater t h = wide_greater-right t h
comparison_right comparison_op.GreaterOrEqual t h = wide_greater_or_equal-right t h

extreme_right : (x : Extreme) (t : Setting) → AreStored t.left t.right t.to → IsRightOfTwo (family.Extreme x) t (wide_code_of_extreme x t)
extreme_right extreme_op.Min t h = wide_min-right t h
extreme_right extreme_op.Max t h = wide_max-right t h

unary_right : (x : Unary) (t : Setting) → IsStored t.left → IsStored t.to → (is_byte_swap (family.Unary x) ≡ true → width t.left % 8 ≡ 0) → IsRightOfOne (family.Unary x) t (wide_code_of_unary x t)
unary_right unary_op.Neg t h k u = wide_neg-right t h k
unary_right unary_op.NegWrap t h k u = wide_neg_wrap-right t h k
unary_right unary_op.BitNot t h k u = wide_not-right t h k
unary_right unary_op.ByteSwap t h k u = wide_byte_swap-right t h k (u refl)
unary_right unary_op.BitReverse t h k u = wide_bit_reverse-right t h k
unary_right unary_op.Abs t h k u = wide_abs-right t h k

count_right : (x : Count) (t : Setting) → IsStored t.left → IsStored t.to → IsRightOfOne (family.Count x) t (wide_code_of_count x t)
count_right count_op.Clz t h k = wide_clz-right t h k
count_right count_op.Ctz t h k = wide_ctz-right t h k
count_right count_op.PopCount t h k = wide_pop_count-right t h k

cast_right : (x : Cast) (t : Setting) → IsStored t.left → IsStored t.to → IsRightOfOne (family.Cast x) t (wide_code_of_cast x t)
cast_right cast_op.As t h k = wide_as-right t h k
cast_right cast_op.IntCast t h k = wide_cast-right t h k
cast_right cast_op.Truncate t h k = wide_truncate-right t h k
cast_right cast_op.BitCast t h k = wide_bit_cast-right t h k
cast_right cast_op.IntFromBool t h k = wide_from_bool-right t h k

logic_right : (x : Logic) (t : Setting) → IsStored t.left → IsStored t.to → has_one (family.Logic x) ≡ true → IsRightOfOne (family.Logic x) t (wide_code_of_logic x t)
logic_right logic_op.And t h k e = absurd (cc)
logic_right logic_op.Or t h k e = absurd (cc)
logic_right logic_op.Not t h k e = wide_is_false-right t h k

stored_types : (o : Operator) (t : Setting) → IsServedIn64 o t → has_two o ≡ true → AreStored t.left t.right t.to
stored_types o t served e = record { left_stored = served.left_stored; right_stored = served.right_stored e; to_stored = served.to_stored }

pub right_of_two : (o : Operator) (t : Setting) → IsServedIn64 o t → writes_locals o t ≡ true → has_two o ≡ true → IsRightOfTwo o t (wide_operator_code o t)
right_of_two (family.Arithmetic x) t served w e = arithmetic_right x t (stored_types (family.Arithmetic x) t served e) w
right_of_two (family.Division x) t served w e = division_right x t (stored_types (family.Division x) t served e) (served.shares refl)
right_of_two (family.Bitwise x) t served w e = bitwise_right x t (stored_types (family.Bitwise x) t served e)
right_of_two (family.Shift x) t served w e = shift_right x t (stored_types (family.Shift x) t served e) served.kept served.right_unsigned
right_of_two (family.Comparison x) t served w e = comparison_right x t (stored_types (family.Comparison x) t served e)
right_of_two (family.Extreme x) t served w e = extreme_right x t (stored_types (family.Extreme x) t served e)
right_of_two (family.Unary x) t served w e = absurd (cc)
right_of_two (family.Count x) t served w e = absurd (cc)
right_of_two (family.Cast x) t served w e = absurd (cc)
right_of_two (family.Logic x) t served w e = absurd (cc)
right_of_two (family.Measure x) t served w e = absurd (cc)

pub right_of_one : (o : Operator) (t : Setting) → IsServedIn64 o t → has_one o ≡ true → IsRightOfOne o t (wide_operator_code o t)
right_of_one (family.Arithmetic x) t served e = absurd (cc)
right_of_one (family.Division x) t served e = absurd (cc)
right_of_one (family.Bitwise x) t served e = absurd (cc)
right_of_one (family.Shift x) t served e = absurd (cc)
right_of_one (family.Comparison x) t served e = absurd (cc)
right_of_one (family.Extreme x) t served e = absurd (cc)
right_of_one (family.Unary x) t served e = unary_right x t served.left_stored served.to_stored served.whole_bytes
right_of_one (family.Count x) t served e = count_right x t served.left_stored served.to_stored
right_of_one (family.Cast x) t served e = cast_right x t served.left_stored served.to_stored
right_of_one (family.Logic x) t served e = logic_right x t served.left_stored served.to_stored e
right_of_one (family.Measure x) t served e = absurd (cc)
