-- Which operators have code on which types, and the code of each on types of any width. An operator of one operand has that of the
-- setting's left type. What the code owes stands in `zw_safety_narrow`.
use Rattle.std.specs.Prelude.{◌≡◌, ◌⊎◌, ℕ, ◌%◌, nat_eq, nat_le, Bool, true, false, not, ◌&&◌, ◌||◌, List, if◌then◌else◌}
use Rattle.zw_num.specs.Arithmetic.{width}
use Rattle.zw_num.specs.declared.int_ty.IntTy.{IntTy}
use Rattle.zw_num.specs.declared.int_ty.IntTy.TheVariants.{Sized, Comptime}
use Rattle.zw_num.specs.declared.operator.Shift.TheVariants as shift_op
use Rattle.zw_num.specs.declared.operator.Operator.{Operator}
use Rattle.zw_num.specs.declared.operator.Operator.TheVariants as family
use Rattle.zw_safety_narrow.specs.CastCode.{holds}
use Rattle.zw_safety_narrow.specs.CompareCode.{is_unsigned}
use Rattle.zw_safety_narrow.specs.Families.{narrow_code}
use Rattle.zw_safety_narrow.specs.Operators.{IsStored, IsServedIn32, fill_words, has_two, has_one, has_code, is_saturated_shift, is_byte_swap}
use Rattle.zw_safety_narrow.specs.declared.setting.Setting.{Setting}
use Rattle.zw_safety_wide.specs.WideFamilies.{wide_operator_code}
use Rattle.zw_safety_wide.specs.WideSignedCode.{are_wide_shares}
use Rattle.zw_wasm.specs.declared.module.Instr.{Instr}

-- ---- operators that ask more of their types where one has more than 32 bits

-- quotients and rests
abbrev pub is_share : Operator → Bool
is_share (family.Division x) = true
is_share operator = false

-- shifts to the left that lose no bits
abbrev pub is_kept_shift : Operator → Bool
is_kept_shift (family.Shift shift_op.ShlExact) = true
is_kept_shift (family.Shift shift_op.ShlSat) = true
is_kept_shift operator = false

-- ---- which operators are served

-- On types of at most 64 bits: quotients and rests of unsigned numbers, or of values of an i64 with a signed result; these, and shifts to
-- the left that lose no bits, where the result's type has all values of the left one's.
pub record IsServedIn64 (operator : Operator) (t : Setting) : Type 0 where
  pub coded : has_code operator ≡ true
  pub left_stored : IsStored t.left
  pub right_stored : has_two operator ≡ true → IsStored t.right
  pub to_stored : IsStored t.to
  pub shares : is_share operator ≡ true → are_wide_shares t.left t.right t.to ≡ true
  pub kept : is_kept_shift operator ≡ true → holds t.to t.left ≡ true
  pub right_unsigned : is_saturated_shift operator ≡ true → is_unsigned t.right ≡ true
  pub whole_bytes : is_byte_swap operator ≡ true → width t.left % 8 ≡ 0

abbrev pub IsServed : Operator → Setting → Type 0
IsServed operator t = IsServedIn32 operator t ⊎ IsServedIn64 operator t

-- ---- the same as a test

-- a sized type has at most so many bits
abbrev pub has_at_most : ℕ → IntTy → Bool
has_at_most most (Sized signed bits) = nat_le bits most
has_at_most most Comptime = false

-- operands and result have at most so many bits; of the right operand only where the operator has one
abbrev pub fit_in : ℕ → Operator → Setting → Bool
fit_in most operator t = has_at_most most t.left && ((not (has_two operator) || has_at_most most t.right) && has_at_most most t.to)

abbrev pub amount_fits : Operator → IntTy → Bool
amount_fits operator right = not (is_saturated_shift operator) || is_unsigned right

abbrev pub bytes_fit : Operator → IntTy → Bool
bytes_fit operator left = not (is_byte_swap operator) || nat_eq (width left % 8) 0

-- what an operator asks of its types besides, where one has more than 32 bits
abbrev pub types_fit : Operator → Setting → Bool
types_fit operator t =
    (not (is_share operator) || are_wide_shares t.left t.right t.to) && ((not (is_kept_shift operator) || holds t.to t.left) && amount_fits operator t.right)

abbrev pub serves_in_32 : Operator → Setting → Bool
serves_in_32 operator t = has_code operator && (fit_in 32 operator t && (amount_fits operator t.right && bytes_fit operator t.left))

abbrev pub serves_in_64 : Operator → Setting → Bool
serves_in_64 operator t = has_code operator && (fit_in 64 operator t && (types_fit operator t && bytes_fit operator t.left))

abbrev pub is_served : Operator → Setting → Bool
is_served operator t = serves_in_32 operator t || serves_in_64 operator t

-- ---- the code

-- the type of the last operand
abbrev pub last_type : Operator → Setting → IntTy
last_type operator t = if has_one operator then t.left else t.right

-- whether an i64 is among operands and result
abbrev pub goes_wide : Operator → Setting → Bool
goes_wide operator t = has_code operator && not (fill_words t.left (last_type operator t) t.to)

-- the code of an operator on types of any width
abbrev pub stored_code : Operator → Setting → List Instr
stored_code operator t = if goes_wide operator t then wide_operator_code operator t else narrow_code operator t
