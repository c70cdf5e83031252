-- The code of operators on bits, of shifts, and of operators of one operand where a type has more than 32 bits: in 64 bits.
use Rattle.std.specs.Prelude.{ℕ, pos, negsuc, ◌+◌, ◌^◌, Bool, true, false, ◌&&◌, nat_lt, nat_le, List, [], ◌∷◌, ◌++◌, if◌then◌else◌}
use Rattle.zw_num.specs.Arithmetic.{width}
use Rattle.zw_num.specs.declared.int_ty.IntTy.{IntTy}
use Rattle.zw_num.specs.declared.int_ty.IntTy.TheVariants.{Sized, Comptime}
use Rattle.zw_num.specs.declared.operator.Bitwise.{Bitwise}
use Rattle.zw_num.specs.declared.operator.Bitwise.TheVariants as bitwise
use Rattle.zw_safety_narrow.specs.CastCode.{holds}
use Rattle.zw_safety_narrow.specs.Code.{if_panics}
use Rattle.zw_safety_narrow.specs.ShiftCode.{right_operator}
use Rattle.zw_safety_narrow.specs.declared.setting.Setting.{Setting}
use Rattle.zw_safety_words.specs.WideCode.{widened, settled, both_widened, spread, wide_fitted, difference_test, tested}
use Rattle.zw_wasm.specs.declared.module.BinaryOperator.{BinaryOperator}
use Rattle.zw_wasm.specs.declared.module.BinaryOperator.TheVariants.{Shl, And, Or, Xor}
use Rattle.zw_wasm.specs.declared.module.Comparison.TheVariants.{GeU}
use Rattle.zw_wasm.specs.declared.module.Instr.{Instr}
use Rattle.zw_wasm.specs.declared.module.Instr.TheVariants.{LocalGet, LocalSet, I64Const, IsZero, Compare, Binary}
use Rattle.zw_wasm.specs.declared.module.ValType.TheVariants.{I64}

-- an operator on the bits of both operands
abbrev pub wide_word_code : BinaryOperator → IntTy → IntTy → IntTy → ℕ → List Instr
wide_word_code operator left right to scratch = both_widened left right scratch ++ (Binary I64 operator ∷ settled to)

-- `&`, `|` and `^`
abbrev pub bitwise_by : Bitwise → BinaryOperator
bitwise_by bitwise.And = And
bitwise_by bitwise.Or = Or
bitwise_by bitwise.Xor = Xor

abbrev pub wide_code_of_bitwise : Bitwise → Setting → List Instr
wide_code_of_bitwise operator t = wide_word_code (bitwise_by operator) t.left t.right t.to t.scratch

-- ---- shifts

-- both operands in 64 bits, from their locals
abbrev pub both_got : ℕ → List Instr
both_got scratch = LocalGet (scratch + 5) ∷ LocalGet (scratch + 4) ∷ []

-- each value of an unsigned type is below this width
abbrev pub are_wide_amounts : IntTy → ℕ → Bool
are_wide_amounts (Sized true bits) width = false
are_wide_amounts (Sized false bits) width = nat_lt bits 7 && nat_le (2 ^ bits) width
are_wide_amounts Comptime width = false

-- a panic where the amount, which is in a local, isn't below the width
abbrev pub far_tested : ℕ → ℕ → List Instr
far_tested width scratch = LocalGet (scratch + 4) ∷ I64Const (pos width) ∷ Compare I64 GeU ∷ if_panics 9

-- both operands in 64 bits, the amount tested where its type doesn't tell
abbrev pub wide_amount : IntTy → IntTy → ℕ → ℕ → List Instr
wide_amount left right width scratch =
    if are_wide_amounts right width then both_widened left right scratch
    else spread left right scratch ++ (far_tested width scratch ++ both_got scratch)

-- `<<`
abbrev pub wide_left_code : IntTy → IntTy → IntTy → ℕ → List Instr
wide_left_code left right to scratch = wide_amount left right (width to) scratch ++ (Binary I64 Shl ∷ wide_fitted to)

-- `>>`
abbrev pub wide_right_code : IntTy → IntTy → IntTy → ℕ → List Instr
wide_right_code left right to scratch = wide_amount left right (width to) scratch ++ (Binary I64 (right_operator left) ∷ settled to)

-- ---- operators of one operand

-- an operator with -1 as its right operand: `~` turns all bits, and `-%` goes to the other side of 0
abbrev pub wide_minus_one : BinaryOperator → IntTy → IntTy → List Instr
wide_minus_one operator from to = widened from ++ (I64Const (negsuc 0) ∷ Binary I64 operator ∷ wide_fitted to)

-- the same number
abbrev pub wide_same_code : IntTy → IntTy → List Instr
wide_same_code from to = widened from ++ settled to

-- the value of a type with the lowest bits of an operand of another one
abbrev pub wide_truncated_code : IntTy → IntTy → List Instr
wide_truncated_code from to = widened from ++ (if holds to from then settled to else wide_fitted to)

-- `-`: the difference of 0 and the operand
abbrev pub zero_spread : IntTy → ℕ → List Instr
zero_spread from scratch = widened from ++ (LocalSet (scratch + 4) ∷ I64Const (pos 0) ∷ LocalSet (scratch + 5) ∷ [])

abbrev pub wide_opposite_code : IntTy → IntTy → ℕ → List Instr
wide_opposite_code from to scratch = zero_spread from scratch ++ (difference_test from from to scratch ++ tested to scratch)

-- ---- the divisor of quotients and rests

-- a panic where the right operand, which is in a local, is 0
abbrev pub zero_tested : ℕ → List Instr
zero_tested scratch = LocalGet (scratch + 4) ∷ IsZero I64 ∷ if_panics 7
