-- The code of exact shifts, and of the shift that stops at the bounds of its type, where a type has more than 32 bits. Where a
-- shift goes to the left, the result's type has all values of the left operand's.
use Rattle.std.specs.Prelude.{ℕ, pos, ◌+◌, nat_lt, List, [], ◌∷◌, ◌++◌, if◌then◌else◌}
use Rattle.zw_num.specs.Arithmetic.{width}
use Rattle.zw_num.specs.declared.int_ty.IntTy.{IntTy}
use Rattle.zw_safety_narrow.specs.Code.{if_panics}
use Rattle.zw_safety_narrow.specs.CompareCode.{is_unsigned}
use Rattle.zw_safety_narrow.specs.ShiftCode.{right_operator}
use Rattle.zw_safety_wide.specs.WideSaturatingCode.{bound}
use Rattle.zw_safety_wide.specs.WideSignedCode.{shared}
use Rattle.zw_safety_words.specs.WideBitCode.{are_wide_amounts, far_tested}
use Rattle.zw_safety_words.specs.WideCode.{settled, spread, narrowed_long}
use Rattle.zw_wasm.specs.declared.module.BinaryOperator.{BinaryOperator}
use Rattle.zw_wasm.specs.declared.module.BinaryOperator.TheVariants.{And, Or, Shl}
use Rattle.zw_wasm.specs.declared.module.Comparison.TheVariants.{Ne, GeU}
use Rattle.zw_wasm.specs.declared.module.Instr.{Instr}
use Rattle.zw_wasm.specs.declared.module.Instr.TheVariants.{LocalGet, LocalSet, LocalTee, I64Const, Compare, Binary, Select}
use Rattle.zw_wasm.specs.declared.module.ValType.TheVariants.{I32, I64}

-- a panic where the amount, which is in a local, isn't below the width, if its type doesn't tell
abbrev pub amount_tested : IntTy → ℕ → ℕ → List Instr
amount_tested right width scratch = if are_wide_amounts right width then [] else far_tested width scratch

-- the value of a type with the lowest bits of a number, in 64 bits
abbrev pub long_fitted : IntTy → List Instr
long_fitted to = if nat_lt (width to) 64 then narrowed_long to else []

-- the left operand's bits moved to the left, as a value of the type in 64 bits
abbrev pub moved_left : IntTy → ℕ → List Instr
moved_left to scratch = shared Shl scratch ++ long_fitted to

-- whether a number that is shifted back isn't the left operand
abbrev pub unlike : BinaryOperator → ℕ → List Instr
unlike operator scratch = LocalGet (scratch + 4) ∷ Binary I64 operator ∷ LocalGet (scratch + 5) ∷ Compare I64 Ne ∷ []

-- a panic where the number, which is kept in a local, is another one where it is shifted back
abbrev pub lost_tested : BinaryOperator → ℕ → List Instr
lost_tested operator scratch = (LocalTee (scratch + 6) ∷ unlike operator scratch) ++ if_panics 10

-- the number in the local, as a value of the result
abbrev pub low_settled : IntTy → ℕ → List Instr
low_settled to scratch = LocalGet (scratch + 6) ∷ settled to

-- `@shlExact`
abbrev pub wide_left_exact_code : IntTy → IntTy → IntTy → ℕ → List Instr
wide_left_exact_code left right to scratch =
    spread left right scratch
    ++ (amount_tested right (width to) scratch
    ++ (moved_left to scratch ++ (lost_tested (right_operator to) scratch ++ low_settled to scratch)))

-- `@shrExact`
abbrev pub wide_right_exact_code : IntTy → IntTy → IntTy → ℕ → List Instr
wide_right_exact_code left right to scratch =
    spread left right scratch
    ++ (amount_tested right (width to) scratch
    ++ (shared (right_operator left) scratch ++ (lost_tested Shl scratch ++ low_settled to scratch)))

-- besides, whether the amount isn't below the width and the left operand isn't 0, if the amount's type doesn't tell
abbrev pub far_besides : IntTy → ℕ → ℕ → List Instr
far_besides right width scratch =
    if are_wide_amounts right width then []
    else LocalGet (scratch + 4) ∷ I64Const (pos width) ∷ Compare I64 GeU ∷ LocalGet (scratch + 5) ∷ I64Const (pos 0) ∷ Compare I64 Ne ∷
    Binary I32 And ∷ Binary I32 Or ∷ []

-- `<<|`: the number moved to the left, or where it is another one when it is shifted back, the bound
abbrev pub wide_left_sat_code : IntTy → IntTy → IntTy → ℕ → List Instr
wide_left_sat_code left right to scratch =
    spread left right scratch
    ++ ((moved_left to scratch ++ LocalSet (scratch + 6) ∷ [])
    ++ (bound (is_unsigned left) to (scratch + 5)
    ++ ((LocalGet (scratch + 6) ∷ LocalGet (scratch + 6) ∷ unlike (right_operator to) scratch)
    ++ (far_besides right (width to) scratch ++ (Select ∷ settled to)))))
