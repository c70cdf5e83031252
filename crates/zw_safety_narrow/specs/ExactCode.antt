-- The code of exact divisions and shifts, which leave nothing and lose nothing, on types of at most 32 bits.
use Rattle.std.specs.Prelude.{ℕ, ◌+◌, ◌&&◌, List, [], ◌∷◌, ◌++◌, if◌then◌else◌}
use Rattle.zw_num.specs.Arithmetic.{width}
use Rattle.zw_num.specs.declared.int_ty.IntTy.{IntTy}
use Rattle.zw_safety_narrow.specs.CastCode.{holds}
use Rattle.zw_safety_narrow.specs.Code.{if_panics}
use Rattle.zw_safety_narrow.specs.CompareCode.{doubled}
use Rattle.zw_safety_narrow.specs.DivisionCode.{divisor_tested, are_unsigned}
use Rattle.zw_safety_narrow.specs.FloorCode.{both_kept}
use Rattle.zw_safety_narrow.specs.NarrowCode.{exact_code_or, in_range}
use Rattle.zw_safety_narrow.specs.ShiftCode.{amount_tested, right_operator}
use Rattle.zw_wasm.specs.declared.module.BinaryOperator.{BinaryOperator}
use Rattle.zw_wasm.specs.declared.module.BinaryOperator.TheVariants.{DivS, DivU, RemS, RemU, Shl}
use Rattle.zw_wasm.specs.declared.module.Comparison.TheVariants.{Ne}
use Rattle.zw_wasm.specs.declared.module.Conversion.TheVariants.{Wrap}
use Rattle.zw_wasm.specs.declared.module.Instr.{Instr}
use Rattle.zw_wasm.specs.declared.module.Instr.TheVariants.{LocalGet, LocalTee, Compare, Binary, Convert}
use Rattle.zw_wasm.specs.declared.module.ValType.TheVariants.{I32, I64}

-- ---- `@divExact`

-- The quotient of unsigned numbers is at most the left one: a panic where a rest is left, and then the quotient.
abbrev pub exact_short : ℕ → List Instr
exact_short scratch = doubled scratch ++ (Binary I32 RemU ∷ (if_panics 8 ++ Binary I32 DivU ∷ []))

-- the quotient in 64 bits, on the operands and in a local
abbrev pub kept_quotient : ℕ → List Instr
kept_quotient scratch = Binary I64 DivS ∷ LocalTee (scratch + 6) ∷ []

-- a panic where the left operand leaves a rest by the right one, which is in a local
abbrev pub no_rest : ℕ → List Instr
no_rest scratch = LocalGet (scratch + 4) ∷ Binary I64 RemS ∷ Convert Wrap ∷ if_panics 8

-- that quotient in 32 bits
abbrev pub quotient_word : ℕ → List Instr
quotient_word scratch = LocalGet (scratch + 6) ∷ Convert Wrap ∷ []

-- in 64 bits an overflow comes before a rest
abbrev pub exact_long : IntTy → IntTy → IntTy → ℕ → List Instr
exact_long left right to scratch =
    both_kept left right scratch ++ (kept_quotient scratch ++ (in_range to ++ (no_rest scratch ++ quotient_word scratch)))

abbrev pub exact_quotient_code : IntTy → IntTy → IntTy → ℕ → List Instr
exact_quotient_code left right to scratch =
    divisor_tested scratch ++ (if are_unsigned left right && holds to left then exact_short scratch else exact_long left right to scratch)

-- ---- `@shlExact` and `@shrExact`

-- in 64 bits, in which no bits are lost, by amounts below 32
abbrev pub left_exact_code : IntTy → IntTy → IntTy → ℕ → List Instr
left_exact_code left right to scratch = amount_tested (width to) right scratch ++ exact_code_or 10 Shl left right to scratch

-- Both operands, which are in the first two locals: a panic where a shift to the right and back gives another number.
abbrev pub none_dropped_code : BinaryOperator → ℕ → List Instr
none_dropped_code operator scratch =
    Binary I32 operator ∷ LocalGet scratch ∷ Binary I32 Shl ∷ LocalGet (scratch + 1) ∷ Compare I32 Ne ∷ if_panics 10

abbrev pub right_exact_code : IntTy → IntTy → IntTy → ℕ → List Instr
right_exact_code left right to scratch =
    amount_tested (width to) right scratch ++ (doubled scratch ++ (none_dropped_code (right_operator left) scratch ++ (Binary I32 (right_operator left) ∷ [])))
