-- The code of shifts, on types of at most 32 bits.
use Rattle.std.specs.Prelude.{ℕ, pos, ◌^◌, Bool, true, false, ◌&&◌, nat_lt, nat_le, List, [], ◌∷◌, ◌++◌, if◌then◌else◌}
use Rattle.zw_num.specs.Arithmetic.{width}
use Rattle.zw_num.specs.declared.int_ty.IntTy.{IntTy}
use Rattle.zw_num.specs.declared.int_ty.IntTy.TheVariants.{Sized, Comptime}
use Rattle.zw_safety_narrow.specs.CastCode.{tested}
use Rattle.zw_safety_narrow.specs.NarrowCode.{fitted}
use Rattle.zw_wasm.specs.declared.module.BinaryOperator.{BinaryOperator}
use Rattle.zw_wasm.specs.declared.module.BinaryOperator.TheVariants.{Shl, ShrS, ShrU}
use Rattle.zw_wasm.specs.declared.module.Comparison.TheVariants.{GeU}
use Rattle.zw_wasm.specs.declared.module.Instr.{Instr}
use Rattle.zw_wasm.specs.declared.module.Instr.TheVariants.{I32Const, Compare, Binary}
use Rattle.zw_wasm.specs.declared.module.ValType.TheVariants.{I32}

-- each value of an unsigned type is below this width
abbrev pub are_amounts : IntTy → ℕ → Bool
are_amounts (Sized true bits) width = false
are_amounts (Sized false bits) width = nat_lt bits 6 && nat_le (2 ^ bits) width
are_amounts Comptime width = false

-- an operand, from 0 on, isn't below the width
abbrev pub too_far : ℕ → List Instr
too_far width = I32Const (pos width) ∷ Compare I32 GeU ∷ []

-- the amount, which stays: a panic where it isn't below the width
abbrev pub amount_tested : ℕ → IntTy → ℕ → List Instr
amount_tested width right scratch = if are_amounts right width then [] else tested (too_far width) 9 scratch

-- `<<`
abbrev pub left_code : IntTy → IntTy → ℕ → List Instr
left_code right to scratch = amount_tested (width to) right scratch ++ (Binary I32 Shl ∷ fitted to)

-- the sign moves in, or zeros do
abbrev pub right_operator : IntTy → BinaryOperator
right_operator (Sized true bits) = ShrS
right_operator (Sized false bits) = ShrU
right_operator Comptime = ShrU

-- `>>`
abbrev pub right_code : IntTy → IntTy → IntTy → ℕ → List Instr
right_code left right to scratch = amount_tested (width to) right scratch ++ (Binary I32 (right_operator left) ∷ [])
