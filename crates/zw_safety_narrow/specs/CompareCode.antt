-- The code of comparisons, and of the lesser and the greater of two numbers, on types of at most 32 bits.
use Rattle.std.specs.Prelude.{ℕ, ◌+◌, Bool, true, false, ◌&&◌, nat_lt, List, [], ◌∷◌, ◌++◌, if◌then◌else◌}
use Rattle.zw_num.specs.declared.int_ty.IntTy.{IntTy}
use Rattle.zw_num.specs.declared.int_ty.IntTy.TheVariants.{Sized, Comptime}
use Rattle.zw_safety_narrow.specs.NarrowCode.{extended}
use Rattle.zw_wasm.specs.declared.module.Comparison.{Comparison}
use Rattle.zw_wasm.specs.declared.module.Instr.{Instr}
use Rattle.zw_wasm.specs.declared.module.Instr.TheVariants.{LocalGet, LocalSet, LocalTee, Select, Compare}
use Rattle.zw_wasm.specs.declared.module.ValType.TheVariants.{I32, I64}

-- the values of a type are those of the i32 that they fill, read with its sign
abbrev pub fits_signed : IntTy → Bool
fits_signed (Sized true bits) = true
fits_signed (Sized false bits) = nat_lt bits 32
fits_signed Comptime = false

-- and read without one
abbrev pub is_unsigned : IntTy → Bool
is_unsigned (Sized true bits) = false
is_unsigned (Sized false bits) = true
is_unsigned Comptime = false

-- Both operands are compared in 32 bits where they can be read in one way there, and else in 64.
abbrev pub comparison_code : Comparison → Comparison → IntTy → IntTy → ℕ → List Instr
comparison_code signed unsigned left right scratch =
    if fits_signed left && fits_signed right then Compare I32 signed ∷ []
    else (if is_unsigned left && is_unsigned right then Compare I32 unsigned ∷ [] else extended left right scratch ++ Compare I64 signed ∷ [])

-- both operands into the first two of the eight locals, and both twice on the operands
abbrev pub doubled : ℕ → List Instr
doubled scratch = LocalSet scratch ∷ LocalTee (scratch + 1) ∷ LocalGet scratch ∷ LocalGet (scratch + 1) ∷ LocalGet scratch ∷ []

-- the left operand where it compares so with the right one, and else the right one
abbrev pub choice_code : Comparison → Comparison → IntTy → IntTy → ℕ → List Instr
choice_code signed unsigned left right scratch = doubled scratch ++ (comparison_code signed unsigned left right scratch ++ Select ∷ [])
