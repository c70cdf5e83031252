-- The code of sums, differences and products that stop at the bounds of their type, on types of at most 32 bits.
use Rattle.std.specs.Prelude.{ℕ, ℤ, ◌+◌, nat_lt, List, [], ◌∷◌, ◌++◌, if◌then◌else◌}
use Rattle.zw_num.specs.Arithmetic.{least, greatest, width}
use Rattle.zw_num.specs.declared.int_ty.IntTy.{IntTy}
use Rattle.zw_safety_narrow.specs.CompareCode.{is_unsigned}
use Rattle.zw_safety_narrow.specs.CountCode.{at_most}
use Rattle.zw_safety_narrow.specs.DivisionCode.{are_unsigned}
use Rattle.zw_safety_narrow.specs.NarrowCode.{extended}
use Rattle.zw_wasm.specs.declared.module.BinaryOperator.{BinaryOperator}
use Rattle.zw_wasm.specs.declared.module.BinaryOperator.TheVariants.{Mul, Shl}
use Rattle.zw_wasm.specs.declared.module.Comparison.{Comparison}
use Rattle.zw_wasm.specs.declared.module.Comparison.TheVariants.{LtS, LtU, GtS}
use Rattle.zw_wasm.specs.declared.module.Conversion.TheVariants.{Wrap}
use Rattle.zw_wasm.specs.declared.module.Instr.{Instr}
use Rattle.zw_wasm.specs.declared.module.Instr.TheVariants.{LocalGet, LocalTee, I64Const, Compare, Binary, Convert, Select}
use Rattle.zw_wasm.specs.declared.module.ValType.TheVariants.{I64}

-- a number of 64 bits where it compares so with a bound, and else the bound
abbrev pub bounded : Comparison → ℤ → ℕ → List Instr
bounded comparison bound scratch =
    LocalTee (scratch + 4) ∷ I64Const bound ∷ LocalGet (scratch + 4) ∷ I64Const bound ∷ Compare I64 comparison ∷ Select ∷ []

-- the exact result in 64 bits, and then the nearest value of the type
abbrev pub saturated_code : BinaryOperator → IntTy → IntTy → IntTy → ℕ → List Instr
saturated_code operator left right to scratch =
    extended left right scratch
    ++ (Binary I64 operator ∷ (bounded LtS (greatest to) scratch ++ (bounded GtS (least to) scratch ++ Convert Wrap ∷ [])))

-- A result that isn't negative may need all 64 bits. It isn't below the type.
abbrev pub natural_code : BinaryOperator → IntTy → IntTy → IntTy → ℕ → List Instr
natural_code operator left right to scratch =
    extended left right scratch ++ (Binary I64 operator ∷ (bounded LtU (greatest to) scratch ++ Convert Wrap ∷ []))

abbrev pub natural_product_code : IntTy → IntTy → IntTy → ℕ → List Instr
natural_product_code left right to scratch = natural_code Mul left right to scratch

abbrev pub saturated_product_code : IntTy → IntTy → IntTy → ℕ → List Instr
saturated_product_code left right to scratch =
    if are_unsigned left right then natural_product_code left right to scratch else saturated_code Mul left right to scratch

-- An amount, from 0 on: past 32 each number but 0 lies past the bounds, as it does at 32.
abbrev pub bounded_amount : IntTy → ℕ → List Instr
bounded_amount right scratch = if nat_lt (width right) 6 then [] else at_most 32 scratch

-- `<<|`
abbrev pub saturated_left_code : IntTy → IntTy → IntTy → ℕ → List Instr
saturated_left_code left right to scratch =
    bounded_amount right scratch
    ++ (if is_unsigned left then natural_code Shl left right to scratch else saturated_code Shl left right to scratch)
