-- The code of quotients that are rounded down, and of what they leave, on types of at most 32 bits.
use Rattle.std.specs.Prelude.{ℕ, ◌+◌, ◌&&◌, List, [], ◌∷◌, ◌++◌, if◌then◌else◌}
use Rattle.zw_num.specs.declared.int_ty.IntTy.{IntTy}
use Rattle.zw_safety_narrow.specs.CastCode.{holds}
use Rattle.zw_safety_narrow.specs.DivisionCode.{divisor_tested, are_unsigned}
use Rattle.zw_safety_narrow.specs.NarrowCode.{extension, extended, in_range}
use Rattle.zw_wasm.specs.declared.module.BinaryOperator.TheVariants.{Add, Sub, DivS, DivU, RemS}
use Rattle.zw_wasm.specs.declared.module.Conversion.TheVariants.{Wrap}
use Rattle.zw_wasm.specs.declared.module.Instr.{Instr}
use Rattle.zw_wasm.specs.declared.module.Instr.TheVariants.{LocalGet, LocalSet, LocalTee, Binary, Convert}
use Rattle.zw_wasm.specs.declared.module.ValType.TheVariants.{I32, I64}

-- What a quotient by the number in a local leaves, rounded toward zero and then down: the local's number more, and what that
-- leaves again.
abbrev pub floored_rest : ℕ → List Instr
floored_rest local = Binary I64 RemS ∷ LocalGet local ∷ Binary I64 Add ∷ LocalGet local ∷ Binary I64 RemS ∷ []

-- `@mod`
abbrev pub modulo_code : IntTy → IntTy → ℕ → List Instr
modulo_code left right scratch =
    divisor_tested scratch ++ (extended left right scratch ++ (floored_rest (scratch + 4) ++ Convert Wrap ∷ []))

-- both operands in 64 bits: the right one in a local and on top, the left one in the next local and twice below
abbrev pub both_kept : IntTy → IntTy → ℕ → List Instr
both_kept left right scratch =
    Convert (extension right) ∷ LocalSet (scratch + 4) ∷ Convert (extension left) ∷ LocalTee (scratch + 5) ∷ LocalGet (scratch + 5) ∷
    LocalGet (scratch + 4) ∷ []

-- the quotient of the number without its rest, into the local
abbrev pub whole_quotient : ℕ → List Instr
whole_quotient local = Binary I64 Sub ∷ LocalGet local ∷ Binary I64 DivS ∷ LocalSet local ∷ LocalGet local ∷ []

abbrev pub floor_long : IntTy → IntTy → IntTy → ℕ → List Instr
floor_long left right to scratch =
    both_kept left right scratch
    ++ (floored_rest (scratch + 4) ++ (whole_quotient (scratch + 4) ++ (in_range to ++ LocalGet (scratch + 4) ∷ Convert Wrap ∷ [])))

-- `@divFloor`
abbrev pub floor_code : IntTy → IntTy → IntTy → ℕ → List Instr
floor_code left right to scratch =
    divisor_tested scratch ++ (if are_unsigned left right && holds to left then Binary I32 DivU ∷ [] else floor_long left right to scratch)
