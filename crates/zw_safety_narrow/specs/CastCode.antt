-- The code of operators of one operand, on types of at most 32 bits.
use Rattle.std.specs.Prelude.{ℕ, pos, negsuc, ◌+◌, ◌-◌, ◌/◌, ◌^◌, Bool, true, false, nat_lt, nat_le, List, [], ◌∷◌, ◌++◌, if◌then◌else◌}
use Rattle.zw_num.specs.declared.int_ty.IntTy.{IntTy}
use Rattle.zw_num.specs.declared.int_ty.IntTy.TheVariants.{Sized, Comptime}
use Rattle.zw_safety_narrow.specs.Code.{if_panics}
use Rattle.zw_safety_narrow.specs.NarrowCode.{extension, in_range, moved, fitted}
use Rattle.zw_wasm.specs.declared.module.BinaryOperator.TheVariants.{Add, Mul, Xor}
use Rattle.zw_wasm.specs.declared.module.Comparison.TheVariants.{LtS, GtU}
use Rattle.zw_wasm.specs.declared.module.Conversion.TheVariants.{Wrap}
use Rattle.zw_wasm.specs.declared.module.Instr.{Instr}
use Rattle.zw_wasm.specs.declared.module.Instr.TheVariants.{LocalGet, LocalSet, LocalTee, I32Const, I64Const, Compare, Binary, Convert, Select}
use Rattle.zw_wasm.specs.declared.module.ValType.TheVariants.{I32, I64}

-- The operand, which stays: a panic with this cause where some code makes 1 of it.
abbrev pub tested : List Instr → ℕ → ℕ → List Instr
tested test cause scratch = LocalTee scratch ∷ (test ++ (if_panics cause ++ LocalGet scratch ∷ []))

-- an operand that isn't negative is at most this
abbrev pub above : ℕ → List Instr
above top = I32Const (pos top) ∷ Compare I32 GtU ∷ []

-- an operand lies outside of a signed type of so many bits
abbrev pub outside : ℕ → List Instr
outside bits = moved (pos (2 ^ bits / 2)) Add ++ above (2 ^ bits - 1)

abbrev pub negative : List Instr
negative = I32Const (pos 0) ∷ Compare I32 LtS ∷ []

-- A cast tests what the types don't tell: that the operand isn't negative, and that it isn't too great.
abbrev pub cast_code : IntTy → IntTy → ℕ → List Instr
cast_code (Sized true from) (Sized true to) scratch = if nat_le from to then [] else tested (outside to) 11 scratch
cast_code (Sized false from) (Sized true to) scratch = if nat_lt from to then [] else tested (above ((2 ^ to - 1) / 2)) 11 scratch
cast_code (Sized false from) (Sized false to) scratch = if nat_le from to then [] else tested (above (2 ^ to - 1)) 11 scratch
cast_code (Sized true from) (Sized false to) scratch =
    tested negative 12 scratch ++ (if nat_le from (to + 1) then [] else tested (above (2 ^ to - 1)) 11 scratch)
cast_code from to scratch = []

-- a type has all the values of another one
abbrev pub holds : IntTy → IntTy → Bool
holds (Sized true to) (Sized true from) = nat_le from to
holds (Sized true to) (Sized false from) = nat_lt from to
holds (Sized false to) (Sized false from) = nat_le from to
holds to from = false

-- the value of a type with the lowest bits of an operand of another one
abbrev pub truncated_code : IntTy → IntTy → List Instr
truncated_code from to = if holds to from then [] else fitted to

-- a number of 32 bits from the other side of 0
abbrev pub negated : List Instr
negated = I32Const (negsuc 0) ∷ Binary I32 Mul ∷ []

-- `-`: in 64 bits, in which the result is exact
abbrev pub opposite_code : IntTy → IntTy → ℕ → List Instr
opposite_code from to scratch =
    (Convert (extension from) ∷ I64Const (negsuc 0) ∷ Binary I64 Mul ∷ LocalSet (scratch + 4) ∷ LocalGet (scratch + 4) ∷ [])
    ++ (in_range to ++ (LocalGet (scratch + 4) ∷ Convert Wrap ∷ []))

-- `~`: all bits are turned
abbrev pub turned : List Instr
turned = I32Const (negsuc 0) ∷ Binary I32 Xor ∷ []

abbrev pub turned_code : IntTy → List Instr
turned_code to = turned ++ fitted to

-- `-%`
abbrev pub negated_code : IntTy → List Instr
negated_code to = negated ++ fitted to

-- how far a number is from 0
abbrev pub distance : ℕ → List Instr
distance scratch = LocalTee scratch ∷ (negated ++ (LocalGet scratch ∷ LocalGet scratch ∷ (negative ++ Select ∷ [])))

abbrev pub distance_code : IntTy → ℕ → List Instr
distance_code (Sized true bits) scratch = distance scratch
distance_code (Sized false bits) scratch = []
distance_code Comptime scratch = []
