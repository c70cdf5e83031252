-- The code of operators on types of at most 32 bits.
use Rattle.std.specs.Prelude.{ℕ, ℤ, pos, ◌+◌, ◌-◌, ◌/◌, ◌^◌, Bool, true, false, ◌&&◌, nat_eq, nat_lt, List, [], ◌∷◌, ◌++◌, if◌then◌else◌}
use Rattle.zw_num.specs.Arithmetic.{width}
use Rattle.zw_num.specs.declared.int_ty.IntTy.{IntTy}
use Rattle.zw_num.specs.declared.int_ty.IntTy.TheVariants.{Sized, Comptime}
use Rattle.zw_safety_narrow.specs.Code.{add_code, sub_code, if_panics}
use Rattle.zw_session.specs.Causes.{integer_overflow}
use Rattle.zw_wasm.specs.declared.module.BinaryOperator.{BinaryOperator}
use Rattle.zw_wasm.specs.declared.module.BinaryOperator.TheVariants.{Add, Sub, And}
use Rattle.zw_wasm.specs.declared.module.Comparison.TheVariants.{GtU}
use Rattle.zw_wasm.specs.declared.module.Conversion.{Conversion}
use Rattle.zw_wasm.specs.declared.module.Conversion.TheVariants.{Wrap, ExtendS, ExtendU}
use Rattle.zw_wasm.specs.declared.module.Instr.{Instr}
use Rattle.zw_wasm.specs.declared.module.Instr.TheVariants.{LocalGet, LocalSet, I32Const, I64Const, Compare, Binary, Convert}
use Rattle.zw_wasm.specs.declared.module.ValType.TheVariants.{I32, I64}

-- a number of 32 bits with its value in 64
abbrev pub extension : IntTy → Conversion
extension (Sized true bits) = ExtendS
extension (Sized false bits) = ExtendU
extension Comptime = ExtendU

-- how far a number of 64 bits lies above the least value of a type
abbrev pub above_least : IntTy → List Instr
above_least (Sized true bits) = I64Const (pos (2 ^ bits / 2)) ∷ Binary I64 Add ∷ []
above_least (Sized false bits) = []
above_least Comptime = []

-- the first operand in 64 bits below the second
abbrev pub extended : IntTy → IntTy → ℕ → List Instr
extended left right scratch =
    Convert (extension right) ∷ LocalSet (scratch + 4) ∷ Convert (extension left) ∷ LocalGet (scratch + 4) ∷ []

-- a number of 64 bits that isn't a value of the type panics with this cause
abbrev pub in_range_or : ℕ → IntTy → List Instr
in_range_or cause to = above_least to ++ I64Const (pos (2 ^ width to - 1)) ∷ Compare I64 GtU ∷ if_panics cause

abbrev pub in_range : IntTy → List Instr
in_range to = in_range_or integer_overflow to

-- the result in 64 bits, in which it is exact; one that isn't a value of the type panics with this cause
abbrev pub exact_code_or : ℕ → BinaryOperator → IntTy → IntTy → IntTy → ℕ → List Instr
exact_code_or cause operator left right to scratch =
    extended left right scratch
    ++ (Binary I64 operator ∷ LocalSet (scratch + 4) ∷ LocalGet (scratch + 4) ∷ [])
    ++ in_range_or cause to
    ++ (LocalGet (scratch + 4) ∷ Convert Wrap ∷ [])

abbrev pub exact_code : BinaryOperator → IntTy → IntTy → IntTy → ℕ → List Instr
exact_code operator left right to scratch = exact_code_or integer_overflow operator left right to scratch

-- the bits of a number that a mask has
abbrev pub masked : ℤ → List Instr
masked mask = I32Const mask ∷ Binary I32 And ∷ []

-- so far up, or so far down
abbrev pub moved : ℤ → BinaryOperator → List Instr
moved half operator = I32Const half ∷ Binary I32 operator ∷ []

-- the same from another number on
abbrev pub lifted : ℤ → ℤ → List Instr
lifted half mask = moved half Add ++ masked mask ++ moved half Sub

-- The value of a type with the lowest bits of a number. Of a signed type the least value is taken away before and put back.
abbrev pub narrowed : IntTy → List Instr
narrowed (Sized true bits) = lifted (pos (2 ^ bits / 2)) (pos (2 ^ bits - 1))
narrowed (Sized false bits) = masked (pos (2 ^ bits - 1))
narrowed Comptime = []

-- the same, where a number of 32 bits isn't a value of the type as it stands
abbrev pub fitted : IntTy → List Instr
fitted to = if nat_lt (width to) 32 then narrowed to else []

abbrev pub wrapped_code : BinaryOperator → IntTy → List Instr
wrapped_code operator to = Binary I32 operator ∷ fitted to

-- all three types are `u32`, where the result is tested in 32 bits
abbrev pub is_u32 : IntTy → Bool
is_u32 (Sized false bits) = nat_eq bits 32
is_u32 (Sized true bits) = false
is_u32 Comptime = false

abbrev pub are_u32 : IntTy → IntTy → IntTy → Bool
are_u32 left right to = is_u32 left && (is_u32 right && is_u32 to)

abbrev pub sum_code : IntTy → IntTy → IntTy → ℕ → List Instr
sum_code left right to scratch = if are_u32 left right to then add_code scratch else exact_code Add left right to scratch

abbrev pub difference_code : IntTy → IntTy → IntTy → ℕ → List Instr
difference_code left right to scratch = if are_u32 left right to then sub_code scratch else exact_code Sub left right to scratch
