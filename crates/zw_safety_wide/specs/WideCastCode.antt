-- The code of casts, of how far a number is from 0, and of counts of bits where a type has more than 32 bits.
use Rattle.std.specs.Prelude.{ℕ, pos, negsuc, ◌+◌, ◌-◌, ◌/◌, ◌^◌, true, false, nat_lt, nat_le, List, [], ◌∷◌, ◌++◌, if◌then◌else◌}
use Rattle.zw_num.specs.Arithmetic.{width}
use Rattle.zw_num.specs.declared.int_ty.IntTy.{IntTy}
use Rattle.zw_num.specs.declared.int_ty.IntTy.TheVariants.{Sized, Comptime}
use Rattle.zw_num.specs.declared.operator.Count.{Count}
use Rattle.zw_num.specs.declared.operator.Count.TheVariants as count
use Rattle.zw_safety_narrow.specs.Code.{if_panics}
use Rattle.zw_safety_narrow.specs.declared.setting.Setting.{Setting}
use Rattle.zw_safety_words.specs.WideCode.{widened, settled}
use Rattle.zw_wasm.specs.declared.module.BinaryOperator.TheVariants.{Add, Sub, Mul, And}
use Rattle.zw_wasm.specs.declared.module.Comparison.TheVariants.{LtS, LtU, GtU}
use Rattle.zw_wasm.specs.declared.module.Instr.{Instr}
use Rattle.zw_wasm.specs.declared.module.Instr.TheVariants.{LocalGet, LocalTee, I64Const, Compare, Binary, Unary, Select}
use Rattle.zw_wasm.specs.declared.module.UnaryOperator.TheVariants.{Clz, Ctz, Popcnt}
use Rattle.zw_wasm.specs.declared.module.ValType.TheVariants.{I64}

-- ---- casts

-- A number of 64 bits, which stays: a panic with this cause where some code makes 1 of it.
abbrev pub long_tested : List Instr → ℕ → ℕ → List Instr
long_tested test cause scratch = LocalTee (scratch + 4) ∷ (test ++ (if_panics cause ++ LocalGet (scratch + 4) ∷ []))

-- a number that isn't negative is more than this
abbrev pub long_above : ℕ → List Instr
long_above top = I64Const (pos top) ∷ Compare I64 GtU ∷ []

-- a number lies outside of a signed type of so many bits
abbrev pub long_outside : ℕ → List Instr
long_outside bits = I64Const (pos (2 ^ bits / 2)) ∷ Binary I64 Add ∷ long_above (2 ^ bits - 1)

abbrev pub long_negative : List Instr
long_negative = I64Const (pos 0) ∷ Compare I64 LtS ∷ []

-- A cast tests what the types don't tell: that the number isn't negative, and that it isn't too great.
abbrev pub long_cast : IntTy → IntTy → ℕ → List Instr
long_cast (Sized true from) (Sized true to) scratch = if nat_le from to then [] else long_tested (long_outside to) 11 scratch
long_cast (Sized false from) (Sized true to) scratch = if nat_lt from to then [] else long_tested (long_above ((2 ^ to - 1) / 2)) 11 scratch
long_cast (Sized false from) (Sized false to) scratch = if nat_le from to then [] else long_tested (long_above (2 ^ to - 1)) 11 scratch
long_cast (Sized true from) (Sized false to) scratch =
    long_tested long_negative 12 scratch ++ (if nat_le from (to + 1) then [] else long_tested (long_above (2 ^ to - 1)) 11 scratch)
long_cast from to scratch = []

-- `@intCast`
abbrev pub wide_cast_code : IntTy → IntTy → ℕ → List Instr
wide_cast_code from to scratch = widened from ++ (long_cast from to scratch ++ settled to)

-- ---- `@abs`

abbrev pub long_distance : IntTy → ℕ → List Instr
long_distance (Sized true bits) scratch =
    LocalTee (scratch + 4) ∷ I64Const (negsuc 0) ∷ Binary I64 Mul ∷ LocalGet (scratch + 4) ∷ LocalGet (scratch + 4) ∷ I64Const (pos 0) ∷ Compare I64 LtS ∷ Select ∷ []
long_distance (Sized false bits) scratch = []
long_distance Comptime scratch = []

abbrev pub wide_distance_code : IntTy → IntTy → ℕ → List Instr
wide_distance_code from to scratch = widened from ++ (long_distance from scratch ++ settled to)

-- ---- counts

-- the bits of the type alone, without the copies of the sign above them
abbrev pub own_long : IntTy → List Instr
own_long (Sized true bits) = if nat_lt bits 64 then I64Const (pos (2 ^ bits - 1)) ∷ Binary I64 And ∷ [] else []
own_long (Sized false bits) = []
own_long Comptime = []

-- the zeros above the type's bits don't count
abbrev pub less_zeros : IntTy → List Instr
less_zeros from = if nat_lt (width from) 64 then I64Const (pos (64 - width from)) ∷ Binary I64 Sub ∷ [] else []

-- at most as many as the type has bits
abbrev pub long_at_most : IntTy → ℕ → List Instr
long_at_most from scratch =
    if nat_lt (width from) 64
    then LocalTee (scratch + 4) ∷ I64Const (pos (width from)) ∷ LocalGet (scratch + 4) ∷ I64Const (pos (width from)) ∷ Compare I64 LtU ∷ Select ∷ []
    else []

-- a count of 64 bits, and what makes it that of the type's bits
abbrev pub counted_in : Count → IntTy → ℕ → List Instr
counted_in count.PopCount from scratch = Unary I64 Popcnt ∷ []
counted_in count.Clz from scratch = Unary I64 Clz ∷ less_zeros from
counted_in count.Ctz from scratch = Unary I64 Ctz ∷ long_at_most from scratch

abbrev pub wide_count_code : Count → IntTy → IntTy → ℕ → List Instr
wide_count_code operator from to scratch = widened from ++ ((own_long from ++ counted_in operator from scratch) ++ settled to)

abbrev pub wide_code_of_count : Count → Setting → List Instr
wide_code_of_count operator t = wide_count_code operator t.left t.to t.scratch

-- `@popCount`, `@clz` and `@ctz` one by one
abbrev pub wide_ones_code : IntTy → IntTy → List Instr
wide_ones_code from to = widened from ++ ((own_long from ++ Unary I64 Popcnt ∷ []) ++ settled to)

abbrev pub wide_leading_code : IntTy → IntTy → List Instr
wide_leading_code from to = widened from ++ ((own_long from ++ (Unary I64 Clz ∷ less_zeros from)) ++ settled to)

abbrev pub wide_trailing_code : IntTy → IntTy → ℕ → List Instr
wide_trailing_code from to scratch = widened from ++ ((own_long from ++ (Unary I64 Ctz ∷ long_at_most from scratch)) ++ settled to)
