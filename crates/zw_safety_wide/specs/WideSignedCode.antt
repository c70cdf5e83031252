-- The code of quotients and rests where a type has more than 32 bits, of signed numbers too; and of exact quotients. Both operands are
-- unsigned, or both are values of an i64, and the result's type has all values of the left one's.
use Rattle.std.specs.Prelude.{ℕ, pos, negsuc, ◌+◌, Bool, ◌&&◌, ◌||◌, nat_lt, List, [], ◌∷◌, ◌++◌, if◌then◌else◌}
use Rattle.zw_num.specs.Arithmetic.{least, width}
use Rattle.zw_num.specs.declared.int_ty.IntTy.{IntTy}
use Rattle.zw_safety_narrow.specs.CastCode.{holds}
use Rattle.zw_safety_narrow.specs.Code.{if_panics}
use Rattle.zw_safety_words.specs.WideBitCode.{both_got, zero_tested}
use Rattle.zw_safety_words.specs.WideCode.{settled, spread, is_signed}
use Rattle.zw_safety_words.specs.WideOrderCode.{both_fit, both_unsigned}
use Rattle.zw_session.specs.Causes.{integer_overflow}
use Rattle.zw_wasm.specs.declared.module.BinaryOperator.{BinaryOperator}
use Rattle.zw_wasm.specs.declared.module.BinaryOperator.TheVariants.{Add, Sub, And, Xor, DivS, DivU, RemS, RemU}
use Rattle.zw_wasm.specs.declared.module.Comparison.TheVariants.{Eq, Ne, LtS}
use Rattle.zw_wasm.specs.declared.module.Conversion.TheVariants.{ExtendU}
use Rattle.zw_wasm.specs.declared.module.Instr.{Instr}
use Rattle.zw_wasm.specs.declared.module.Instr.TheVariants.{LocalGet, LocalSet, LocalTee, I64Const, Compare, Binary, Convert, Select}
use Rattle.zw_wasm.specs.declared.module.ValType.TheVariants.{I32, I64}

-- both operands are values of an i64, and the result's type is signed and has a value beside 0
abbrev pub are_signed_shares : IntTy → IntTy → IntTy → Bool
are_signed_shares left right to = both_fit left right && (is_signed to && nat_lt 0 (width to))

-- the types of operands and result that quotients and rests are served on
abbrev pub are_wide_shares : IntTy → IntTy → IntTy → Bool
are_wide_shares left right to = holds to left && (both_unsigned left right || are_signed_shares left right to)

-- the operators on all bits, or on numbers with a sign
abbrev pub quotient_of : IntTy → IntTy → BinaryOperator
quotient_of left right = if both_unsigned left right then DivU else DivS

abbrev pub remainder_of : IntTy → IntTy → BinaryOperator
remainder_of left right = if both_unsigned left right then RemU else RemS

-- Both operands are in their locals: whether the left one is the least value of the type, and the right one is -1. That is the
-- only quotient that the type lacks.
abbrev pub lacking : IntTy → ℕ → List Instr
lacking to scratch =
    LocalGet (scratch + 5) ∷ I64Const (least to) ∷ Compare I64 Eq ∷ LocalGet (scratch + 4) ∷ I64Const (negsuc 0) ∷ Compare I64 Eq ∷ Binary I32 And ∷ []

-- a panic where that is so; no unsigned quotient is lacking
abbrev pub lacking_tested : IntTy → IntTy → IntTy → ℕ → List Instr
lacking_tested left right to scratch = if both_unsigned left right then [] else lacking to scratch ++ if_panics integer_overflow

-- an operator on both operands from their locals
abbrev pub shared : BinaryOperator → ℕ → List Instr
shared operator scratch = both_got scratch ++ Binary I64 operator ∷ []

-- `/` and `@divTrunc`
abbrev pub wide_quotient_code : IntTy → IntTy → IntTy → ℕ → List Instr
wide_quotient_code left right to scratch =
    spread left right scratch
    ++ (zero_tested scratch ++ (lacking_tested left right to scratch ++ (shared (quotient_of left right) scratch ++ settled to)))

-- `%` and `@rem`
abbrev pub wide_rest_code : IntTy → IntTy → IntTy → ℕ → List Instr
wide_rest_code left right to scratch =
    spread left right scratch ++ (zero_tested scratch ++ (shared (remainder_of left right) scratch ++ settled to))

-- ---- rounded down

-- A rest in a local isn't 0, and lies on the other side of 0 than the divisor.
abbrev pub across : ℕ → List Instr
across scratch =
    LocalGet (scratch + 6) ∷ LocalGet (scratch + 4) ∷ Binary I64 Xor ∷ I64Const (pos 0) ∷ Compare I64 LtS ∷
    LocalGet (scratch + 6) ∷ I64Const (pos 0) ∷ Compare I64 Ne ∷ Binary I32 And ∷ []

-- the rest, or where it lies across, the sum of it and the divisor
abbrev pub floored_rest : ℕ → List Instr
floored_rest scratch =
    (shared RemS scratch ++ LocalTee (scratch + 6) ∷ LocalGet (scratch + 4) ∷ Binary I64 Add ∷ LocalGet (scratch + 6) ∷ [])
    ++ (across scratch ++ Select ∷ [])

-- the quotient, or where the rest lies across, one less
abbrev pub floored_quotient : ℕ → List Instr
floored_quotient scratch =
    (shared RemS scratch ++ LocalSet (scratch + 6) ∷ [])
    ++ (shared DivS scratch ++ (across scratch ++ Convert ExtendU ∷ Binary I64 Sub ∷ []))

-- `@mod`
abbrev pub wide_modulo_code : IntTy → IntTy → IntTy → ℕ → List Instr
wide_modulo_code left right to scratch =
    spread left right scratch
    ++ (zero_tested scratch ++ ((if both_unsigned left right then shared RemU scratch else floored_rest scratch) ++ settled to))

-- `@divFloor`
abbrev pub wide_floor_code : IntTy → IntTy → IntTy → ℕ → List Instr
wide_floor_code left right to scratch =
    spread left right scratch
    ++ (zero_tested scratch
    ++ (lacking_tested left right to scratch ++ ((if both_unsigned left right then shared DivU scratch else floored_quotient scratch) ++ settled to)))

-- ---- exact quotients

-- a panic where a rest is left
abbrev pub left_tested : BinaryOperator → ℕ → List Instr
left_tested operator scratch = shared operator scratch ++ (I64Const (pos 0) ∷ Compare I64 Ne ∷ if_panics 8)

-- `@divExact`: an overflow comes before a rest
abbrev pub wide_exact_quotient_code : IntTy → IntTy → IntTy → ℕ → List Instr
wide_exact_quotient_code left right to scratch =
    spread left right scratch
    ++ (zero_tested scratch
    ++ (lacking_tested left right to scratch
    ++ (left_tested (remainder_of left right) scratch ++ (shared (quotient_of left right) scratch ++ settled to))))
