-- The code of quotients and rests, on types of at most 32 bits.
use Rattle.std.specs.Prelude.{ℕ, Bool, ◌&&◌, List, [], ◌∷◌, ◌++◌, if◌then◌else◌}
use Rattle.zw_num.specs.declared.int_ty.IntTy.{IntTy}
use Rattle.zw_safety_narrow.specs.CastCode.{tested, holds}
use Rattle.zw_safety_narrow.specs.CompareCode.{is_unsigned}
use Rattle.zw_safety_narrow.specs.NarrowCode.{extended, exact_code}
use Rattle.zw_wasm.specs.declared.module.BinaryOperator.TheVariants.{DivS, DivU, RemS, RemU}
use Rattle.zw_wasm.specs.declared.module.Conversion.TheVariants.{Wrap}
use Rattle.zw_wasm.specs.declared.module.Instr.{Instr}
use Rattle.zw_wasm.specs.declared.module.Instr.TheVariants.{IsZero, Binary, Convert}
use Rattle.zw_wasm.specs.declared.module.ValType.TheVariants.{I32, I64}

abbrev pub is_zero : List Instr
is_zero = IsZero I32 ∷ []

-- the divisor, which stays: a panic where it is 0
abbrev pub divisor_tested : ℕ → List Instr
divisor_tested scratch = tested is_zero 7 scratch

abbrev pub are_unsigned : IntTy → IntTy → Bool
are_unsigned left right = is_unsigned left && is_unsigned right

-- The quotient of unsigned numbers is at most the left one. Others are divided in 64 bits, where no quotient overflows.
abbrev pub quotient_code : IntTy → IntTy → IntTy → ℕ → List Instr
quotient_code left right to scratch =
    divisor_tested scratch ++ (if are_unsigned left right && holds to left then Binary I32 DivU ∷ [] else exact_code DivS left right to scratch)

-- what a quotient that is rounded toward zero leaves
abbrev pub rest_code : IntTy → IntTy → ℕ → List Instr
rest_code left right scratch =
    divisor_tested scratch ++ (if are_unsigned left right then Binary I32 RemU ∷ [] else extended left right scratch ++ (Binary I64 RemS ∷ Convert Wrap ∷ []))
