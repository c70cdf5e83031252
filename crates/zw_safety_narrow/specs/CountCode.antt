-- The code of counts of bits, on types of at most 32 bits.
use Rattle.std.specs.Prelude.{ℕ, pos, ◌-◌, ◌^◌, true, false, nat_lt, List, [], ◌∷◌, ◌++◌, if◌then◌else◌}
use Rattle.zw_num.specs.Arithmetic.{width}
use Rattle.zw_num.specs.declared.int_ty.IntTy.{IntTy}
use Rattle.zw_num.specs.declared.int_ty.IntTy.TheVariants.{Sized, Comptime}
use Rattle.zw_safety_narrow.specs.NarrowCode.{masked}
use Rattle.zw_wasm.specs.declared.module.BinaryOperator.TheVariants.{Sub}
use Rattle.zw_wasm.specs.declared.module.Comparison.TheVariants.{LtU}
use Rattle.zw_wasm.specs.declared.module.Instr.{Instr}
use Rattle.zw_wasm.specs.declared.module.Instr.TheVariants.{LocalGet, LocalTee, I32Const, Compare, Binary, Unary, Select}
use Rattle.zw_wasm.specs.declared.module.UnaryOperator.TheVariants.{Clz, Ctz, Popcnt}
use Rattle.zw_wasm.specs.declared.module.ValType.TheVariants.{I32}

-- the bits of the type alone, without the copies of the sign above them
abbrev pub own_bits : IntTy → List Instr
own_bits (Sized true bits) = if nat_lt bits 32 then masked (pos (2 ^ bits - 1)) else []
own_bits (Sized false bits) = []
own_bits Comptime = []

-- `@popCount`
abbrev pub ones_code : IntTy → List Instr
ones_code from = own_bits from ++ Unary I32 Popcnt ∷ []

-- `@clz`: the zeros above the type's bits don't count
abbrev pub leading_code : IntTy → List Instr
leading_code from =
    own_bits from
    ++ (Unary I32 Clz ∷ (if nat_lt (width from) 32 then I32Const (pos (32 - width from)) ∷ Binary I32 Sub ∷ [] else []))

-- a number of 32 bits where it is less than this, and else this
abbrev pub at_most : ℕ → ℕ → List Instr
at_most top scratch =
    LocalTee scratch ∷ I32Const (pos top) ∷ LocalGet scratch ∷ I32Const (pos top) ∷ Compare I32 LtU ∷ Select ∷ []

-- `@ctz`: there are at most as many as the type has bits
abbrev pub trailing_code : IntTy → ℕ → List Instr
trailing_code from scratch =
    own_bits from ++ (Unary I32 Ctz ∷ (if nat_lt (width from) 32 then at_most (width from) scratch else []))
