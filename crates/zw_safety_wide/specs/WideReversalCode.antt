-- The code of `@byteSwap` and `@bitReverse` where a type has more than 32 bits: as on 32 bits, with one more step.
use Rattle.std.specs.Prelude.{ℕ, pos, ◌+◌, ◌-◌, false, nat_eq, nat_lt, List, [], ◌∷◌, ◌++◌, if◌then◌else◌}
use Rattle.zw_num.specs.Arithmetic.{width}
use Rattle.zw_num.specs.declared.int_ty.IntTy.{IntTy}
use Rattle.zw_num.specs.declared.int_ty.IntTy.TheVariants.{Sized}
use Rattle.zw_safety_narrow.specs.CastCode.{holds}
use Rattle.zw_safety_narrow.specs.ReversalCode.{every_other}
use Rattle.zw_safety_words.specs.WideCode.{widened, settled, wide_fitted}
use Rattle.zw_wasm.specs.declared.module.BinaryOperator.TheVariants.{Add, And, Shl, ShrU}
use Rattle.zw_wasm.specs.declared.module.Instr.{Instr}
use Rattle.zw_wasm.specs.declared.module.Instr.TheVariants.{LocalGet, LocalTee, I64Const, Binary}
use Rattle.zw_wasm.specs.declared.module.ValType.TheVariants.{I64}

-- neighbouring digits of so many bits change places
abbrev pub long_neighbours_swapped : ℕ → ℕ → List Instr
long_neighbours_swapped bits scratch =
    LocalTee (scratch + 4) ∷ I64Const (pos (every_other 64 bits)) ∷ Binary I64 And ∷ I64Const (pos bits) ∷ Binary I64 Shl ∷
    LocalGet (scratch + 4) ∷ I64Const (pos bits) ∷ Binary I64 ShrU ∷ I64Const (pos (every_other 64 bits)) ∷ Binary I64 And ∷ Binary I64 Add ∷ []

-- the eight bytes in the other order
abbrev pub long_bytes_turned : ℕ → List Instr
long_bytes_turned scratch =
    long_neighbours_swapped 8 scratch ++ (long_neighbours_swapped 16 scratch ++ long_neighbours_swapped 32 scratch)

-- the 64 bits in the other order
abbrev pub long_bits_turned : ℕ → List Instr
long_bits_turned scratch =
    long_neighbours_swapped 1 scratch
    ++ (long_neighbours_swapped 2 scratch ++ (long_neighbours_swapped 4 scratch ++ long_bytes_turned scratch))

-- the bits of the type stand on top then, and go down to their place
abbrev pub long_lowered : IntTy → List Instr
long_lowered from = if nat_lt (width from) 64 then I64Const (pos (64 - width from)) ∷ Binary I64 ShrU ∷ [] else []

-- the value of a type with so many bits that stand in 64
abbrev pub with_bits : ℕ → IntTy → List Instr
with_bits bits to = if holds to (Sized false bits) then settled to else wide_fitted to

-- Code that puts all 64 bits in another order, for a type of so many bits, and the value of a type with these bits. Without bits 0 stays.
abbrev pub wide_reversal_code : List Instr → IntTy → IntTy → List Instr
wide_reversal_code turned from to =
    widened from ++ (if nat_eq (width from) 0 then settled to else turned ++ (long_lowered from ++ with_bits (width from) to))

-- `@byteSwap`
abbrev pub wide_byte_swap_code : IntTy → IntTy → ℕ → List Instr
wide_byte_swap_code from to scratch = wide_reversal_code (long_bytes_turned scratch) from to

-- `@bitReverse`
abbrev pub wide_bit_reverse_code : IntTy → IntTy → ℕ → List Instr
wide_bit_reverse_code from to scratch = wide_reversal_code (long_bits_turned scratch) from to
