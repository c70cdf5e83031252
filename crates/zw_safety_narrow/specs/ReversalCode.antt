-- The code of `@byteSwap` and `@bitReverse`, on types of at most 32 bits: digits change places with their neighbours, first the least ones and
-- then ever greater ones.
use Rattle.std.specs.Prelude.{ℕ, pos, ◌+◌, ◌-◌, ◌/◌, ◌^◌, false, nat_eq, nat_lt, List, [], ◌∷◌, ◌++◌, if◌then◌else◌}
use Rattle.zw_num.specs.Arithmetic.{width}
use Rattle.zw_num.specs.declared.int_ty.IntTy.{IntTy}
use Rattle.zw_num.specs.declared.int_ty.IntTy.TheVariants.{Sized}
use Rattle.zw_safety_narrow.specs.CastCode.{truncated_code}
use Rattle.zw_wasm.specs.declared.module.BinaryOperator.TheVariants.{Add, And, Shl, ShrU}
use Rattle.zw_wasm.specs.declared.module.Instr.{Instr}
use Rattle.zw_wasm.specs.declared.module.Instr.TheVariants.{LocalGet, LocalTee, I32Const, Binary}
use Rattle.zw_wasm.specs.declared.module.ValType.TheVariants.{I32}

-- of a word of so many bits, the bits of every second digit of so many, from the lowest digit on
abbrev pub every_other : ℕ → ℕ → ℕ
every_other wide bits = (2 ^ wide - 1) / (2 ^ bits + 1)

-- neighbouring digits of so many bits change places
abbrev pub neighbours_swapped : ℕ → ℕ → List Instr
neighbours_swapped bits scratch =
    LocalTee scratch ∷ I32Const (pos (every_other 32 bits)) ∷ Binary I32 And ∷ I32Const (pos bits) ∷ Binary I32 Shl ∷
    LocalGet scratch ∷ I32Const (pos bits) ∷ Binary I32 ShrU ∷ I32Const (pos (every_other 32 bits)) ∷ Binary I32 And ∷ Binary I32 Add ∷ []

-- the four bytes in the other order: first each pair of them, and then both halves
abbrev pub bytes_turned : ℕ → List Instr
bytes_turned scratch = neighbours_swapped 8 scratch ++ neighbours_swapped 16 scratch

-- the 32 bits in the other order
abbrev pub bits_turned : ℕ → List Instr
bits_turned scratch =
    neighbours_swapped 1 scratch ++ (neighbours_swapped 2 scratch ++ (neighbours_swapped 4 scratch ++ bytes_turned scratch))

-- the bits of the type stand on top then, and go down to their place
abbrev pub lowered : IntTy → List Instr
lowered from = if nat_lt (width from) 32 then I32Const (pos (32 - width from)) ∷ Binary I32 ShrU ∷ [] else []

-- Code that puts all 32 bits in another order, for a type of so many bits, and the value of a type with these bits. Without bits 0 stays.
abbrev pub reversal_code : List Instr → IntTy → IntTy → List Instr
reversal_code turned from to =
    if nat_eq (width from) 0 then [] else turned ++ (lowered from ++ truncated_code (Sized false (width from)) to)

-- `@byteSwap`
abbrev pub byte_swap_code : IntTy → IntTy → ℕ → List Instr
byte_swap_code from to scratch = reversal_code (bytes_turned scratch) from to

-- `@bitReverse`
abbrev pub bit_reverse_code : IntTy → IntTy → ℕ → List Instr
bit_reverse_code from to scratch = reversal_code (bits_turned scratch) from to
