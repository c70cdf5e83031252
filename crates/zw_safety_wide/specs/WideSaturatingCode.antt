-- The code of operators that stop at the bounds of their type, where a type has more than 32 bits.
use Rattle.std.specs.Prelude.{ℕ, ℤ, pos, negsuc, ◌+◌, ◌-◌, ◌/◌, ◌^◌, Bool, true, false, nat_lt, List, [], ◌∷◌, ◌++◌, if◌then◌else◌}
use Rattle.zw_num.specs.Arithmetic.{least}
use Rattle.zw_num.specs.declared.int_ty.IntTy.{IntTy}
use Rattle.zw_num.specs.declared.int_ty.IntTy.TheVariants.{Sized, Comptime}
use Rattle.zw_safety_words.specs.WideCode.{settled, spread, low_word, outside, all_unsigned, all_signed, long_less, crossed, sum_words, difference_words, product_words}
use Rattle.zw_safety_words.specs.WideOrderCode.{both_unsigned}
use Rattle.zw_wasm.specs.declared.module.BinaryOperator.TheVariants.{Add, Sub}
use Rattle.zw_wasm.specs.declared.module.Comparison.TheVariants.{LtS, GtS}
use Rattle.zw_wasm.specs.declared.module.Instr.{Instr}
use Rattle.zw_wasm.specs.declared.module.Instr.TheVariants.{LocalGet, LocalSet, I64Const, Compare, Select}
use Rattle.zw_wasm.specs.declared.module.ValType.TheVariants.{I64}

-- the greatest value of a type by its 64 bits, read with a sign
abbrev pub greatest_long : IntTy → ℤ
greatest_long (Sized true bits) = pos ((2 ^ bits - 1) / 2)
greatest_long (Sized false bits) = if nat_lt bits 64 then pos (2 ^ bits - 1) else negsuc 0
greatest_long Comptime = pos 0

-- The bound that lies on the side of 0 on which the number in a local is; where none is negative, the greatest value.
abbrev pub bound : Bool → IntTy → ℕ → List Instr
bound never_negative to local =
    if never_negative then I64Const (greatest_long to) ∷ []
    else I64Const (least to) ∷ I64Const (greatest_long to) ∷ LocalGet local ∷ I64Const (pos 0) ∷ Compare I64 LtS ∷ Select ∷ []

-- From two words the low one where they are a value of the type, and else the bound.
abbrev pub nearest : Bool → IntTy → ℕ → List Instr
nearest never_negative to scratch =
    (LocalSet (scratch + 7) ∷ [])
    ++ (bound never_negative to (scratch + 7)
    ++ (LocalGet (scratch + 6) ∷ LocalGet (scratch + 7) ∷ (outside to (scratch + 6) ++ (Select ∷ settled to))))

-- From the low word in its local: the bound, the low word, and by a test one of them.
abbrev pub by_one_test : List Instr → List Instr → IntTy → ℕ → List Instr
by_one_test edge test to scratch = edge ++ (LocalGet (scratch + 6) ∷ (test ++ (Select ∷ settled to)))

-- by one comparison where that is enough; where the type lacks a sum or a difference, that lies on the left operand's side
abbrev pub sum_nearest : IntTy → IntTy → IntTy → ℕ → List Instr
sum_nearest left right to scratch =
    if all_unsigned left right to
    then low_word Add scratch ++ by_one_test (bound true to (scratch + 5)) (long_less (scratch + 6) (scratch + 4)) to scratch
    else (if all_signed left right to then low_word Add scratch ++ by_one_test (bound false to (scratch + 5)) (crossed LtS scratch) to scratch
    else sum_words left right scratch ++ nearest (both_unsigned left right) to scratch)

abbrev pub difference_nearest : IntTy → IntTy → IntTy → ℕ → List Instr
difference_nearest left right to scratch =
    if all_unsigned left right to
    then low_word Sub scratch ++ by_one_test (I64Const (pos 0) ∷ []) (long_less (scratch + 5) (scratch + 4)) to scratch
    else (if all_signed left right to then low_word Sub scratch ++ by_one_test (bound false to (scratch + 5)) (crossed GtS scratch) to scratch
    else difference_words left right scratch ++ nearest false to scratch)

-- `+|`
abbrev pub wide_sum_sat_code : IntTy → IntTy → IntTy → ℕ → List Instr
wide_sum_sat_code left right to scratch = spread left right scratch ++ sum_nearest left right to scratch

-- `-|`
abbrev pub wide_difference_sat_code : IntTy → IntTy → IntTy → ℕ → List Instr
wide_difference_sat_code left right to scratch = spread left right scratch ++ difference_nearest left right to scratch

-- `*|`
abbrev pub wide_product_sat_code : IntTy → IntTy → IntTy → ℕ → List Instr
wide_product_sat_code left right to scratch =
    spread left right scratch ++ (product_words left right scratch ++ nearest (both_unsigned left right) to scratch)
