-- The code of comparisons, and of the lesser and the greater of two numbers, where a type has more than 32 bits.
use Rattle.std.specs.Prelude.{ℕ, ℤ, pos, ◌+◌, Bool, true, false, ◌&&◌, nat_lt, List, [], ◌∷◌, ◌++◌, if◌then◌else◌}
use Rattle.zw_num.specs.Meanings.{number_of_truth}
use Rattle.zw_num.specs.declared.int_ty.IntTy.{IntTy}
use Rattle.zw_num.specs.declared.int_ty.IntTy.TheVariants.{Sized, Comptime}
use Rattle.zw_num.specs.declared.operator.Comparison.{Comparison}
use Rattle.zw_num.specs.declared.operator.Comparison.TheVariants as comparison
use Rattle.zw_num.specs.declared.operator.Extreme.{Extreme}
use Rattle.zw_num.specs.declared.operator.Extreme.TheVariants as extreme
use Rattle.zw_safety_narrow.specs.CompareCode.{is_unsigned}
use Rattle.zw_safety_narrow.specs.Operators.{fills_word}
use Rattle.zw_safety_narrow.specs.declared.setting.Setting.{Setting}
use Rattle.zw_safety_words.specs.declared.order.Compared.{Compared}
use Rattle.zw_safety_words.specs.WideBitCode.{both_got}
use Rattle.zw_safety_words.specs.WideCode.{settled, both_widened, spread, is_signed}
use Rattle.zw_wasm.specs.declared.module.Comparison.TheVariants.{Eq, Ne, LtS, LtU, GtS, GtU, LeS, LeU, GeS, GeU}
use Rattle.zw_wasm.specs.declared.module.Conversion.TheVariants.{ExtendU}
use Rattle.zw_wasm.specs.declared.module.Instr.{Instr}
use Rattle.zw_wasm.specs.declared.module.Instr.TheVariants.{LocalGet, I32Const, I64Const, Compare, Convert, Select}
use Rattle.zw_wasm.specs.declared.module.ValType.TheVariants.{I64}

-- the values of a type are those of an i64, read with its sign
abbrev pub fits_signed_long : IntTy → Bool
fits_signed_long (Sized true bits) = true
fits_signed_long (Sized false bits) = nat_lt bits 64
fits_signed_long Comptime = false

abbrev pub both_fit : IntTy → IntTy → Bool
both_fit left right = fits_signed_long left && fits_signed_long right

abbrev pub both_unsigned : IntTy → IntTy → Bool
both_unsigned left right = is_unsigned left && is_unsigned right

-- the local of the signed operand, and what the comparison gives where that is negative
abbrev pub signed_local : IntTy → ℕ → ℕ
signed_local left scratch = if is_signed left then scratch + 5 else scratch + 4

abbrev pub below_zero : Compared → IntTy → ℤ
below_zero o left = number_of_truth (if is_signed left then o.left_below else o.right_below)

-- A number of all 64 bits against one with a sign: that of the bits, but where the second is negative.
abbrev pub mixed_code : Compared → IntTy → ℕ → List Instr
mixed_code o left scratch =
    Compare I64 o.unsigned ∷ I32Const (below_zero o left) ∷ LocalGet (signed_local left scratch) ∷ I64Const (pos 0) ∷ Compare I64 GeS ∷ Select ∷ []

-- operands in 64 bits, which are in their locals too
abbrev pub relation_code : Compared → IntTy → IntTy → ℕ → List Instr
relation_code o left right scratch =
    if both_fit left right then Compare I64 o.signed ∷ []
    else (if both_unsigned left right then Compare I64 o.unsigned ∷ [] else mixed_code o left scratch)

-- Operands that can be read in one way needn't be kept.
abbrev pub compared_code : Compared → IntTy → IntTy → ℕ → List Instr
compared_code o left right scratch =
    if both_fit left right then both_widened left right scratch ++ Compare I64 o.signed ∷ []
    else (if both_unsigned left right then both_widened left right scratch ++ Compare I64 o.unsigned ∷ []
    else spread left right scratch ++ (both_got scratch ++ mixed_code o left scratch))

-- a truth value as a value of a type
abbrev pub truth_settled : IntTy → List Instr
truth_settled to = if fills_word to then [] else Convert ExtendU ∷ []

abbrev pub wide_comparison_code : Compared → IntTy → IntTy → IntTy → ℕ → List Instr
wide_comparison_code o left right to scratch = compared_code o left right scratch ++ truth_settled to

-- the left operand where it compares so with the right one, and else the right one
abbrev pub wide_choice_code : Compared → IntTy → IntTy → IntTy → ℕ → List Instr
wide_choice_code o left right to scratch =
    spread left right scratch
    ++ (both_got scratch ++ (both_got scratch ++ (relation_code o left right scratch ++ (Select ∷ settled to))))

-- the comparisons, with what each gives of a negative left operand and another right one, and of another left one and a negative right one
abbrev pub equal : Compared
equal = record { signed = Eq; unsigned = Eq; left_below = false; right_below = false }

abbrev pub not_equal : Compared
not_equal = record { signed = Ne; unsigned = Ne; left_below = true; right_below = true }

abbrev pub less : Compared
less = record { signed = LtS; unsigned = LtU; left_below = true; right_below = false }

abbrev pub less_or_equal : Compared
less_or_equal = record { signed = LeS; unsigned = LeU; left_below = true; right_below = false }

abbrev pub greater : Compared
greater = record { signed = GtS; unsigned = GtU; left_below = false; right_below = true }

abbrev pub greater_or_equal : Compared
greater_or_equal = record { signed = GeS; unsigned = GeU; left_below = false; right_below = true }

abbrev pub compared_by : Comparison → Compared
compared_by comparison.Equal = equal
compared_by comparison.NotEqual = not_equal
compared_by comparison.Less = less
compared_by comparison.LessOrEqual = less_or_equal
compared_by comparison.Greater = greater
compared_by comparison.GreaterOrEqual = greater_or_equal

abbrev pub wide_code_of_comparison : Comparison → Setting → List Instr
wide_code_of_comparison operator t = wide_comparison_code (compared_by operator) t.left t.right t.to t.scratch

-- `@min` and `@max`: by which comparison the left operand is chosen
abbrev pub chosen_by : Extreme → Compared
chosen_by extreme.Min = less
chosen_by extreme.Max = greater

abbrev pub wide_code_of_extreme : Extreme → Setting → List Instr
wide_code_of_extreme operator t = wide_choice_code (chosen_by operator) t.left t.right t.to t.scratch
