-- The code of `!` where a type has more than 32 bits.
use Rattle.std.specs.Prelude.{List, ◌∷◌, ◌++◌}
use Rattle.zw_num.specs.declared.int_ty.IntTy.{IntTy}
use Rattle.zw_safety_words.specs.WideCode.{widened}
use Rattle.zw_safety_words.specs.WideOrderCode.{truth_settled}
use Rattle.zw_wasm.specs.declared.module.Instr.{Instr}
use Rattle.zw_wasm.specs.declared.module.Instr.TheVariants.{IsZero}
use Rattle.zw_wasm.specs.declared.module.ValType.TheVariants.{I64}

-- whether the operand is 0
abbrev pub wide_not_code : IntTy → IntTy → List Instr
wide_not_code from to = widened from ++ (IsZero I64 ∷ truth_settled to)
