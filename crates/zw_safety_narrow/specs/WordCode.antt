-- The code of one instruction on words of 32 bits.
use Rattle.std.specs.Prelude.{List, [], ◌∷◌}
use Rattle.zw_wasm.specs.declared.module.BinaryOperator.{BinaryOperator}
use Rattle.zw_wasm.specs.declared.module.Instr.{Instr}
use Rattle.zw_wasm.specs.declared.module.Instr.TheVariants.{Binary, IsZero}
use Rattle.zw_wasm.specs.declared.module.ValType.TheVariants.{I32}

-- an operator that works on the bits of both operands
abbrev pub word_code : BinaryOperator → List Instr
word_code operator = Binary I32 operator ∷ []

-- a truth value that is 0 becomes 1, and 1 becomes 0
abbrev pub not_code : List Instr
not_code = IsZero I32 ∷ []
