-- Operands: what the operands of the program are in the definition, where the last one comes first.
use Rattle.std.specs.Prelude.{List, map, reverse, Option, Some, None}
use Rattle.zw_wasm.specs.declared.module.ValType.{ValType}
use Rattle.zw_wasm.specs.Typing.{Operand, Known, Unknown}

abbrev pub operand_of : Option ValType → Operand
operand_of None = Unknown
operand_of (Some t) = Known t

abbrev pub operands_of : List (Option ValType) → List Operand
operands_of os = map operand_of (reverse os)

-- one that was taken, and those that are left
abbrev pub one_of : Option (Option ValType) → List (Option ValType) → Option (Operand × List Operand)
one_of None os = None
one_of (Some o) os = Some (operand_of o, operands_of os)
