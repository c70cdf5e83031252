-- Bodies: the instructions of a module's functions.
use Rattle.std.specs.Prelude.{ℕ, List, [], Option, Some, None, slice_get}
use Rattle.zw_wasm.specs.declared.module.CodeBody.{CodeBody}
use Rattle.zw_wasm.specs.declared.module.Instr.{Instr}
use Rattle.zw_wasm.specs.declared.module.Module.{Module}

abbrev pub instrs_in : Option CodeBody → List Instr
instrs_in None = []
instrs_in (Some b) = b.instrs

-- the instructions of a body, by its number
abbrev pub body_of : Module → ℕ → List Instr
body_of m n = instrs_in (slice_get m.codes n)
