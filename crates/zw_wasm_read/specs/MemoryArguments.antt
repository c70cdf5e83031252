-- The operands of a load or a store.
use Rattle.std.specs.Prelude.{ℕ, List}
use Rattle.zw_wasm.specs.declared.module.MemoryArgument.{MemoryArgument}
use Rattle.zw_wasm.specs.ModuleBytes.{IsImmediate}
use Rattle.zw_wasm.specs.Opcodes.{Memory}

abbrev pub IsMemoryArgument : MemoryArgument → List ℕ → Type 0
IsMemoryArgument at = IsImmediate (Memory at)
