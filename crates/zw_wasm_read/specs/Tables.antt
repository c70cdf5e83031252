-- The type of a table as an item of its own.
use Rattle.std.specs.Prelude.{ℕ, List}
use Rattle.zw_wasm.specs.ModuleBytes.{IsTableType}
use Rattle.zw_wasm_read.specs.declared.vectors.TableType.{TableType}

abbrev pub IsTable : TableType → List ℕ → Type 0
IsTable t = IsTableType t.limits
