-- Functions: the functions of a module and their types, by number (WebAssembly Core Specification 1.0, 2.5.1).
use Rattle.std.specs.Prelude.{ℕ, ◌+◌, List, ◌++◌, length, map, Option, Some, None, slice_get}
use Rattle.zw_wasm.specs.declared.module.FuncImport.{FuncImport}
use Rattle.zw_wasm.specs.declared.module.FuncType.{FuncType}
use Rattle.zw_wasm.specs.declared.module.Module.{Module}

-- the numbers of the functions' types: imported functions come first
abbrev pub func_type_indices : Module → List ℕ
func_type_indices m = map (λ (i : FuncImport). i.ty) m.imports ++ m.funcs

abbrev pub type_at : Module → Option ℕ → Option FuncType
type_at m None = None
type_at m (Some k) = slice_get m.types k

-- the type of a function, by its number among the imported ones and those with a body
abbrev pub func_type : Module → ℕ → Option FuncType
func_type m f = type_at m (slice_get (func_type_indices m) f)

abbrev pub func_count : Module → ℕ
func_count m = length m.imports + length m.funcs
