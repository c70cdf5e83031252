-- Naming: a module with other names of its imports. What its code does is the same; a host tells its calls apart by these names.
use Rattle.std.specs.Prelude.{ℕ, suc, List, [], ◌∷◌}
use Rattle.zw_wasm.specs.declared.module.FuncImport.{FuncImport}
use Rattle.zw_wasm.specs.declared.module.Module.{Module}

-- imports, numbered from k, with these names of their fields
abbrev pub named_from : (ℕ → List ℕ) → ℕ → List FuncImport → List FuncImport
named_from names k [] = []
named_from names k (i ∷ is) = record i { field = names k } ∷ named_from names (suc k) is

abbrev pub named : (ℕ → List ℕ) → Module → Module
named names m = record m { imports = named_from names 0 m.imports }
