-- What a sink has taken of a module that was written.
use Rattle.std.specs.Prelude.{◌≡◌, ◌⊎◌, ℕ, List, Option, Result, Ok, Err}
use Rattle.zw_base.specs.declared.outside.PutErr.{PutErr}
use Rattle.zw_base.specs.declared.outside.PutErr.TheVariants as put
use Rattle.zw_wasm.specs.ModuleBytes.{ModuleBytes}
use Rattle.zw_wasm.specs.Spelling.{spelling}
use Rattle.zw_wasm.specs.WellFormed.{IsWellFormed}
use Rattle.zw_wasm.specs.declared.module.Module.{Module}

-- where the module is well formed, its shortest spelling is one of its spellings
abbrev pub IsSpelled : Module → Type 0
IsSpelled m = IsWellFormed m → ModuleBytes m (spelling m)

-- So it is, unless memory ran out before anything was taken.
abbrev pub WritesSpelling : Module → Option (List ℕ) → Option (List ℕ) → Result (Unit {0}) PutErr → Type 0
WritesSpelling m old new (Ok x) = IsSpelled m
WritesSpelling m old new (Err put.Failed) = IsSpelled m
WritesSpelling m old new (Err put.Oom) = IsSpelled m ⊎ (new ≡ old)
