-- Checking a module: what the answers say of its first violation.
use Rattle.std.specs.Prelude.{◌≡◌, ℕ, List, Option, Some, None, Result, Ok, Err}
use Rattle.zw_wasm.specs.declared.module.Module.{Module}
use Rattle.zw_wasm.specs.ModuleBytes.{ModuleBytes}
use Rattle.zw_wasm.specs.Validity.{IsValid, Violation, first_violation}
use Rattle.zw_wasm_check.specs.declared.module.CheckErr.{CheckErr}
use Rattle.zw_wasm_check.specs.declared.module.CheckErr.TheVariants as error

-- some bytes spell the module
abbrev pub HasBytes : Module → Type 0
HasBytes m = (bytes : List ℕ) × ModuleBytes m bytes

-- this is the first violation, and there is none where all went well
abbrev pub Finds : {A : Type 0} → Option Violation → Result A CheckErr → Type 0
Finds first (Ok x) = first ≡ None
Finds first (Err (error.Outside section entry)) = first ≡ Some (Violation.Outside section entry)
Finds first (Err (error.Body func at code)) = first ≡ Some (Violation.Body func at code)
Finds first (Err error.Oom) = Unit {0}

-- the module is valid and handed on, or this is its first violation
abbrev pub Checks : Module → Result Module CheckErr → Type 0
Checks m (Ok checked) = (checked ≡ m) × IsValid m
Checks m (Err e) = Finds {A = Module} (first_violation m) (Err e)
