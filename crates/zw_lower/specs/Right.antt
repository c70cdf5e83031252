-- When a module does what a file means.
use Rattle.std.specs.Prelude.{◌≡◌, ℕ, suc, ◌+◌, max, true, List, [], ◌∷◌, ◌++◌, length, map, codes, Some, None, slice_get, Contains}
use Rattle.zw_form.specs.Form.{IsSmall}
use Rattle.zw_names.specs.NameSets.{number_in}
use Rattle.zw_form.specs.Programs.{called_in, program_of}
use Rattle.zw_form.specs.Rules.{KeepsRules, exports_of, externs_of}
use Rattle.zw_form.specs.Source.{source_machine}
use Rattle.zw_form.specs.Trees.{Tree, declaration_of}
use Rattle.zw_form.specs.declared.program.Program.{Program}
use Rattle.zw_form.specs.declared.source.Declaration.{Declaration}
use Rattle.zw_form.specs.declared.source.ExportedFunction.{ExportedFunction}
use Rattle.zw_form.specs.declared.source.ExternFunction.{ExternFunction}
use Rattle.zw_lower.specs.Modules.{export_of, memory_for, number_type, state_exports, zero_global}
use Rattle.zw_lower.specs.Views.{view_of}
use Rattle.zw_session.specs.Agrees.{Agrees}
use Rattle.zw_wasm.specs.declared.module.ExportDef.{ExportDef}
use Rattle.zw_wasm.specs.declared.module.FuncImport.{FuncImport}
use Rattle.zw_wasm.specs.declared.module.Module.{Module}
use Rattle.zw_wasm.specs.declared.module.TheConstants.ExportDef.{FUNC}
use Rattle.zw_wasm.specs.Functions.{func_type}
use Rattle.zw_wasm.specs.ModuleMachine.{first_store, module_machine}
use Rattle.zw_wasm.specs.Validity.{IsValid}
use Rattle.zw_wasm.specs.WellFormed.{IsWellFormed}

-- exported functions under their names, with the numbers from k on
abbrev pub numbered_exports : ℕ → List ExportedFunction → List ExportDef
numbered_exports k [] = []
numbered_exports k (f ∷ functions) = export_of f.name FUNC k ∷ numbered_exports (suc k) functions

-- the greatest number of parameters of an exported function
abbrev pub greatest_params : List ExportedFunction → ℕ
greatest_params [] = 0
greatest_params (f ∷ functions) = max (length f.params) (greatest_params functions)

-- What the module of a file has, for a host to see. It imports from `env` the functions that exports call, each once, in the
-- order of first reference, with an i32 for each parameter and for the result; it exports the file's functions in their
-- order, whose numbers follow those of the imports, and then its state. It has one memory, with room for the frames of all
-- active calls, which can't grow, and three globals that begin at 0; and neither a table, nor a function that runs first,
-- nor parts that either begins with.
pub record Shows (file : List Declaration) (m : Module) : Type 0 where
  pub imports_from_env : map (λ (i : FuncImport). i.module) m.imports ≡ map (λ name. codes "env") (called_in file)
  pub imports : map (λ (i : FuncImport). i.field) m.imports ≡ called_in file
  pub import_types : (f : ExternFunction) → Contains (externs_of file) f → Contains (called_in file) f.name → func_type m (number_in (called_in file) f.name) ≡ Some (number_type (length f.params) f.has_result)
  pub exports : m.exports ≡ numbered_exports (length (called_in file)) (exports_of file) ++ state_exports
  pub export_types : (k : ℕ) (f : ExportedFunction) → slice_get (exports_of file) k ≡ Some f → func_type m (length (called_in file) + k) ≡ Some (number_type (length f.params) true)
  pub memory : m.memories ≡ memory_for (greatest_params (exports_of file)) ∷ []
  pub globals : m.globals ≡ zero_global ∷ zero_global ∷ zero_global ∷ []
  pub no_table : m.tables ≡ []
  pub no_start : m.start ≡ None
  pub no_elements : m.elements ≡ []
  pub no_datas : m.datas ≡ []

-- The module is valid and shows what the file says, and its sessions are the file's.
pub record Does (trees : List Tree) (m : Module) : Type 0 where
  pub valid : IsValid m
  pub shows : Shows (map declaration_of trees) m
  pub agrees : Agrees (source_machine trees) tt (module_machine m (view_of trees m)) (first_store m)

-- The module of a program does what each file means that has this program, and has bytes.
pub record IsRight (p : Program) (m : Module) : Type 0 where
  pub does : (trees : List Tree) → p ≡ program_of (map declaration_of trees) → KeepsRules (map declaration_of trees) → IsSmall trees → Does trees m
  pub well_formed : (trees : List Tree) → p ≡ program_of (map declaration_of trees) → KeepsRules (map declaration_of trees) → IsSmall trees → IsWellFormed m
