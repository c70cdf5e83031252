-- What the module of a file has for a host to see: types, exports with their numbers, the memory and the globals.
use Rattle.std.proofs.Common.{◌≡◌, ℕ, suc, ◌+◌, true, List, [], ◌∷◌, ◌++◌, length, map, Some, refl, sym, ap, ◌∙◌}
use Rattle.std.specs.Prelude.{max, slice_get}
use Rattle.std.proofs.lemmas.List.{length-map}
use Rattle.zw_form.specs.Programs.{called_in, function_of, import_named, program_of}
use Rattle.zw_form.specs.Rules.{KeepsRules, exports_of, externs_of}
use Rattle.zw_form.specs.Trees.{Tree, declaration_of}
use Rattle.zw_form.specs.declared.source.Declaration.{Declaration}
use Rattle.zw_form.specs.declared.source.ExportedFunction.{ExportedFunction}
use Rattle.zw_lower.proofs.FileImports.{file_module, imports_hold}
use Rattle.zw_lower.proofs.ListLemmas.{slice_get-map_some}
use Rattle.zw_lower.proofs.ModuleNames.{module_imports_from_env, module_imports}
use Rattle.zw_lower.proofs.ModuleTypes.{length-imports_from, type_of_function}
use Rattle.zw_lower.specs.Modules.{exports_from, export_of, memory_for, module_of, most_params, number_type, state_exports}
use Rattle.zw_lower.specs.Right.{Shows, greatest_params, numbered_exports}
use Rattle.zw_wasm.specs.declared.module.TheConstants.ExportDef.{FUNC}
use Rattle.zw_wasm.specs.Functions.{func_type}

exports_are : (k : ℕ) (imports : List (List ℕ)) (functions : List ExportedFunction) → exports_from k (map (function_of imports) functions) ≡ numbered_exports k functions
exports_are k imports [] = refl
exports_are k imports (f ∷ functions) = ap (λ es. export_of f.name FUNC k ∷ es) (exports_are (suc k) imports functions)

params_are : (imports : List (List ℕ)) (functions : List ExportedFunction) → most_params (map (function_of imports) functions) ≡ greatest_params functions
params_are imports [] = refl
params_are imports (f ∷ functions) = ap (λ n. max (length f.params) n) (params_are imports functions)

import_count : (file : List Declaration) → length (program_of file).imports ≡ length (called_in file)
import_count file = length-map (called_in file) (import_named (externs_of file))

module_exports_all : (file : List Declaration) → (module_of (program_of file)).exports ≡ numbered_exports (length (called_in file)) (exports_of file) ++ state_exports
module_exports_all file =
    ap (λ es. es ++ state_exports) (exports_are (length (program_of file).imports) (called_in file) (exports_of file))
    ∙ ap (λ n. numbered_exports n (exports_of file) ++ state_exports) (import_count file)

module_export_type : (file : List Declaration) (k : ℕ) (f : ExportedFunction) → slice_get (exports_of file) k ≡ Some f → func_type (module_of (program_of file)) (length (called_in file) + k) ≡ Some (number_type (length f.params) true)
module_export_type file k f is =
    let p = program_of file in
    let count : length (called_in file) ≡ length (module_of p).imports = sym (length-imports_from 0 p.imports ∙ import_count file) in
    ap (λ n. func_type (module_of p) (n + k)) count
    ∙ type_of_function p k (function_of (called_in file) f) (slice_get-map_some (function_of (called_in file)) (exports_of file) k f is)

pub module_shows : (trees : List Tree) → KeepsRules (map declaration_of trees) → Shows (map declaration_of trees) (file_module trees)
module_shows trees rules =
    let file = map declaration_of trees in
    record {
      imports_from_env = module_imports_from_env file;
      imports = module_imports file;
      import_types = λ f known called. ((imports_hold trees rules).each f known called).typed;
      exports = module_exports_all file;
      export_types = module_export_type file;
      memory = ap (λ n. memory_for n ∷ []) (params_are (called_in file) (exports_of file));
      globals = refl;
      no_table = refl;
      no_start = refl;
      no_elements = refl;
      no_datas = refl;
    }
