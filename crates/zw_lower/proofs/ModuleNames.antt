-- What the module of a file imports and exports, by name.
use Rattle.std.proofs.Common.{◌≡◌, ℕ, suc, Bool, true, false, cond, List, [], ◌∷◌, ◌++◌, length, map, codes, refl, ap, ◌∙◌}
use Rattle.std.specs.Str.{bytes_eq}
use Rattle.std.proofs.lemmas.List.{map-append}
use Rattle.zw_form.specs.Programs.{called_in, import_of, import_named, function_of, program_of}
use Rattle.zw_form.specs.Rules.{externs_of, exports_of}
use Rattle.zw_form.specs.declared.program.Import.{Import}
use Rattle.zw_form.specs.declared.source.Declaration.{Declaration}
use Rattle.zw_form.specs.declared.source.ExportedFunction.{ExportedFunction}
use Rattle.zw_form.specs.declared.source.ExternFunction.{ExternFunction}
use Rattle.zw_lower.proofs.FileNames.{names_of_exports, state_names}
use Rattle.zw_lower.proofs.NameLemmas.{same_name}
use Rattle.zw_lower.specs.Modules.{imports_from, exports_from, state_exports, module_of}
use Rattle.zw_wasm.specs.declared.module.ExportDef.{ExportDef}
use Rattle.zw_wasm.specs.declared.module.FuncImport.{FuncImport}

-- an import has the name that it is looked up by
named_at : (b : Bool) (f : ExternFunction) (other : Import) (name : List ℕ) → bytes_eq f.name name ≡ b → other.name ≡ name → (cond b (import_of f) other).name ≡ name
named_at true f other name e h = same_name f.name name e
named_at false f other name e h = h

pub import_is_named : (externs : List ExternFunction) (name : List ℕ) → (import_named externs name).name ≡ name
import_is_named [] name = refl
import_is_named (f ∷ externs) name = named_at (bytes_eq f.name name) f (import_named externs name) name refl (import_is_named externs name)

fields_are : (k : ℕ) (externs : List ExternFunction) (names : List (List ℕ)) → map (λ (i : FuncImport). i.field) (imports_from k (map (import_named externs) names)) ≡ names
fields_are k externs [] = refl
fields_are k externs (name ∷ names) =
    ap (λ (n : List ℕ). n ∷ map (λ (i : FuncImport). i.field) (imports_from (suc k) (map (import_named externs) names))) (import_is_named externs name)
    ∙ ap (λ (ns : List (List ℕ)). name ∷ ns) (fields_are (suc k) externs names)

modules_are : {X : Type 0} (k : ℕ) (named : X → Import) (xs : List X) → map (λ (i : FuncImport). i.module) (imports_from k (map named xs)) ≡ map (λ x. codes "env") xs
modules_are k named [] = refl
modules_are k named (x ∷ xs) = ap (λ (names : List (List ℕ)). codes "env" ∷ names) (modules_are (suc k) named xs)

pub module_imports_from_env : (file : List Declaration) → map (λ (i : FuncImport). i.module) (module_of (program_of file)).imports ≡ map (λ name. codes "env") (called_in file)
module_imports_from_env file = modules_are 0 (import_named (externs_of file)) (called_in file)

pub module_imports : (file : List Declaration) → map (λ (i : FuncImport). i.field) (module_of (program_of file)).imports ≡ called_in file
module_imports file = fields_are 0 (externs_of file) (called_in file)

export_names_are : (k : ℕ) (imports : List (List ℕ)) (functions : List ExportedFunction) → map (λ (e : ExportDef). e.name) (exports_from k (map (function_of imports) functions)) ≡ map (λ (f : ExportedFunction). f.name) functions
export_names_are k imports [] = refl
export_names_are k imports (f ∷ functions) = ap (λ (names : List (List ℕ)). f.name ∷ names) (export_names_are (suc k) imports functions)

pub module_exports : (file : List Declaration) → map (λ (e : ExportDef). e.name) (module_of (program_of file)).exports ≡ names_of_exports file ++ state_names
module_exports file =
    let p = program_of file in
    map-append (λ (e : ExportDef). e.name) (exports_from (length p.imports) p.functions) state_exports
    ∙ ap (λ (names : List (List ℕ)). names ++ state_names) (export_names_are (length p.imports) (called_in file) (exports_of file))
