-- Programs: a file of the form with parameters and called functions by number.
use Rattle.std.specs.Prelude.{ℕ, false, List, [], ◌∷◌, length, map, if◌then◌else◌}
use Rattle.std.specs.List.{flat_map, list_any}
use Rattle.std.specs.Str.{bytes_eq}
use Rattle.zw_names.specs.NameSets.{number_in}
use Rattle.zw_form.specs.Rules.{externs_of, exports_of}
use Rattle.zw_form.specs.declared.source.Declaration.{Declaration}
use Rattle.zw_form.specs.declared.source.ExportedFunction.{ExportedFunction}
use Rattle.zw_form.specs.declared.source.ExternFunction.{ExternFunction}
use Rattle.zw_form.specs.declared.source.Step.{Step}
use Rattle.zw_form.specs.declared.source.Step.TheVariants as source
use Rattle.zw_form.specs.declared.program.Action.{Action}
use Rattle.zw_form.specs.declared.program.Action.TheVariants as action
use Rattle.zw_form.specs.declared.program.Function.{Function}
use Rattle.zw_form.specs.declared.program.Import.{Import}
use Rattle.zw_form.specs.declared.program.Program.{Program}

-- the names that aren't among the seen ones, each once, in the order in which they first come
abbrev pub first_of_each : List (List ℕ) → List (List ℕ) → List (List ℕ)
first_of_each seen [] = []
first_of_each seen (name ∷ names) =
    if list_any (bytes_eq name) seen then first_of_each seen names else name ∷ first_of_each (name ∷ seen) names

-- the functions that exports of the file call, each once, in the order of first reference
abbrev pub called_in : List Declaration → List (List ℕ)
called_in file = first_of_each [] (flat_map (λ (f : ExportedFunction). f.callees) (exports_of file))

-- an extern function that is imported
abbrev pub import_of : ExternFunction → Import
import_of f = record { name = f.name; params = length f.params; has_result = f.has_result }

-- the function with this name, as an import
abbrev pub import_named : List ExternFunction → List ℕ → Import
import_named [] name = record { name = name; params = 0; has_result = false }
import_named (f ∷ externs) name = if bytes_eq f.name name then import_of f else import_named externs name

abbrev pub action_of : List (List ℕ) → List (List ℕ) → Step → Action
action_of imports params (source.Parameter name) = action.Parameter (number_in params name)
action_of imports params (source.Number n) = action.Number n
action_of imports params (source.Operate operator) = action.Operate operator
action_of imports params (source.Call callee) = action.Call (number_in imports callee.name)

abbrev pub function_of : List (List ℕ) → ExportedFunction → Function
function_of imports f = record { name = f.name; params = length f.params; actions = map (action_of imports f.params) f.steps }

-- the program of a file
abbrev pub program_of : List Declaration → Program
program_of file = record {
  imports = map (import_named (externs_of file)) (called_in file);
  functions = map (function_of (called_in file)) (exports_of file);
}
