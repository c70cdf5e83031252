-- The rules on names, on what is called, and on how.
use Rattle.std.specs.Prelude.{◌≡◌, ◌≢◌, ℕ, Bool, false, List, [], ◌∷◌, length, map, All, AllPairs, Contains, IsUtf8}
use Rattle.std.specs.List.{list_any, flat_map}
use Rattle.std.specs.Str.{bytes_eq}
use Rattle.zw_form.specs.declared.names.TheConstants.{RESERVED_NAMES}
use Rattle.zw_form.specs.declared.source.Callee.{Callee}
use Rattle.zw_form.specs.declared.source.Declaration.{Declaration}
use Rattle.zw_form.specs.declared.source.Declaration.TheVariants.{Extern, Export}
use Rattle.zw_form.specs.declared.source.ExportedFunction.{ExportedFunction}
use Rattle.zw_form.specs.declared.source.ExternFunction.{ExternFunction}
use Rattle.zw_form.specs.declared.source.Step.{Step}
use Rattle.zw_form.specs.declared.source.Step.TheVariants.{Parameter, Number, Operate, Call}

-- what a module exports beside its functions
abbrev pub is_reserved : List ℕ → Bool
is_reserved name = list_any (λ text. bytes_eq text.now name) RESERVED_NAMES

abbrev pub name_of : Declaration → List ℕ
name_of (Extern f) = f.name
name_of (Export f) = f.name

abbrev pub params_of : Declaration → List (List ℕ)
params_of (Extern f) = f.params
params_of (Export f) = f.params

-- the extern functions of a declaration: one or none
abbrev pub extern_of : Declaration → List ExternFunction
extern_of (Extern f) = f ∷ []
extern_of (Export f) = []

abbrev pub export_of : Declaration → List ExportedFunction
export_of (Extern f) = []
export_of (Export f) = f ∷ []

abbrev pub externs_of : List Declaration → List ExternFunction
externs_of file = flat_map extern_of file

abbrev pub exports_of : List Declaration → List ExportedFunction
exports_of file = flat_map export_of file

abbrev pub steps_of : Declaration → List Step
steps_of (Extern f) = []
steps_of (Export f) = f.steps

-- the parameter that a step reads: one or none
abbrev pub parameter_of : Step → List (List ℕ)
parameter_of (Parameter name) = name ∷ []
parameter_of (Number n) = []
parameter_of (Operate operator) = []
parameter_of (Call callee) = []

-- an extern function is called with as many arguments as it has parameters, for its result exactly where it has one
pub record IsCalled (callee : Callee) (f : ExternFunction) : Type 0 where
  pub name : callee.name ≡ f.name
  pub args : callee.args ≡ length f.params
  pub has_result : callee.has_result ≡ f.has_result

-- what a step names is there
abbrev pub IsKnown : List ExternFunction → List (List ℕ) → Step → Type 0
IsKnown externs params (Parameter name) = Contains params name
IsKnown externs params (Number n) = Unit {0}
IsKnown externs params (Operate operator) = Unit {0}
IsKnown externs params (Call callee) = (f : ExternFunction) × Contains externs f × IsCalled callee f

-- The rules on a function's names, among those of all functions: its name is UTF-8, and isn't of what a module exports beside
-- functions; the parameters' names differ from each other and from those of all functions.
pub record KeepsNames (functions : List (List ℕ)) (d : Declaration) : Type 0 where
  pub name_is_text : IsUtf8 (name_of d)
  pub name_is_unreserved : is_reserved (name_of d) ≡ false
  pub params_differ : AllPairs (λ x y. x ≢ y) (params_of d)
  pub params_differ_from_functions : All (λ param. ¬ Contains functions param) (params_of d)

-- The rules on what an exported function does: each name is a parameter, each call is of an extern function in its form,
-- and every parameter is mentioned.
pub record KeepsSteps (externs : List ExternFunction) (f : ExportedFunction) : Type 0 where
  pub steps_are_known : All (IsKnown externs f.params) f.steps
  pub params_are_mentioned : All (Contains (flat_map parameter_of f.steps)) f.params

-- all rules
pub record KeepsRules (file : List Declaration) : Type 0 where
  pub names_differ : AllPairs (λ x y. x ≢ y) (map name_of file)
  pub names : All (KeepsNames (map name_of file)) file
  pub steps : All (KeepsSteps (externs_of file)) (exports_of file)
