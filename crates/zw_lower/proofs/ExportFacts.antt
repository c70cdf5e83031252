-- What the module of a file exports: the file's functions under their names, and then the state of a panic.
use Rattle.std.proofs.Common.{◌≡◌, ℕ, suc, ◌+◌, ◌-◌, Bool, true, false, cond, List, [], ◌∷◌, ◌++◌, length, map, Some, All, Contains, codes, refl, ap, ◌∙◌, arith}
use Rattle.std.specs.Prelude.{nat_lt, slice_get}
use Rattle.std.specs.Str.{bytes_eq}
use Rattle.std.proofs.lemmas.Bool.{le-ltb}
use Rattle.std.proofs.lemmas.List.Elements.{All-nil, All-cons, All-head, All-tail}
use Rattle.std.proofs.lemmas.Option.{same_Some}
use Rattle.zw_form.specs.Form.{FitsStep, IsSmall}
use Rattle.zw_form.specs.Programs.{called_in, function_of}
use Rattle.zw_form.specs.Rules.{externs_of, exports_of, steps_of, IsKnown, KeepsSteps, KeepsRules}
use Rattle.zw_form.specs.Source.{Exported, export_named}
use Rattle.zw_form.specs.Trees.{Body, Tree, Extern, Export, body_steps, body_callees, declaration_of}
use Rattle.zw_form.specs.declared.program.Function.{Function}
use Rattle.zw_form.specs.declared.source.ExportedFunction.{ExportedFunction}
use Rattle.zw_lower.specs.Modules.{body_of, number_type, exports_from, state_exports}
use Rattle.zw_lower.proofs.FileCalls.{callees_are_imported}
use Rattle.zw_lower.proofs.FileImports.{file_program, file_module}
use Rattle.zw_lower.proofs.ListLemmas.{All-at, slice_get-map_some}
use Rattle.zw_lower.proofs.ModuleTypes.{length-imports_from, type_of_function}
use Rattle.zw_lower.proofs.NameLemmas.{same_name}
use Rattle.zw_wasm.specs.declared.module.ExportDef.{ExportDef}
use Rattle.zw_wasm.specs.declared.module.TheConstants.ExportDef.{FUNC, GLOBAL}
use Rattle.zw_wasm.specs.Functions.{func_type}
use Rattle.zw_wasm.specs.ModuleMachine.{export_in}

-- an exported function with this name, in steps
abbrev pub in_steps : List ℕ → Exported → ExportedFunction
in_steps name f = record { name = name; params = f.params; callees = body_callees f.body; steps = body_steps f.body }

-- The function with this name stands at a place among the exported ones, and it is exported under its name with the number
-- of that place, from k on.
record StandsAt (trees : List Tree) (imports : List (List ℕ)) (behind : List ExportDef) (name : List ℕ) (f : Exported) (k : ℕ) : Type 0 where
  place : ℕ
  there : slice_get (exports_of (map declaration_of trees)) place ≡ Some (in_steps name f)
  exported : export_in FUNC name (exports_from k (map (function_of imports) (exports_of (map declaration_of trees))) ++ behind) ≡ Some (k + place)

-- with an exported function before it, which has this name or doesn't
stands_behind : (own : List ℕ) (params : List (List ℕ)) (body : Body) (trees : List Tree) (imports : List (List ℕ)) (behind : List ExportDef) (name : List ℕ) (f : Exported) (k : ℕ) → (export_named trees name ≡ Some f → StandsAt trees imports behind name f (suc k)) → (b : Bool) → bytes_eq own name ≡ b → cond b (Some (record { params = params; body = body })) (export_named trees name) ≡ Some f → StandsAt (Export own params body ∷ trees) imports behind name f k
stands_behind own params body trees imports behind name f k others true e h =
    let others_in = export_in FUNC name (exports_from (suc k) (map (function_of imports) (exports_of (map declaration_of trees))) ++ behind) in
    let same : record { params = params; body = body } ≡ f = same_Some _ _ h in
    let count : k ≡ k + 0 = omega arith in
    record {
      place = 0;
      there = ap (λ n. Some (in_steps n (record { params = params; body = body }))) (same_name own name e) ∙ ap (λ g. Some (in_steps name g)) same;
      exported = ap (λ b. cond b (Some k) others_in) e ∙ ap (λ n. Some n) count;
    }
stands_behind own params body trees imports behind name f k others false e h =
    let others_in = export_in FUNC name (exports_from (suc k) (map (function_of imports) (exports_of (map declaration_of trees))) ++ behind) in
    let r = others h in
    let count : suc k + r.place ≡ k + suc r.place = omega arith in
    record {
      place = suc r.place;
      there = r.there;
      exported = ap (λ b. cond b (Some k) others_in) e ∙ r.exported ∙ ap (λ n. Some n) count;
    }

stands_at : (trees : List Tree) (imports : List (List ℕ)) (behind : List ExportDef) (name : List ℕ) (f : Exported) (k : ℕ) → export_named trees name ≡ Some f → StandsAt trees imports behind name f k
stands_at [] imports behind name f k h = absurd (cc)
stands_at (Extern g ∷ trees) imports behind name f k h =
    let r = stands_at trees imports behind name f k h in
    record { place = r.place; there = r.there; exported = r.exported }
stands_at (Export own params body ∷ trees) imports behind name f k h =
    stands_behind own params body trees imports behind name f k (λ e. stands_at trees imports behind name f (suc k) e) (bytes_eq own name) refl h

-- what is exported as a global isn't among the functions
globals_behind : (k : ℕ) (functions : List Function) (behind : List ExportDef) (name : List ℕ) → export_in GLOBAL name (exports_from k functions ++ behind) ≡ export_in GLOBAL name behind
globals_behind k [] behind name = refl
globals_behind k (f ∷ functions) behind name = globals_behind (suc k) functions behind name

-- the globals that hold a panic's state are exported
pub cause_exported : (trees : List Tree) → export_in GLOBAL (codes "panic_cause") (file_module trees).exports ≡ Some 0
cause_exported trees = globals_behind (length (file_program trees).imports) (file_program trees).functions state_exports (codes "panic_cause")

pub pointer_exported : (trees : List Tree) → export_in GLOBAL (codes "panic_ptr") (file_module trees).exports ≡ Some 1
pointer_exported trees = globals_behind (length (file_program trees).imports) (file_program trees).functions state_exports (codes "panic_ptr")

pub count_exported : (trees : List Tree) → export_in GLOBAL (codes "panic_len") (file_module trees).exports ≡ Some 2
count_exported trees = globals_behind (length (file_program trees).imports) (file_program trees).functions state_exports (codes "panic_len")

-- An exported function of the file as the module has it, and what it keeps of the rules.
pub record IsBuilt (trees : List Tree) (name : List ℕ) (f : Exported) : Type 0 where
  pub number : ℕ
  pub exported : export_in FUNC name (file_module trees).exports ≡ Some number
  pub own : nat_lt number (length (file_module trees).imports) ≡ false
  pub body : slice_get (file_module trees).codes (number - length (file_module trees).imports) ≡ Some (body_of (function_of (called_in (map declaration_of trees)) (in_steps name f)))
  pub typed : func_type (file_module trees) number ≡ Some (number_type (length f.params) true)
  pub known : All (IsKnown (externs_of (map declaration_of trees)) f.params) (body_steps f.body)
  pub fit : All FitsStep (body_steps f.body)
  pub imported : All (Contains (called_in (map declaration_of trees))) (body_callees f.body)

exports_fit : (trees : List Tree) → All (λ (t : Tree). All FitsStep (steps_of (declaration_of t))) trees → All (λ (f : ExportedFunction). All FitsStep f.steps) (exports_of (map declaration_of trees))
exports_fit [] h = All-nil (λ (f : ExportedFunction). All FitsStep f.steps)
exports_fit (Extern g ∷ trees) h = exports_fit trees (All-tail (λ (t : Tree). All FitsStep (steps_of (declaration_of t))) (Extern g) trees h)
exports_fit (Export name params body ∷ trees) h =
    let P = λ (t : Tree). All FitsStep (steps_of (declaration_of t)) in
    All-cons (λ (f : ExportedFunction). All FitsStep f.steps) (in_steps name (record { params = params; body = body })) (exports_of (map declaration_of trees)) (All-head P (Export name params body) trees h) (exports_fit trees (All-tail P (Export name params body) trees h))

built_at : (trees : List Tree) (name : List ℕ) (f : Exported) → KeepsRules (map declaration_of trees) → IsSmall trees → StandsAt trees (called_in (map declaration_of trees)) state_exports name f (length (file_program trees).imports) → IsBuilt trees name f
built_at trees name f rules small r =
    let p = file_program trees in
    let n = length p.imports in
    let imports = called_in (map declaration_of trees) in
    let behind : n + r.place ≡ length (file_module trees).imports + r.place = omega (arith, length-imports_from 0 p.imports) in
    let count : n + r.place - length (file_module trees).imports ≡ r.place = omega (arith, length-imports_from 0 p.imports) in
    let there : slice_get p.functions r.place ≡ Some (function_of imports (in_steps name f)) = slice_get-map_some (function_of imports) (exports_of (map declaration_of trees)) r.place (in_steps name f) r.there in
    record {
      number = n + r.place;
      exported = r.exported;
      own = le-ltb (n + r.place) (length (file_module trees).imports) (omega (arith, length-imports_from 0 p.imports));
      body = ap (slice_get (file_module trees).codes) count ∙ slice_get-map_some body_of p.functions r.place (function_of imports (in_steps name f)) there;
      typed = ap (func_type (file_module trees)) behind ∙ type_of_function p r.place (function_of imports (in_steps name f)) there;
      known = (All-at (KeepsSteps (externs_of (map declaration_of trees))) (exports_of (map declaration_of trees)) r.place (in_steps name f) rules.steps r.there).steps_are_known;
      fit = All-at (λ (g : ExportedFunction). All FitsStep g.steps) (exports_of (map declaration_of trees)) r.place (in_steps name f) (exports_fit trees small.numbers_fit) r.there;
      imported = All-at (λ (g : ExportedFunction). All (Contains imports) g.callees) (exports_of (map declaration_of trees)) r.place (in_steps name f) (callees_are_imported (map declaration_of trees)) r.there;
    }

-- Each exported function of a file that keeps the rules is built.
pub is_built : (trees : List Tree) (name : List ℕ) (f : Exported) → KeepsRules (map declaration_of trees) → IsSmall trees → export_named trees name ≡ Some f → IsBuilt trees name f
is_built trees name f rules small e =
    built_at trees name f rules small (stands_at trees (called_in (map declaration_of trees)) state_exports name f (length (file_program trees).imports) e)
