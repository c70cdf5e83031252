-- What the exported functions of a file call: imports of its program, which are extern functions by the rules.
use Rattle.std.proofs.Common.{◌≡◌, ℕ, List, [], ◌∷◌, map, All, Contains, refl, sym, subst}
use Rattle.std.specs.List.{flat_map}
use Rattle.std.proofs.lemmas.List.Elements.{All-nil, All-cons, All-weaker, All-contains_itself}
use Rattle.zw_form.specs.Programs.{called_in}
use Rattle.zw_form.specs.Rules.{KeepsRules, KeepsSteps, IsKnown, externs_of, exports_of}
use Rattle.zw_form.specs.Trees.{Body, Tree, Extern, Export, body_steps, body_callees, declaration_of}
use Rattle.zw_form.specs.declared.source.Declaration.{Declaration}
use Rattle.zw_form.specs.declared.source.ExportedFunction.{ExportedFunction}
use Rattle.zw_form.specs.declared.source.ExternFunction.{ExternFunction}
use Rattle.zw_form.specs.declared.source.Step.{Step}
use Rattle.zw_form.specs.declared.source.Step.TheVariants as step
use Rattle.zw_lower.proofs.CalledNames.{OfCall, body_calls, body_called}
use Rattle.zw_lower.proofs.ListLemmas.{All-parts, All-joined}
use Rattle.zw_lower.proofs.NameLemmas.{name_is_kept, kept_are}

-- an exported function in steps, of a body
pub record IsOfBody (f : ExportedFunction) : Type 0 where
  pub body : Body
  pub callees : f.callees ≡ body_callees body
  pub steps : f.steps ≡ body_steps body

pub exports_have_bodies : (trees : List Tree) → All IsOfBody (exports_of (map declaration_of trees))
exports_have_bodies [] = All-nil IsOfBody
exports_have_bodies (Extern f ∷ trees) = exports_have_bodies trees
exports_have_bodies (Export name params body ∷ trees) =
    All-cons IsOfBody (record { name = name; params = params; callees = body_callees body; steps = body_steps body }) (exports_of (map declaration_of trees)) (record { body = body; callees = refl; steps = refl }) (exports_have_bodies trees)

abbrev callees_of : ExportedFunction → List (List ℕ)
callees_of f = f.callees

-- ---- what is called is imported

pub callees_are_imported : (file : List Declaration) → All (λ f. All (Contains (called_in file)) f.callees) (exports_of file)
callees_are_imported file =
    let names = flat_map callees_of (exports_of file) in
    let P = Contains (called_in file) in
    All-parts P callees_of (exports_of file) (All-weaker (Contains names) P (name_is_kept names) names (All-contains_itself names))

calls_of_callees : (P : List ℕ → Type 0) (f : ExportedFunction) → IsOfBody f → All P f.callees → All (OfCall P) f.steps
calls_of_callees P f is h =
    subst (λ (steps : List Step). All (OfCall P) steps) (sym is.steps) (body_calls P is.body (subst (λ (names : List (List ℕ)). All P names) is.callees h))

pub calls_are_imported : (trees : List Tree) → All (λ f. All (OfCall (Contains (called_in (map declaration_of trees)))) f.steps) (exports_of (map declaration_of trees))
calls_are_imported trees =
    let file = map declaration_of trees in
    λ k d within. calls_of_callees (Contains (called_in file)) _ (exports_have_bodies trees k d within) (callees_are_imported file k d within)

-- ---- what is imported is an extern function

-- the name of one of these functions
pub record IsNameOf (externs : List ExternFunction) (name : List ℕ) : Type 0 where
  pub function : ExternFunction
  pub there : Contains externs function
  pub name_is : name ≡ function.name

known_call : (externs : List ExternFunction) (params : List (List ℕ)) (s : Step) → IsKnown externs params s → OfCall (IsNameOf externs) s
known_call externs params (step.Parameter name) known = tt
known_call externs params (step.Number n) known = tt
known_call externs params (step.Operate operator) known = tt
known_call externs params (step.Call callee) known = record { function = known.0; there = known.1; name_is = known.2.name }

callees_of_calls : (P : List ℕ → Type 0) (f : ExportedFunction) → IsOfBody f → All (OfCall P) f.steps → All P f.callees
callees_of_calls P f is h =
    subst (λ (names : List (List ℕ)). All P names) (sym is.callees) (body_called P is.body (subst (λ (steps : List Step). All (OfCall P) steps) is.steps h))

pub called_are_externs : (trees : List Tree) → KeepsRules (map declaration_of trees) → All (IsNameOf (externs_of (map declaration_of trees))) (called_in (map declaration_of trees))
called_are_externs trees rules =
    let externs = externs_of (map declaration_of trees) in
    let exports = exports_of (map declaration_of trees) in
    let P = IsNameOf externs in
    let known = λ (f : ExportedFunction) (keeps : KeepsSteps externs f). All-weaker (IsKnown externs f.params) (OfCall P) (known_call externs f.params) f.steps keeps.steps_are_known in
    let calls = All-weaker (KeepsSteps externs) (λ f. All (OfCall P) f.steps) known exports rules.steps in
    let each : All (λ f. All P (callees_of f)) exports = λ k d within. callees_of_calls P _ (exports_have_bodies trees k d within) (calls k d within) in
    kept_are P [] (flat_map callees_of exports) (All-joined P callees_of exports each)
