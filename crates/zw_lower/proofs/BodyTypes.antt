-- The body of an exported function is accepted.
use Rattle.std.proofs.Common.{◌≡◌, ℕ, zero, suc, ◌+◌, ◌<◌, Bool, true, List, [], ◌∷◌, ◌++◌, length, map, replicate, get_or, Some, None, All, Contains, refl, sym, ap, ◌∙◌, subst, arith}
use Rattle.std.specs.Prelude.{slice_get}
use Rattle.std.specs.List.{flat_map, list_any}
use Rattle.std.proofs.lemmas.Bool.{cond-true}
use Rattle.std.proofs.lemmas.List.{length-replicate, get_or-replicate}
use Rattle.std.proofs.lemmas.List.Folds.{flat_map-map}
use Rattle.std.proofs.lemmas.Option.{slice_get_within, slice_get-get_or}
use Rattle.zw_names.specs.NameSets.{number_in}
use Rattle.zw_form.specs.Programs.{action_of, function_of}
use Rattle.zw_form.specs.Rules.{IsKnown}
use Rattle.zw_form.specs.Trees.{Body, body_steps}
use Rattle.zw_form.specs.declared.program.Action.{Action}
use Rattle.zw_form.specs.declared.source.ExportedFunction.{ExportedFunction}
use Rattle.zw_form.specs.declared.source.ExternFunction.{ExternFunction}
use Rattle.zw_form.specs.declared.source.Step.{Step}
use Rattle.zw_form.specs.declared.source.Step.TheVariants as step
use Rattle.zw_lower.proofs.CalledNames.{OfCall}
use Rattle.zw_lower.proofs.CodeTypes.{IsTyped, AreTyped, StepsTake, body_takes}
use Rattle.zw_lower.proofs.ListLemmas.{slice_get-append_left, slice_get-append_right, list_any-map_at}
use Rattle.zw_lower.proofs.NameLemmas.{number_is}
use Rattle.zw_lower.proofs.Running.{Imports, steps_code}
use Rattle.zw_lower.specs.Modules.{action_code, writes_locals, locals_of, number_type, body_of, function_type}
use Rattle.zw_safety.specs.Checked.{ScratchIsTyped, PanicStateIsTyped}
use Rattle.zw_wasm.specs.declared.module.Instr.{Instr}
use Rattle.zw_wasm.specs.declared.module.Instr.TheVariants.{End}
use Rattle.zw_wasm.specs.declared.module.Module.{Module}
use Rattle.zw_wasm.specs.declared.module.ValType.{ValType}
use Rattle.zw_wasm.specs.declared.module.ValType.TheVariants.{I32, I64}
use Rattle.zw_wasm.specs.Functions.{func_type}
use Rattle.zw_wasm.specs.Sequences.{Takes}
use Rattle.zw_wasm.specs.Signature.{View}
use Rattle.zw_wasm.specs.Typing.{Context, check_code, body_control}
use Rattle.zw_wasm.specs.Validity.{expanded, check_body}

-- what the code of a function stands in
abbrev context_of : Module → List (List ℕ) → List Action → Context
context_of m params actions = record { module_ = m; locals = replicate (length params) I32 ++ expanded (locals_of actions); returns = I32 ∷ [] }

-- ---- locals

param_is : (n k : ℕ) (others : List ValType) → k < n → slice_get (replicate n I32 ++ others) k ≡ Some I32
param_is n k others h =
    let params = replicate n I32 in
    let inside : k < length params = omega (arith, h, length-replicate n I32) in
    slice_get-append_left params others k inside
    ∙ slice_get-get_or params k I32 inside
    ∙ ap (λ (t : ValType). Some t) (get_or-replicate n k I32 I32 h)

abbrev eight : List ValType
eight = I32 ∷ I32 ∷ I32 ∷ I32 ∷ I64 ∷ I64 ∷ I64 ∷ I64 ∷ []

first_four : (k : ℕ) → k < 4 → slice_get eight k ≡ Some I32
first_four zero h = refl
first_four (suc zero) h = refl
first_four (suc (suc zero)) h = refl
first_four (suc (suc (suc zero))) h = refl
first_four (suc (suc (suc (suc k)))) h = absurd (omega (arith, h))

last_four : (k : ℕ) → k < 4 → slice_get eight (4 + k) ≡ Some I64
last_four zero h = refl
last_four (suc zero) h = refl
last_four (suc (suc zero)) h = refl
last_four (suc (suc (suc zero))) h = refl
last_four (suc (suc (suc (suc k)))) h = absurd (omega (arith, h))

scratch_is_typed : (n : ℕ) → ScratchIsTyped n (replicate n I32 ++ eight)
scratch_is_typed n =
    let params = replicate n I32 in
    let count : n ≡ length params = sym (length-replicate n I32) in
    record {
      first = λ k few. slice_get-append_right params eight n k count ∙ first_four k few;
      second = λ k few. let at : n + 4 + k ≡ n + (4 + k) = omega arith in ap (slice_get (params ++ eight)) at ∙ slice_get-append_right params eight n (4 + k) count ∙ last_four k few;
    }

-- ---- steps

step_is_typed : (m : Module) (v : View) (externs : List ExternFunction) (imports params : List (List ℕ)) (actions : List Action) (s : Step) → Imports m v externs imports → IsKnown externs params s → OfCall (Contains imports) s → (writes_locals (action_of imports params s) ≡ true → list_any writes_locals actions ≡ true) → IsTyped (context_of m params actions) imports params s
step_is_typed m v externs imports params actions (step.Parameter name) imported known called writes =
    param_is (length params) (number_in params name) (expanded (locals_of actions)) (slice_get_within params (number_in params name) name (number_is params name known))
step_is_typed m v externs imports params actions (step.Number n) imported known called writes = tt
step_is_typed m v externs imports params actions (step.Operate operator) imported known called writes = λ needs.
    let there : locals_of actions ≡ (4, I32) ∷ (4, I64) ∷ [] = cond-true (list_any writes_locals actions) ((4, I32) ∷ (4, I64) ∷ []) [] (writes needs) in
    subst (λ (runs : List (ℕ × ValType)). ScratchIsTyped (length params) (replicate (length params) I32 ++ expanded runs)) (sym there) (scratch_is_typed (length params))
step_is_typed m v externs imports params actions (step.Call callee) imported known called writes =
    let f = known.0 in
    let is = known.2 in
    let named : Contains imports f.name = subst (λ (name : List ℕ). Contains imports name) is.name called in
    ap (λ (name : List ℕ). func_type m (number_in imports name)) is.name
    ∙ (imported.each f known.1 named).typed
    ∙ ap (λ (n : ℕ). Some (number_type n f.has_result)) (sym is.args)
    ∙ ap (λ (b : Bool). Some (number_type callee.args b)) (sym is.has_result)

steps_are_typed : (m : Module) (v : View) (externs : List ExternFunction) (imports params : List (List ℕ)) (steps : List Step) → Imports m v externs imports → All (IsKnown externs params) steps → All (OfCall (Contains imports)) steps → All (IsTyped (context_of m params (map (action_of imports params) steps)) imports params) steps
steps_are_typed m v externs imports params steps imported known called = λ k d within.
    let s = get_or steps k d in
    let actions = map (action_of imports params) steps in
    step_is_typed m v externs imports params actions s imported (known k d within) (called k d within)
    (list_any-map_at writes_locals (action_of imports params) steps k d within)

-- ---- bodies

-- code that leaves one number is the body of a function that returns one
number_is_returned : (x : Context) (code : List Instr) → Takes x code [] (I32 ∷ []) → check_code x 0 (code ++ End ∷ []) [] (body_control (I32 ∷ [])) [] ≡ None
number_is_returned x code h = h.by 0 (End ∷ []) [] (body_control (I32 ∷ [])) []

pub body_is_accepted : (m : Module) (v : View) (externs : List ExternFunction) (imports : List (List ℕ)) (f : ExportedFunction) (b : Body) → f.steps ≡ body_steps b → PanicStateIsTyped m → Imports m v externs imports → All (IsKnown externs f.params) f.steps → All (OfCall (Contains imports)) f.steps → check_body m (Some (function_type (function_of imports f))) (body_of (function_of imports f)) ≡ None
body_is_accepted m v externs imports f b steps_are state imported known called =
    let actions = map (action_of imports f.params) f.steps in
    let x = context_of m f.params actions in
    let typed : AreTyped x imports f.params f.steps = record { state = state; each = steps_are_typed m v externs imports f.params f.steps imported known called } in
    let of_body : AreTyped x imports f.params (body_steps b) = subst (λ (steps : List Step). AreTyped x imports f.params steps) steps_are typed in
    let takes : StepsTake x imports f.params f.steps [] (I32 ∷ []) = subst (λ (steps : List Step). StepsTake x imports f.params steps [] (I32 ∷ [])) (sym steps_are) (body_takes x imports f.params b [] of_body) in
    let code_is : flat_map (action_code (length f.params)) actions ≡ steps_code imports f.params f.steps = flat_map-map (action_code (length f.params)) (action_of imports f.params) f.steps in
    number_is_returned x (flat_map (action_code (length f.params)) actions) (subst (λ (code : List Instr). Takes x code [] (I32 ∷ [])) (sym code_is) takes)
