-- The module of a file is valid.
use Rattle.std.proofs.Common.{◌≡◌, ℕ, zero, suc, ◌+◌, ◌*◌, ◌≤◌, Bool, true, false, ◌&&◌, List, [], ◌∷◌, length, map, take, get_or, Option, Some, None, All, refl, sym, ap, ◌∙◌, subst, arith, length-append}
use Rattle.std.specs.Prelude.{slice_get, nat_lt, nat_eq}
use Rattle.std.specs.List.{AllByRecursion, list_any}
use Rattle.std.specs.Str.{bytes_eq}
use Rattle.std.proofs.lemmas.Bool.{cond-true, lt-ltb, le-leb, eq-eqb, and_from, or_from, not_from_false}
use Rattle.std.proofs.lemmas.List.{length-map}
use Rattle.std.proofs.lemmas.List.Elements.{All-from_recursion, All-map, All-head, All-tail}
use Rattle.zw_form.specs.Form.{IsSmall}
use Rattle.zw_form.specs.Members.{weight_of}
use Rattle.zw_form.specs.Programs.{called_in, function_of}
use Rattle.zw_form.specs.Rules.{KeepsRules, externs_of, exports_of}
use Rattle.zw_form.specs.Trees.{Tree, Extern, Export, declaration_of}
use Rattle.zw_form.specs.declared.program.Function.{Function}
use Rattle.zw_form.specs.declared.program.Import.{Import}
use Rattle.zw_form.specs.declared.program.Program.{Program}
use Rattle.zw_lower.proofs.BodyTypes.{body_is_accepted}
use Rattle.zw_lower.proofs.FileCalls.{exports_have_bodies, calls_are_imported}
use Rattle.zw_lower.proofs.FileImports.{file_program, file_module, imports_hold}
use Rattle.zw_lower.proofs.FileNames.{Differ, exported_names_differ}
use Rattle.zw_lower.proofs.ListLemmas.{all-append, All-at, slice_get-map_some}
use Rattle.zw_lower.proofs.ModuleNames.{module_exports}
use Rattle.zw_lower.proofs.ModuleTypes.{length-numbers_from, length-imports_from, type_of_function}
use Rattle.zw_lower.specs.Modules.{import_type, function_type, imports_from, numbers_from, exports_from, state_exports, zero_global, most_params, pages_for, memory_for, body_of, module_of}
use Rattle.zw_lower.specs.Views.{view_of}
use Rattle.zw_safety.specs.Checked.{IsNumberGlobal, PanicStateIsTyped}
use Rattle.zw_wasm.specs.declared.module.ExportDef.{ExportDef}
use Rattle.zw_wasm.specs.declared.module.FuncImport.{FuncImport}
use Rattle.zw_wasm.specs.declared.module.Limits.{Limits}
use Rattle.zw_wasm.specs.declared.module.Module.{Module}
use Rattle.zw_wasm.specs.Functions.{func_type, func_count}
use Rattle.zw_wasm.specs.Validity.{IsValid, Violation, imports_section, functions_section, memories_section, exports_section, first_refused, outside, or_then, memory_ok, max_pages, export_is_there, export_ok, check_body, in_body, bodies_violation, codes_violation, outside_violation}

-- ---- lists of which each entry passes

first_refused-none : {X : Type 0} (ok : ℕ → X → Bool) (k : ℕ) (xs : List X) → ((j : ℕ) (x : X) → slice_get xs j ≡ Some x → ok (k + j) x ≡ true) → first_refused ok k xs ≡ None
first_refused-none ok k [] h = refl
first_refused-none {X} ok k (x ∷ xs) h =
    let here : k ≡ k + 0 = omega arith in
    let others : (j : ℕ) (y : X) → slice_get xs j ≡ Some y → ok (suc k + j) y ≡ true = λ j y is. let at : suc k + j ≡ k + suc j = omega arith in ap (λ n. ok n y) at ∙ h (suc j) y is in
    cond-true (ok k x) (first_refused ok (suc k) xs) (Some k) (ap (λ n. ok n x) here ∙ h 0 x refl) ∙ first_refused-none ok (suc k) xs others

imports_pass : (n j k : ℕ) (imports : List Import) → k + length imports ≤ n → first_refused (λ k (i : FuncImport). nat_lt i.ty n) j (imports_from k imports) ≡ None
imports_pass n j k [] h = refl
imports_pass n j k (i ∷ imports) h =
    let rest = first_refused (λ k (i : FuncImport). nat_lt i.ty n) (suc j) (imports_from (suc k) imports) in
    cond-true (nat_lt k n) rest (Some j) (lt-ltb k n (omega (arith, h))) ∙ imports_pass n (suc j) (suc k) imports (omega (arith, h))

numbers_pass : {X : Type 0} (n j k : ℕ) (xs : List X) → k + length xs ≤ n → first_refused (λ k ty. nat_lt ty n) j (numbers_from k xs) ≡ None
numbers_pass n j k [] h = refl
numbers_pass n j k (x ∷ xs) h =
    let rest = first_refused (λ k ty. nat_lt ty n) (suc j) (numbers_from (suc k) xs) in
    cond-true (nat_lt k n) rest (Some j) (lt-ltb k n (omega (arith, h))) ∙ numbers_pass n (suc j) (suc k) xs (omega (arith, h))

-- ---- the memory

few_params : (imports : List (List ℕ)) (trees : List Tree) → All (λ (t : Tree). weight_of (declaration_of t) ≤ 131072) trees → most_params (map (function_of imports) (exports_of (map declaration_of trees))) ≤ 65536
few_params imports [] h = omega arith
few_params imports (Extern f ∷ trees) h = few_params imports trees (All-tail (λ (t : Tree). weight_of (declaration_of t) ≤ 131072) (Extern f) trees h)
few_params imports (Export name params body ∷ trees) h =
    let P : Tree → Type 0 = λ t. weight_of (declaration_of t) ≤ 131072 in
    let here : 8 * length params ≤ 131072 = All-head P (Export name params body) trees h in
    let others = few_params imports trees (All-tail P (Export name params body) trees h) in
    omega (arith, here, others)

few_pages : (params : ℕ) → params ≤ 65536 → pages_for params ≤ 65536
few_pages params h = omega arith

memory_passes : (params : ℕ) → params ≤ 65536 → memory_ok (memory_for params) ≡ true
memory_passes params h =
    let pages = pages_for params in
    let few = le-leb pages max_pages (few_pages params h) in
    let same : pages ≤ pages = omega arith in
    and_from _ _ (and_from _ _ few few) (le-leb pages pages same)

memories_pass : (params : ℕ) → params ≤ 65536 → first_refused (λ k (l : Limits). nat_eq k 0 && memory_ok l) 0 (memory_for params ∷ []) ≡ None
memories_pass params h = cond-true (memory_ok (memory_for params)) None (Some 0) (memory_passes params h)

-- ---- the exports

exports_there : (m : Module) (k : ℕ) (functions : List Function) → k + length functions ≤ func_count m → AllByRecursion (λ e. export_is_there m e ≡ true) (exports_from k functions)
exports_there m k [] h = tt
exports_there m k (f ∷ functions) h = (lt-ltb k (func_count m) (omega (arith, h)), exports_there m (suc k) functions (omega (arith, h)))

-- names that differ are none of those before
earlier_differ : (exports : List ExportDef) (j : ℕ) (e : ExportDef) → Differ (map (λ (e : ExportDef). e.name) exports) → slice_get exports j ≡ Some e → list_any (λ (earlier : ExportDef). bytes_eq earlier.name e.name) (take j exports) ≡ false
earlier_differ [] j e differ is = absurd (cc)
earlier_differ (x ∷ exports) zero e differ is = refl
earlier_differ (x ∷ exports) (suc j) e differ is =
    let names = map (λ (e : ExportDef). e.name) exports in
    let P : List ℕ → Type 0 = λ y. bytes_eq x.name y ≡ false in
    let named : slice_get names j ≡ Some e.name = slice_get-map_some (λ (e : ExportDef). e.name) exports j e is in
    or_from _ _ (All-at P names j e.name (All-from_recursion P names differ.0) named) (earlier_differ exports j e differ.1 is)

exports_pass : (m : Module) → Differ (map (λ (e : ExportDef). e.name) m.exports) → AllByRecursion (λ e. export_is_there m e ≡ true) m.exports → first_refused (export_ok m) 0 m.exports ≡ None
exports_pass m differ there =
    let P : ExportDef → Type 0 = λ e. export_is_there m e ≡ true in
    first_refused-none (export_ok m) 0 m.exports (λ j e is.
    let at : 0 + j ≡ j = omega arith in
    ap (λ n. export_ok m n e) at ∙ and_from _ _ (All-at P m.exports j e (All-from_recursion P m.exports there) is) (not_from_false _ (earlier_differ m.exports j e differ is)))

-- ---- bodies

bodies_pass : (m : Module) (k : ℕ) (functions : List Function) → ((j : ℕ) (g : Function) → slice_get functions j ≡ Some g → func_type m (length m.imports + (k + j)) ≡ Some (function_type g)) → All (λ g. check_body m (Some (function_type g)) (body_of g) ≡ None) functions → bodies_violation m k (map body_of functions) ≡ None
bodies_pass m k [] typed accepted = refl
bodies_pass m k (g ∷ functions) typed accepted =
    let P : Function → Type 0 = λ g. check_body m (Some (function_type g)) (body_of g) ≡ None in
    let rest = bodies_violation m (suc k) (map body_of functions) in
    let here : length m.imports + k ≡ length m.imports + (k + 0) = omega arith in
    let others : (j : ℕ) (h : Function) → slice_get functions j ≡ Some h → func_type m (length m.imports + (suc k + j)) ≡ Some (function_type h) = λ j h is.
    let at : length m.imports + (suc k + j) ≡ length m.imports + (k + suc j) = omega arith in ap (func_type m) at ∙ typed (suc j) h is in
    ap (λ t. or_then (in_body k (check_body m t (body_of g))) rest) (ap (func_type m) here ∙ typed 0 g refl)
    ∙ ap (λ p. or_then (in_body k p) rest) (All-head P g functions accepted)
    ∙ bodies_pass m (suc k) functions others (All-tail P g functions accepted)

number_global : (m : Module) (n : ℕ) → slice_get m.globals n ≡ Some zero_global → IsNumberGlobal m n
number_global m n there = record { global = zero_global; there = there; type_is = refl; mutable = refl }

panic_state : (p : Program) → PanicStateIsTyped (module_of p)
panic_state p = record { cause = number_global (module_of p) 0 refl; pointer = number_global (module_of p) 1 refl; count = number_global (module_of p) 2 refl }

file_bodies : (trees : List Tree) → KeepsRules (map declaration_of trees) → All (λ g. check_body (file_module trees) (Some (function_type g)) (body_of g) ≡ None) (file_program trees).functions
file_bodies trees rules =
    let file = map declaration_of trees in
    let m = file_module trees in
    let imports = called_in file in
    let exports = exports_of file in
    let accepted : All (λ f. check_body m (Some (function_type (function_of imports f))) (body_of (function_of imports f)) ≡ None) exports = λ k d within.
    let f = get_or exports k d in
    let is = exports_have_bodies trees k d within in
    let keeps = rules.steps k d within in
    body_is_accepted m (view_of trees m) (externs_of file) imports f is.body is.steps (panic_state (file_program trees)) (imports_hold trees rules) keeps.steps_are_known (calls_are_imported trees k d within) in
    All-map (λ g. check_body m (Some (function_type g)) (body_of g) ≡ None) (function_of imports) exports accepted

bodies_valid : (trees : List Tree) → KeepsRules (map declaration_of trees) → bodies_violation (file_module trees) 0 (file_module trees).codes ≡ None
bodies_valid trees rules =
    let p = file_program trees in
    let m = module_of p in
    let typed : (j : ℕ) (g : Function) → slice_get p.functions j ≡ Some g → func_type m (length m.imports + (0 + j)) ≡ Some (function_type g) = λ j g is.
    let at : length m.imports + (0 + j) ≡ length m.imports + j = omega arith in ap (func_type m) at ∙ type_of_function p j g is in
    bodies_pass m 0 p.functions typed (file_bodies trees rules)

-- ---- outside bodies

passes : (section : ℕ) (entry : Option ℕ) (next : Option Violation) → entry ≡ None → next ≡ None → or_then (outside section entry) next ≡ None
passes section entry next none others = ap (λ o. or_then (outside section o) next) none ∙ others

codes_pass : (p : Program) → codes_violation (module_of p) ≡ None
codes_pass p =
    let m = module_of p in
    cond-true (nat_eq (length m.codes) (length m.funcs)) None _ (eq-eqb _ _ (length-map p.functions body_of ∙ sym (length-numbers_from (length p.imports) p.functions)))

outside_valid : (p : Program) → most_params p.functions ≤ 65536 → Differ (map (λ (e : ExportDef). e.name) (module_of p).exports) → outside_violation (module_of p) ≡ None
outside_valid p few differ =
    let m = module_of p in
    let types : length m.types ≡ length p.imports + length p.functions = omega (arith, length-append (map import_type p.imports) (map function_type p.functions), length-map p.imports import_type, length-map p.functions function_type) in
    let count : func_count m ≡ length p.imports + length p.functions = omega (arith, length-imports_from 0 p.imports, length-numbers_from (length p.imports) p.functions) in
    let imports = imports_pass (length m.types) 0 0 p.imports (omega (arith, types)) in
    let functions = numbers_pass (length m.types) 0 (length p.imports) p.functions (omega (arith, types)) in
    let there : AllByRecursion (λ e. export_is_there m e ≡ true) m.exports = all-append (λ e. export_is_there m e ≡ true) (exports_from (length p.imports) p.functions) state_exports (exports_there m (length p.imports) p.functions (omega (arith, count))) (refl, (refl, (refl, (refl, tt)))) in
    passes imports_section _ _ imports
    (passes functions_section _ _ functions
    (passes memories_section _ _ (memories_pass (most_params p.functions) few)
    (passes exports_section _ _ (exports_pass m differ there)
    (ap (λ v. or_then v None) (codes_pass p)))))

-- ---- the module

pub module_valid : (trees : List Tree) → KeepsRules (map declaration_of trees) → IsSmall trees → IsValid (file_module trees)
module_valid trees rules small =
    let file = map declaration_of trees in
    let p = file_program trees in
    let m = file_module trees in
    let differ : Differ (map (λ (e : ExportDef). e.name) m.exports) = subst Differ (sym (module_exports file)) (exported_names_differ file rules) in
    let outer = outside_valid p (few_params (called_in file) trees small.weights_are_small) differ in
    record { none = ap (λ o. or_then o (bodies_violation m 0 m.codes)) outer ∙ bodies_valid trees rules }
