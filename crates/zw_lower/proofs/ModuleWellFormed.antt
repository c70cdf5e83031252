-- The module of a file has bytes.
use Rattle.std.proofs.Common.{◌≡◌, ℕ, suc, ◌<◌, ◌^◌, Bool, true, false, cond, List, [], ◌∷◌, length, map, codes, All, IsUtf8, refl, sym, ◌∙◌, subst, lit<}
use Rattle.std.specs.Prelude.{nat_lt}
use Rattle.std.specs.List.{AllByRecursion, flat_map, list_all, list_any}
use Rattle.std.proofs.lemmas.Bool.Decides.{Decides-by_and, Decides-ltb}
use Rattle.std.proofs.lemmas.List.{length-map}
use Rattle.std.proofs.lemmas.List.Elements.{All-contains, All-map, All-weaker, recursion_from_All}
use Rattle.std.proofs.lemmas.Str.{IsUtf8-from_ascii}
use Rattle.std.proofs.lemmas.Str.Ascii.{IsAscii-from_all}
use Rattle.zw_form.specs.Form.{IsSmall}
use Rattle.zw_form.specs.Programs.{called_in, import_named, function_of}
use Rattle.zw_form.specs.Rules.{KeepsRules, name_of, externs_of, exports_of, KeepsNames}
use Rattle.zw_form.specs.Trees.{Tree, declaration_of}
use Rattle.zw_form.specs.declared.program.Action.{Action}
use Rattle.zw_form.specs.declared.program.Action.TheVariants as action
use Rattle.zw_form.specs.declared.program.Function.{Function}
use Rattle.zw_form.specs.declared.source.ExportedFunction.{ExportedFunction}
use Rattle.zw_form.specs.declared.source.ExternFunction.{ExternFunction}
use Rattle.zw_lower.proofs.FileCalls.{IsNameOf, called_are_externs}
use Rattle.zw_lower.proofs.FileImports.{file_program, file_module}
use Rattle.zw_lower.proofs.FileNames.{exports_are, extern_is_named}
use Rattle.zw_lower.proofs.ListLemmas.{all-append}
use Rattle.zw_lower.proofs.ModuleNames.{import_is_named}
use Rattle.zw_lower.proofs.ModuleTypes.{length-numbers_from}
use Rattle.zw_lower.proofs.OnU32.{arithmetic-right}
use Rattle.zw_lower.specs.Modules.{action_code, writes_locals, body_of, imports_from, exports_from, state_exports}
use Rattle.zw_wasm.proofs.Closing.{closed-none, closed-then, closed-instr, closed-ends}
use Rattle.zw_wasm.specs.declared.module.Instr.TheVariants.{Call, LocalGet, I32Const}
use Rattle.zw_wasm.specs.declared.module.ValType.TheVariants.{I32, I64}
use Rattle.zw_wasm.specs.ModuleBytes.{local_count}
use Rattle.zw_wasm.specs.WellFormed.{IsClosed, IsWellFormed, HasNames, IsWellFormedExport, IsWellFormedCode}

-- ---- bodies

action_closed : (scratch : ℕ) (a : Action) → IsClosed (action_code scratch a)
action_closed scratch (action.Parameter n) = closed-instr (LocalGet n) refl
action_closed scratch (action.Number n) = closed-instr (I32Const _) refl
action_closed scratch (action.Operate operator) = (arithmetic-right operator scratch).closed
action_closed scratch (action.Call k) = closed-instr (Call k) refl

actions_closed : (scratch : ℕ) (actions : List Action) → IsClosed (flat_map (action_code scratch) actions)
actions_closed scratch [] = closed-none
actions_closed scratch (a ∷ actions) = closed-then (action_code scratch a) (flat_map (action_code scratch) actions) (action_closed scratch a) (actions_closed scratch actions)

few_locals : (b : Bool) → local_count (cond b ((4, I32) ∷ (4, I64) ∷ []) []) < 2 ^ 32
few_locals true = lit< tt
few_locals false = lit< tt

bodies_have_bytes : (functions : List Function) → AllByRecursion IsWellFormedCode (map body_of functions)
bodies_have_bytes [] = tt
bodies_have_bytes (f ∷ functions) =
    ((few_locals (list_any writes_locals f.actions), closed-ends (flat_map (action_code f.params) f.actions) (actions_closed f.params f.actions)), bodies_have_bytes functions)

-- ---- names

-- bytes below 128 are a text
is_text : (bytes : List ℕ) → list_all (λ b. nat_lt b 128) bytes ≡ true → IsUtf8 bytes
is_text bytes h =
    let small = (Decides-by_and (λ b. nat_lt b 128) (λ b. b < 128) (list_all (λ b. nat_lt b 128)) (λ b. Decides-ltb b 128) refl (λ x xs. refl) bytes).0 h in
    IsUtf8-from_ascii bytes (IsAscii-from_all bytes small)

env_is_text : IsUtf8 (codes "env")
env_is_text = is_text (codes "env") refl

states_have_bytes : AllByRecursion IsWellFormedExport state_exports
states_have_bytes =
    ((is_text (codes "memory") refl, lit< tt), ((is_text (codes "panic_cause") refl, lit< tt), ((is_text (codes "panic_ptr") refl, lit< tt), ((is_text (codes "panic_len") refl, lit< tt), tt))))

names_are_texts : (trees : List Tree) → KeepsRules (map declaration_of trees) → All IsUtf8 (map name_of (map declaration_of trees))
names_are_texts trees rules =
    let file = map declaration_of trees in
    All-map IsUtf8 name_of file (All-weaker (KeepsNames (map name_of file)) (λ d. IsUtf8 (name_of d)) (λ d names. names.name_is_text) file rules.names)

called_are_texts : (trees : List Tree) → KeepsRules (map declaration_of trees) → IsSmall trees → AllByRecursion IsUtf8 (called_in (map declaration_of trees))
called_are_texts trees rules small =
    let file = map declaration_of trees in
    let text = λ (name : List ℕ) (is : IsNameOf (externs_of file) name). subst IsUtf8 (sym is.name_is) (All-contains IsUtf8 (map name_of file) is.function.name (names_are_texts trees rules) (extern_is_named file is.function is.there)) in
    recursion_from_All IsUtf8 (called_in file) (All-weaker (IsNameOf (externs_of file)) IsUtf8 text (called_in file) (called_are_externs trees rules))

imports_have_bytes : (k : ℕ) (externs : List ExternFunction) (names : List (List ℕ)) → AllByRecursion IsUtf8 names → AllByRecursion HasNames (imports_from k (map (import_named externs) names))
imports_have_bytes k externs [] h = tt
imports_have_bytes k externs (name ∷ names) h = ((env_is_text, subst IsUtf8 (sym (import_is_named externs name)) h.0), imports_have_bytes (suc k) externs names h.1)

exports_have_bytes : (k : ℕ) (imports : List (List ℕ)) (functions : List ExportedFunction) → AllByRecursion IsUtf8 (map (λ (f : ExportedFunction). f.name) functions) → AllByRecursion IsWellFormedExport (exports_from k (map (function_of imports) functions))
exports_have_bytes k imports [] h = tt
exports_have_bytes k imports (f ∷ functions) h = ((h.0, lit< tt), exports_have_bytes (suc k) imports functions h.1)

-- ---- the module

pub module_well_formed : (trees : List Tree) → KeepsRules (map declaration_of trees) → IsSmall trees → IsWellFormed (file_module trees)
module_well_formed trees rules small =
    let file = map declaration_of trees in
    let p = file_program trees in
    let names = exports_are IsUtf8 file (recursion_from_All IsUtf8 (map name_of file) (names_are_texts trees rules)) in
    let exported = exports_have_bytes (length p.imports) (called_in file) (exports_of file) names in
    record {
      same_count = length-numbers_from (length p.imports) p.functions ∙ sym (length-map p.functions body_of);
      imports = imports_have_bytes 0 (externs_of file) (called_in file) (called_are_texts trees rules small);
      globals = (refl, (refl, (refl, tt)));
      exports = all-append IsWellFormedExport (exports_from (length p.imports) p.functions) state_exports exported states_have_bytes;
      elements = tt;
      codes = bodies_have_bytes p.functions;
      datas = tt;
    }
