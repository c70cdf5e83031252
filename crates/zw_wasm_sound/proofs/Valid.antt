-- Valid: what a valid module's entries and bodies are.
use Rattle.std.proofs.Common.{◌≡◌, ℕ, zero, suc, ◌+◌, ◌<◌, Bool, true, false, cond, List, [], ◌∷◌, ◌++◌, length, map, Option, Some, None, refl, sym, ap, subst, ◌∙◌, arith}
use Rattle.std.specs.Prelude.{◌&&◌, min, nat_eq, nat_lt, slice_get}
use Rattle.std.specs.Option.{option_to_list}
use Rattle.std.proofs.lemmas.Bool.{eqb-true, ltb-true}
use Rattle.std.proofs.lemmas.List.{length-append, length-map}
use Rattle.zw_wasm.specs.declared.module.CodeBody.{CodeBody}
use Rattle.zw_wasm.specs.declared.module.FuncImport.{FuncImport}
use Rattle.zw_wasm.specs.declared.module.FuncType.{FuncType}
use Rattle.zw_wasm.specs.declared.module.Instr.{Instr}
use Rattle.zw_wasm.specs.declared.module.Limits.{Limits}
use Rattle.zw_wasm.specs.declared.module.Module.{Module}
use Rattle.zw_wasm.specs.declared.module.ValType.{ValType}
use Rattle.zw_wasm.specs.Functions.{func_count, func_type, func_type_indices, type_at}
use Rattle.zw_wasm.specs.Structure.{Part, code_of, first_part, parts}
use Rattle.zw_wasm.specs.Typing.{Context, Place, body_control, check_code}
use Rattle.zw_wasm.specs.Validity.{IsValid, Violation, Outside, bodies_violation, check_body, codes_section, datas_section, elements_section, exports_section, functions_section, globals_section, imports_section, memories_section, tables_section, codes_violation, data_ok, expanded, element_ok, export_ok, global_ok, in_limits, memory_ok, start_violation, first_refused, in_body, or_then, outside, outside_violation}
use Rattle.zw_wasm_sound.specs.Rules.{IsTypedCode}
use Rattle.zw_wasm_sound.proofs.Entering.{HasTypedBodies, is_there}
use Rattle.zw_wasm_sound.proofs.Parts.{AreTypedParts, parts-typed}

-- ---- one violation or another

or_then-none : (a b : Option Violation) → or_then a b ≡ None → (a ≡ None) × (b ≡ None)
or_then-none None b e = (refl, e)
or_then-none (Some v) b e = absurd (cc)

outside-none : (section : ℕ) (o : Option ℕ) → outside section o ≡ None → o ≡ None
outside-none section None e = refl
outside-none section (Some entry) e = absurd (cc)

-- an entry of a list in which none is refused has passed, under some number
abbrev pub Passes : {A : Type 0} → (ℕ → A → Bool) → List A → Type 0
Passes {A} ok xs = (i : ℕ) (y : A) → slice_get xs i ≡ Some y → (n : ℕ) × (ok n y ≡ true)

first-passes : {A : Type 0} (ok : ℕ → A → Bool) (k : ℕ) (x : A) (xs : List A) (o : Option ℕ) → (o ≡ None → Passes ok xs) → (b : Bool) → ok k x ≡ b → cond b o (Some k) ≡ None → Passes ok (x ∷ xs)
first-passes ok k x xs o go false same h i y e = absurd (cc)
first-passes ok k x xs o go true same h zero y e = let one : x ≡ y = cc in (k, ap (ok k) (sym one) ∙ same)
first-passes ok k x xs o go true same h (suc i) y e = go h i y e

none-refused : {A : Type 0} (ok : ℕ → A → Bool) (k : ℕ) (xs : List A) → first_refused ok k xs ≡ None → Passes ok xs
none-refused ok k [] h i y e = absurd (cc)
none-refused ok k (x ∷ xs) h i y e =
    first-passes ok k x xs (first_refused ok (suc k) xs) (none-refused ok (suc k) xs) (ok k x) refl h i y e

-- ---- what stands outside bodies

abbrev import_ok : Module → ℕ → FuncImport → Bool
import_ok m k i = nat_lt i.ty (length m.types)

abbrev func_ok : Module → ℕ → ℕ → Bool
func_ok m k ty = nat_lt ty (length m.types)

pub record HasEntries (m : Module) : Type 0 where
  pub imports : Passes (import_ok m) m.imports
  pub funcs : Passes (func_ok m) m.funcs
  pub exports : Passes (export_ok m) m.exports
  pub elements : Passes (λ k. element_ok m) m.elements
  pub count : length m.codes ≡ length m.funcs

same-count : (m : Module) → codes_violation m ≡ None → length m.codes ≡ length m.funcs
same-count m h = by_count (nat_eq (length m.codes) (length m.funcs)) refl h
  where
    by_count : (b : Bool) → nat_eq (length m.codes) (length m.funcs) ≡ b → cond b None (Some (Outside codes_section (min (length m.codes) (length m.funcs)))) ≡ None → length m.codes ≡ length m.funcs
    by_count true e h = eqb-true (length m.codes) (length m.funcs) e
    by_count false e h = absurd (cc)

-- the violations from each section on
abbrev from_datas : Module → Option Violation
from_datas m = outside datas_section (first_refused (λ k. data_ok m) 0 m.datas)

abbrev from_codes : Module → Option Violation
from_codes m = or_then (codes_violation m) (from_datas m)

abbrev from_elements : Module → Option Violation
from_elements m = or_then (outside elements_section (first_refused (λ k. element_ok m) 0 m.elements)) (from_codes m)

abbrev from_start : Module → Option Violation
from_start m = or_then (start_violation m m.start) (from_elements m)

abbrev from_exports : Module → Option Violation
from_exports m = or_then (outside exports_section (first_refused (export_ok m) 0 m.exports)) (from_start m)

abbrev globals_violation : Module → Option Violation
globals_violation m = outside globals_section (first_refused (λ k. global_ok) 0 m.globals)

abbrev memories_violation : Module → Option Violation
memories_violation m = outside memories_section (first_refused (λ k (l : Limits). nat_eq k 0 && memory_ok l) 0 m.memories)

abbrev tables_violation : Module → Option Violation
tables_violation m = outside tables_section (first_refused (λ k (l : Limits). nat_eq k 0 && in_limits l.least l.greatest) 0 m.tables)

abbrev from_memories : Module → Option Violation
from_memories m = or_then (memories_violation m) (or_then (globals_violation m) (from_exports m))

abbrev funcs_violation : Module → Option Violation
funcs_violation m = outside functions_section (first_refused (func_ok m) 0 m.funcs)

abbrev imports_violation : Module → Option Violation
imports_violation m = outside imports_section (first_refused (import_ok m) 0 m.imports)

has-entries : (m : Module) → outside_violation m ≡ None → HasEntries m
has-entries m h =
    let a = or_then-none (imports_violation m) (or_then (funcs_violation m) (or_then (tables_violation m) (from_memories m))) h in
    let b = or_then-none (funcs_violation m) (or_then (tables_violation m) (from_memories m)) a.1 in
    let c = or_then-none (tables_violation m) (from_memories m) b.1 in
    let d = or_then-none (memories_violation m) (or_then (globals_violation m) (from_exports m)) c.1 in
    let e = or_then-none (globals_violation m) (from_exports m) d.1 in
    let f = or_then-none (outside exports_section (first_refused (export_ok m) 0 m.exports)) (from_start m) e.1 in
    let g = or_then-none (start_violation m m.start) (from_elements m) f.1 in
    let i = or_then-none (outside elements_section (first_refused (λ k. element_ok m) 0 m.elements)) (from_codes m) g.1 in
    let j = or_then-none (codes_violation m) (from_datas m) i.1 in
    record {
      imports = none-refused (import_ok m) 0 m.imports (outside-none imports_section (first_refused (import_ok m) 0 m.imports) a.0);
      funcs = none-refused (func_ok m) 0 m.funcs (outside-none functions_section (first_refused (func_ok m) 0 m.funcs) b.0);
      exports = none-refused (export_ok m) 0 m.exports (outside-none exports_section (first_refused (export_ok m) 0 m.exports) f.0);
      elements = none-refused (λ k. element_ok m) 0 m.elements (outside-none elements_section (first_refused (λ k. element_ok m) 0 m.elements) i.0);
      count = same-count m j.0;
    }

-- ---- bodies

in_body-none : (f : ℕ) (o : Option Place) → in_body f o ≡ None → o ≡ None
in_body-none f None e = refl
in_body-none f (Some p) e = absurd (cc)

bodies-none : (m : Module) (f : ℕ) (bs : List CodeBody) → bodies_violation m f bs ≡ None → (k : ℕ) (b : CodeBody) → slice_get bs k ≡ Some b → check_body m (func_type m (length m.imports + (f + k))) b ≡ None
bodies-none m f [] h k b e = absurd (cc)
bodies-none m f (x ∷ bs) h zero b e =
    let both = or_then-none (in_body f (check_body m (func_type m (length m.imports + f)) x)) (bodies_violation m (suc f) bs) h in
    let one : x ≡ b = cc in
    let same : f ≡ f + 0 = omega arith in
    ap (λ y. check_body m (func_type m (length m.imports + (f + 0))) y) (sym one)
    ∙ ap (λ n. check_body m (func_type m (length m.imports + n)) x) (sym same)
    ∙ in_body-none f (check_body m (func_type m (length m.imports + f)) x) both.0
bodies-none m f (x ∷ bs) h (suc k) b e =
    let both = or_then-none (in_body f (check_body m (func_type m (length m.imports + f)) x)) (bodies_violation m (suc f) bs) h in
    let same : f + suc k ≡ suc f + k = omega arith in
    ap (λ n. check_body m (func_type m (length m.imports + n)) b) same ∙ bodies-none m (suc f) bs both.1 k b e

first-part : (x : Context) (results : List ValType) (ps : List Part) → AreTypedParts x ps [] (body_control results) [] → IsTypedCode x (results ∷ []) results (first_part ps).code []
first-part x results [] h = absurd h
first-part x results (p ∷ ps) h = h.0 [] refl refl

pub code-typed : (x : Context) (results : List ValType) (is : List Instr) → check_code x 0 is [] (body_control results) [] ≡ None → IsTypedCode x (results ∷ []) results (code_of is) []
code-typed x results is h = first-part x results (parts is) (parts-typed x 0 is [] (body_control results) [] h)

bodies-typed : (m : Module) → length m.codes ≡ length m.funcs → bodies_violation m 0 m.codes ≡ None → HasTypedBodies m
bodies-typed m count h = record {
  count = count;
  each = λ k b t at is.
      let same : 0 + k ≡ k = omega arith in
      let checked : check_body m (Some t) b ≡ None =
      ap (λ o. check_body m o b) (sym is) ∙ ap (λ n. check_body m (func_type m (length m.imports + n)) b) (sym same) ∙ bodies-none m 0 m.codes h k b at in
      code-typed (record { module_ = m; locals = t.params ++ expanded b.locals; returns = option_to_list t.result }) (option_to_list t.result) b.instrs checked;
}

pub entries-of : (m : Module) → IsValid m → HasEntries m
entries-of m v = has-entries m (or_then-none (outside_violation m) (bodies_violation m 0 m.codes) v.none).0

pub bodies-of : (m : Module) → IsValid m → HasTypedBodies m
bodies-of m v = bodies-typed m (entries-of m v).count (or_then-none (outside_violation m) (bodies_violation m 0 m.codes) v.none).1

-- ---- the types of functions

index-fits : (m : Module) (fs : List ℕ) (is : List FuncImport) (n k : ℕ) → Passes (import_ok m) is → Passes (func_ok m) fs → slice_get (map (λ (i : FuncImport). i.ty) is ++ fs) n ≡ Some k → k < length m.types
index-fits m fs [] n k p q e = let ok = q n k e in ltb-true k (length m.types) ok.1
index-fits m fs (i ∷ is) zero k p q e =
    let ok = p 0 i refl in
    let same : i.ty ≡ k = cc in
    subst (λ t. t < length m.types) same (ltb-true i.ty (length m.types) ok.1)
index-fits m fs (i ∷ is) (suc n) k p q e = index-fits m fs is n k (λ j y. p (suc j) y) q e

-- each function of a valid module has a type
pub func-typed : (m : Module) → HasEntries m → (f : ℕ) → f < func_count m → (t : FuncType) × (func_type m f ≡ Some t)
func-typed m h f inside =
    let imported = map (λ (i : FuncImport). i.ty) m.imports in
    let count : length imported ≡ length m.imports = length-map m.imports (λ (i : FuncImport). i.ty) in
    let k = is_there (func_type_indices m) f (omega (arith, inside, length-append imported m.funcs, count)) in
    let t = is_there m.types k.0 (index-fits m m.funcs m.imports f k.0 h.imports h.funcs k.1) in
    (t.0, ap (type_at m) k.1 ∙ t.1)
