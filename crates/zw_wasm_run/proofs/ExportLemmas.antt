-- ExportLemmas: the exports of a valid module, whose names differ, by the numbers of their names.
use Rattle.std.proofs.Common.{◌≡◌, ℕ, zero, suc, ◌+◌, ◌<◌, Bool, true, false, ◌||◌, cond, List, [], ◌∷◌, ◌++◌, length, take, get_or, Option, Some, None, MatchBool, Contains, refl, sym, ap, ◌∙◌, true≢false, arith}
use Rattle.std.specs.Prelude.{◌&&◌, nat_eq, nat_lt, not, slice_get}
use Rattle.std.specs.Cmp.Lexicographic.{nat_list_eq_equiv}
use Rattle.std.specs.List.{list_any}
use Rattle.std.specs.Str.{bytes_eq}
use Rattle.std.proofs.lemmas.Option.{slice_get-get_or}
use Rattle.zw_names.specs.NameSets.{number_in}
use Rattle.zw_names.proofs.SetLemmas.{any-Contains, same_bytes}
use Rattle.zw_wasm.specs.declared.module.ExportDef.{ExportDef}
use Rattle.zw_wasm.specs.declared.module.FuncImport.{FuncImport}
use Rattle.zw_wasm.specs.declared.module.GlobalDef.{GlobalDef}
use Rattle.zw_wasm.specs.declared.module.Limits.{Limits}
use Rattle.zw_wasm.specs.declared.module.Module.{Module}
use Rattle.zw_wasm.specs.ModuleMachine.{export_in}
use Rattle.zw_wasm.specs.Validity.{IsValid, Violation, export_is_there, export_ok, exports_section, first_refused, functions_section, global_ok, globals_section, imports_section, in_limits, memories_section, memory_ok, or_then, outside, tables_section}
use Rattle.zw_wasm_check.proofs.RefusedLemmas.{any_earlier, names_more}
use Rattle.zw_wasm_run.specs.ExportNames.{export_names, of_kind}

-- ---- names of a valid module differ

-- none has the name of one before it
abbrev pub AreApart : List ExportDef → Type 0
AreApart es = (i : ℕ) (e : ExportDef) → slice_get es i ≡ Some e → list_any (λ (o : ExportDef). bytes_eq o.name e.name) (take i es) ≡ false

-- where none is refused, each passes under its number
each_passes : {A : Type 0} (ok : ℕ → A → Bool) (k : ℕ) (xs : List A) → first_refused ok k xs ≡ None → (i : ℕ) (y : A) → slice_get xs i ≡ Some y → ok (k + i) y ≡ true
each_passes ok k [] none i y at = absurd (cc)
each_passes {A} ok k (x ∷ xs) none i y at = by (ok k x) refl none (each_passes ok (suc k) xs) i at
  where
    by : (b : Bool) → ok k x ≡ b → cond b (first_refused ok (suc k) xs) (Some k) ≡ None
        → (first_refused ok (suc k) xs ≡ None → (i : ℕ) (y : A) → slice_get xs i ≡ Some y → ok (suc k + i) y ≡ true)
        → (i : ℕ) → slice_get (x ∷ xs) i ≡ Some y → ok (k + i) y ≡ true
    by false same none later i at = absurd (cc)
    by true same none later zero at =
        let one : x ≡ y = cc in
        let here : k + 0 ≡ k = omega arith in
        ap (λ (n : ℕ). ok n y) here ∙ ap (ok k) (sym one) ∙ same
    by true same none later (suc i) at =
        let there : k + suc i ≡ suc k + i = omega arith in
        ap (λ (n : ℕ). ok n y) there ∙ later none i y at

-- of the violations of a module's sections that of the exports, where there is none
sixth_none : (a b c d e f g bodies : Option Violation) → or_then (or_then a (or_then b (or_then c (or_then d (or_then e (or_then f g)))))) bodies ≡ None → f ≡ None
sixth_none (Some v) b c d e f g bodies h = absurd (cc)
sixth_none None (Some v) c d e f g bodies h = absurd (cc)
sixth_none None None (Some v) d e f g bodies h = absurd (cc)
sixth_none None None None (Some v) e f g bodies h = absurd (cc)
sixth_none None None None None (Some v) f g bodies h = absurd (cc)
sixth_none None None None None None (Some v) g bodies h = absurd (cc)
sixth_none None None None None None None g bodies h = refl

outside_none : (section : ℕ) (o : Option ℕ) → outside section o ≡ None → o ≡ None
outside_none section None e = refl
outside_none section (Some entry) e = absurd (cc)

not_any : (b c : Bool) → b && not c ≡ true → c ≡ false
not_any true false h = refl
not_any true true h = absurd (cc)
not_any false c h = absurd (cc)

exports_pass : (m : Module) → IsValid m → first_refused (export_ok m) 0 m.exports ≡ None
exports_pass m valid =
    outside_none exports_section (first_refused (export_ok m) 0 m.exports)
    (sixth_none
    (outside imports_section (first_refused (λ k (i : FuncImport). nat_lt i.ty (length m.types)) 0 m.imports))
    (outside functions_section (first_refused (λ k (ty : ℕ). nat_lt ty (length m.types)) 0 m.funcs))
    (outside tables_section (first_refused (λ k (l : Limits). nat_eq k 0 && in_limits l.least l.greatest) 0 m.tables))
    (outside memories_section (first_refused (λ k (l : Limits). nat_eq k 0 && memory_ok l) 0 m.memories))
    (outside globals_section (first_refused (λ k (g : GlobalDef). global_ok g) 0 m.globals))
    (outside exports_section (first_refused (export_ok m) 0 m.exports))
    _ _ valid.none)

pub valid_apart : (m : Module) → IsValid m → AreApart m.exports
valid_apart m valid i e at =
    let here : 0 + i ≡ i = omega arith in
    let before = list_any (λ (o : ExportDef). bytes_eq o.name e.name) (take i m.exports) in
    not_any (export_is_there m e) before (ap (λ (n : ℕ). export_ok m n e) (sym here) ∙ each_passes (export_ok m) 0 m.exports (exports_pass m valid) i e at)

-- so each is new where the names are put together
pub put_name : (es : List ExportDef) (i : ℕ) (e : ExportDef) (names names' : List (List ℕ)) (is_new : Bool) → AreApart es → i < length es → e ≡ get_or es i e → names ≡ export_names (take i es)
    → MatchBool is_new ((names' ≡ names ++ e.name ∷ []) × (Contains names e.name → ⊥)) ((names' ≡ names) × Contains names e.name)
    → names' ≡ export_names (take (i + 1) es)
put_name es i e names names' true apart inside is before put = names_more es i e names names' inside is before put.0
put_name es i e names names' false apart inside is before put =
    let found : list_any (λ (o : ExportDef). bytes_eq o.name e.name) (take i es) ≡ true =
    any_earlier e.name (take i es) ∙ ap (list_any (bytes_eq e.name)) (sym before) ∙ any-Contains e.name names put.1 in
    absurd (true≢false (sym found ∙ apart i e (slice_get-get_or es i e inside ∙ ap (λ (o : ExportDef). Some o) (sym is))))

-- ---- an export by the number of its name

neither : (b c : Bool) → b || c ≡ false → (b ≡ false) × (c ≡ false)
neither false false h = (refl, refl)
neither false true h = absurd (cc)
neither true c h = absurd (cc)

rest_apart : (e : ExportDef) (es : List ExportDef) → AreApart (e ∷ es) → AreApart es
rest_apart e es apart i x at = (neither (bytes_eq e.name x.name) (list_any (λ (o : ExportDef). bytes_eq o.name x.name) (take i es)) (apart (suc i) x at)).1

first_apart : (e : ExportDef) (es : List ExportDef) → AreApart (e ∷ es) → (i : ℕ) (x : ExportDef) → slice_get es i ≡ Some x → bytes_eq e.name x.name ≡ false
first_apart e es apart i x at = (neither (bytes_eq e.name x.name) (list_any (λ (o : ExportDef). bytes_eq o.name x.name) (take i es)) (apart (suc i) x at)).0

other_name : (k : Bool) (x y : Option ℕ) → cond (k && false) x y ≡ y
other_name true x y = refl
other_name false x y = refl

same_name : (k : Bool) (x y : Option ℕ) → y ≡ None → cond (k && true) x y ≡ cond k x None
same_name true x y none = refl
same_name false x y none = none

-- a name that none has is no export
not_exported : (kind : ℕ) (name : List ℕ) (es : List ExportDef) → ((i : ℕ) (x : ExportDef) → slice_get es i ≡ Some x → bytes_eq name x.name ≡ false) → export_in kind name es ≡ None
not_exported kind name [] apart = refl
not_exported kind name (e ∷ es) apart =
    ap (λ (b : Bool). cond (nat_eq e.kind kind && b) (Some e.index) (export_in kind name es)) (nat_list_eq_equiv.symm e.name name ∙ apart 0 e refl)
    ∙ other_name (nat_eq e.kind kind) (Some e.index) (export_in kind name es)
    ∙ not_exported kind name es (λ i x at. apart (suc i) x at)

pub found_by_number : (kind : ℕ) (name : List ℕ) (es : List ExportDef) → AreApart es → export_in kind name es ≡ of_kind kind (slice_get es (number_in (export_names es) name))
found_by_number kind name [] apart = refl
found_by_number kind name (e ∷ es) apart = by (bytes_eq e.name name) refl (found_by_number kind name es (rest_apart e es apart))
  where
    by : (b : Bool) → bytes_eq e.name name ≡ b → export_in kind name es ≡ of_kind kind (slice_get es (number_in (export_names es) name))
        → export_in kind name (e ∷ es) ≡ of_kind kind (slice_get (e ∷ es) (number_in (export_names (e ∷ es)) name))
    by true same later =
        let is : e.name ≡ name = same_bytes e.name name same in
        rw same (same_name (nat_eq e.kind kind) (Some e.index) (export_in kind name es)
        (not_exported kind name es (λ i x at. ap (λ (n : List ℕ). bytes_eq n x.name) (sym is) ∙ first_apart e es apart i x at)))
    by false same later = rw same (other_name (nat_eq e.kind kind) (Some e.index) (export_in kind name es) ∙ later)

-- what is found by the number of a name among all names is the export
pub exported_so : (m : Module) (kind : ℕ) (name : List ℕ) (names : List (List ℕ)) (found : Option ExportDef) → IsValid m → names ≡ export_names m.exports → found ≡ slice_get m.exports (number_in names name) → of_kind kind found ≡ export_in kind name m.exports
exported_so m kind name names found valid are is =
    ap (of_kind kind) (is ∙ ap (λ (ns : List (List ℕ)). slice_get m.exports (number_in ns name)) are) ∙ sym (found_by_number kind name m.exports (valid_apart m valid))
