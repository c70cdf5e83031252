-- The first violation outside bodies, section by section, and in bodies.
use Rattle.std.proofs.Common.{◌≡◌, ℕ, ◌+◌, ◌<◌, ◌≤◌, Bool, ◌&&◌, cond, nat_eq, ltb, min, not, position, List, ◌∷◌, length, drop, get_or, Option, Some, None, Result, Ok, Err, sym, ap, subst, ◌∙◌, add-one, eq-eqb}
use Rattle.std.proofs.lemmas.List.{drop_more, drop_all}
use Rattle.std.specs.Result.{IsErrAnd}
use Rattle.zw_wasm.specs.declared.module.CodeBody.{CodeBody}
use Rattle.zw_wasm.specs.declared.module.DataSegment.{DataSegment}
use Rattle.zw_wasm.specs.declared.module.Element.{Element}
use Rattle.zw_wasm.specs.declared.module.FuncImport.{FuncImport}
use Rattle.zw_wasm.specs.declared.module.GlobalDef.{GlobalDef}
use Rattle.zw_wasm.specs.declared.module.Limits.{Limits}
use Rattle.zw_wasm.specs.declared.module.Module.{Module}
use Rattle.zw_wasm.specs.Functions.{func_type}
use Rattle.zw_wasm.specs.Typing as typing
use Rattle.zw_wasm.specs.Validity.{Violation, Outside, Body, bodies_violation, check_body, codes_section, codes_violation, data_ok, datas_section, element_ok, elements_section, export_ok, exports_section, first_refused, functions_section, global_ok, globals_section, imports_section, in_body, in_limits, memories_section, memory_ok, or_then, outside, outside_violation, start_violation, tables_section}
use Rattle.zw_wasm.specs.WellFormed.{IsWellFormed}
use Rattle.zw_wasm_check.specs.declared.body.Place.{Place}
use Rattle.zw_wasm_check.specs.declared.module.CheckErr.{CheckErr}
use Rattle.zw_wasm_check.specs.declared.module.CheckErr.TheVariants as error
use Rattle.zw_wasm_check.specs.Bodies.{place_of}
use Rattle.zw_wasm_check.specs.Check.{Finds}
use Rattle.zw_wasm_check.proofs.RefusedLemmas.{refused_position}

-- a violation comes before what else there is
pub found_first : (A : Type 0) (v w : Option Violation) (e : CheckErr) → Finds {A = A} v (Err e) → Finds {A = A} (or_then v w) (Err e)
found_first A v w (error.Outside section entry) h = ap (λ (o : Option Violation). or_then o w) h
found_first A v w (error.Body func at code) h = ap (λ (o : Option Violation). or_then o w) h
found_first A v w error.Oom h = tt

-- where there is none, what else there is comes
pub found_later : (A : Type 0) (v w : Option Violation) (r : Result A CheckErr) → v ≡ None → Finds {A = A} w r → Finds {A = A} (or_then v w) r
found_later A v w r none h = subst (λ (o : Option Violation). Finds {A = A} (or_then o w) r) (sym none) h

-- of a result that hands an error on
pub found_exit : (v : Option Violation) (e : CheckErr) (r : Result (Unit {0}) CheckErr) → IsErrAnd r (λ f. f ≡ e) → Finds {A = Unit {0}} v (Err e) → Finds {A = Unit {0}} v r
found_exit v e (Ok x) is h = absurd is
found_exit v e (Err f) is h = subst (λ (g : CheckErr). Finds {A = Unit {0}} v (Err g)) (sym is) h

-- what is refused in each section, and what comes from there on
module _ (m : Module) where
  abbrev pub in_imports : Option Violation
  in_imports = outside imports_section (first_refused (λ k (i : FuncImport). ltb i.ty (length m.types)) 0 m.imports)

  abbrev pub in_functions : Option Violation
  in_functions = outside functions_section (first_refused (λ k (ty : ℕ). ltb ty (length m.types)) 0 m.funcs)

  abbrev pub in_tables : Option Violation
  in_tables = outside tables_section (first_refused (λ k (l : Limits). nat_eq k 0 && in_limits l.least l.greatest) 0 m.tables)

  abbrev pub in_memories : Option Violation
  in_memories = outside memories_section (first_refused (λ k (l : Limits). nat_eq k 0 && memory_ok l) 0 m.memories)

  abbrev pub in_globals : Option Violation
  in_globals = outside globals_section (first_refused (λ k (g : GlobalDef). global_ok g) 0 m.globals)

  abbrev pub in_exports : Option Violation
  in_exports = outside exports_section (first_refused (export_ok m) 0 m.exports)

  abbrev pub in_elements : Option Violation
  in_elements = outside elements_section (first_refused (λ k (e : Element). element_ok m e) 0 m.elements)

  abbrev pub in_datas : Option Violation
  in_datas = outside datas_section (first_refused (λ k (d : DataSegment). data_ok m d) 0 m.datas)

  abbrev pub from_codes : Option Violation
  from_codes = or_then (codes_violation m) in_datas

  abbrev pub from_elements : Option Violation
  from_elements = or_then in_elements from_codes

  abbrev pub from_start : Option Violation
  from_start = or_then (start_violation m m.start) from_elements

  abbrev pub from_exports : Option Violation
  from_exports = or_then in_exports from_start

  abbrev pub from_globals : Option Violation
  from_globals = or_then in_globals from_exports

  abbrev pub from_memories : Option Violation
  from_memories = or_then in_memories from_globals

  abbrev pub from_tables : Option Violation
  from_tables = or_then in_tables from_memories

  abbrev pub from_functions : Option Violation
  from_functions = or_then in_functions from_tables

  -- what is found from here on is found in the module
  pub record Leads (w : Option Violation) : Type 0 where
    pub by : (r : Result (Unit {0}) CheckErr) → Finds {A = Unit {0}} w r → Finds {A = Unit {0}} (outside_violation m) r

  pub begin : Leads (or_then in_imports from_functions)
  begin = record { by = λ r h. h }

  pub go_on : (v w : Option Violation) → v ≡ None → Leads (or_then v w) → Leads w
  go_on v w none l = record { by = λ r h. l.by r (found_later (Unit {0}) v w r none h) }

  pub stop : (v w : Option Violation) (e : CheckErr) (r : Result (Unit {0}) CheckErr) → Leads (or_then v w) → IsErrAnd r (λ f. f ≡ e) → Finds {A = Unit {0}} v (Err e) → Finds {A = Unit {0}} (outside_violation m) r
  stop v w e r l is h = found_exit (outside_violation m) e r is (l.by (Err e) (found_first (Unit {0}) v w e h))

  pub imports_named : (found : Option ℕ) → found ≡ position (λ (i : FuncImport). not (ltb i.ty (length m.types))) m.imports → outside imports_section found ≡ in_imports
  imports_named found is = ap (outside imports_section) (is ∙ sym (refused_position (λ (i : FuncImport). ltb i.ty (length m.types)) m.imports))

  pub functions_named : (found : Option ℕ) → found ≡ position (λ (ty : ℕ). not (ltb ty (length m.types))) m.funcs → outside functions_section found ≡ in_functions
  functions_named found is = ap (outside functions_section) (is ∙ sym (refused_position (λ (ty : ℕ). ltb ty (length m.types)) m.funcs))

  pub tables_named : (found : Option ℕ) (tables : List Limits) → tables ≡ m.tables → found ≡ first_refused (λ k (l : Limits). nat_eq k 0 && in_limits l.least l.greatest) 0 tables → outside tables_section found ≡ in_tables
  tables_named found tables same is = ap (outside tables_section) (is ∙ ap (first_refused (λ k (l : Limits). nat_eq k 0 && in_limits l.least l.greatest) 0) same)

  pub memories_named : (found : Option ℕ) (memories : List Limits) → memories ≡ m.memories → found ≡ first_refused (λ k (l : Limits). nat_eq k 0 && memory_ok l) 0 memories → outside memories_section found ≡ in_memories
  memories_named found memories same is = ap (outside memories_section) (is ∙ ap (first_refused (λ k (l : Limits). nat_eq k 0 && memory_ok l) 0) same)

  pub globals_named : (found : Option ℕ) → found ≡ position (λ (g : GlobalDef). not (global_ok g)) m.globals → outside globals_section found ≡ in_globals
  globals_named found is = ap (outside globals_section) (is ∙ sym (refused_position global_ok m.globals))

  pub elements_named : (found : Option ℕ) → found ≡ position (λ (e : Element). not (element_ok m e)) m.elements → outside elements_section found ≡ in_elements
  elements_named found is = ap (outside elements_section) (is ∙ sym (refused_position (element_ok m) m.elements))

  pub datas_named : (found : Option ℕ) → found ≡ position (λ (d : DataSegment). not (data_ok m d)) m.datas → outside datas_section found ≡ in_datas
  datas_named found is = ap (outside datas_section) (is ∙ sym (refused_position (data_ok m) m.datas))

  -- each function has its code
  pub no_codes_violation : IsWellFormed m → codes_violation m ≡ None
  no_codes_violation formed =
      ap (λ (b : Bool). cond b None (Some (Outside codes_section (min (length m.codes) (length m.funcs))))) (eq-eqb (length m.codes) (length m.funcs) (sym formed.same_count))

-- what comes behind a section in which nothing is refused
module _ (m : Module) where
  pub past_imports : (found : Option ℕ) → found ≡ position (λ (i : FuncImport). not (ltb i.ty (length m.types))) m.imports → outside imports_section found ≡ None → Leads m (from_functions m)
  past_imports found is none = go_on m (in_imports m) (from_functions m) (sym (imports_named m found is) ∙ none) (begin m)

  pub past_functions : (found : Option ℕ) → found ≡ position (λ (ty : ℕ). not (ltb ty (length m.types))) m.funcs → outside functions_section found ≡ None → Leads m (from_functions m) → Leads m (from_tables m)
  past_functions found is none l = go_on m (in_functions m) (from_tables m) (sym (functions_named m found is) ∙ none) l

  pub past_tables : (found : Option ℕ) (tables : List Limits) → tables ≡ m.tables → found ≡ first_refused (λ k (l : Limits). nat_eq k 0 && in_limits l.least l.greatest) 0 tables → outside tables_section found ≡ None → Leads m (from_tables m) → Leads m (from_memories m)
  past_tables found tables same is none l = go_on m (in_tables m) (from_memories m) (sym (tables_named m found tables same is) ∙ none) l

  pub past_memories : (found : Option ℕ) (memories : List Limits) → memories ≡ m.memories → found ≡ first_refused (λ k (l : Limits). nat_eq k 0 && memory_ok l) 0 memories → outside memories_section found ≡ None → Leads m (from_memories m) → Leads m (from_globals m)
  past_memories found memories same is none l = go_on m (in_memories m) (from_globals m) (sym (memories_named m found memories same is) ∙ none) l

  pub past_globals : (found : Option ℕ) → found ≡ position (λ (g : GlobalDef). not (global_ok g)) m.globals → outside globals_section found ≡ None → Leads m (from_globals m) → Leads m (from_exports m)
  past_globals found is none l = go_on m (in_globals m) (from_exports m) (sym (globals_named m found is) ∙ none) l

  pub past_exports : (found : Option ℕ) → found ≡ first_refused (export_ok m) 0 m.exports → outside exports_section found ≡ None → Leads m (from_exports m) → Leads m (from_start m)
  past_exports found is none l = go_on m (in_exports m) (from_start m) (sym (ap (outside exports_section) is) ∙ none) l

  pub past_start : start_violation m m.start ≡ None → Leads m (from_start m) → Leads m (from_elements m)
  past_start none l = go_on m (start_violation m m.start) (from_elements m) none l

  pub past_elements : (found : Option ℕ) → found ≡ position (λ (e : Element). not (element_ok m e)) m.elements → outside elements_section found ≡ None → IsWellFormed m → Leads m (from_elements m) → Leads m (in_datas m)
  past_elements found is none formed l =
      go_on m (codes_violation m) (in_datas m) (no_codes_violation m formed) (go_on m (in_elements m) (from_codes m) (sym (elements_named m found is) ∙ none) l)

-- ---- bodies

-- a body in its place
body_here : (m : Module) (codes : List CodeBody) (i : ℕ) (b : CodeBody) → i < length codes → b ≡ get_or codes i b → bodies_violation m i (drop i codes) ≡ or_then (in_body i (check_body m (func_type m (length m.imports + i)) b)) (bodies_violation m (i + 1) (drop (i + 1) codes))
body_here m codes i b inside is =
    ap (bodies_violation m i) (drop_more codes i b inside ∙ ap (λ (c : CodeBody). c ∷ drop (i + 1) codes) (sym is))
    ∙ ap (λ (k : ℕ). or_then (in_body i (check_body m (func_type m (length m.imports + i)) b)) (bodies_violation m k (drop (i + 1) codes))) (sym (add-one i))

pub body_passes : (m : Module) (codes : List CodeBody) (i : ℕ) (b : CodeBody) → i < length codes → b ≡ get_or codes i b → check_body m (func_type m (length m.imports + i)) b ≡ None → bodies_violation m i (drop i codes) ≡ bodies_violation m (i + 1) (drop (i + 1) codes)
body_passes m codes i b inside is passes =
    body_here m codes i b inside is ∙ ap (λ (p : Option typing.Place). or_then (in_body i p) (bodies_violation m (i + 1) (drop (i + 1) codes))) passes

pub body_fails : (m : Module) (codes : List CodeBody) (i : ℕ) (b : CodeBody) (p : Place) → i < length codes → b ≡ get_or codes i b → check_body m (func_type m (length m.imports + i)) b ≡ Some (place_of p) → bodies_violation m i (drop i codes) ≡ Some (Body i (place_of p).at (place_of p).code)
body_fails m codes i b p inside is fails =
    body_here m codes i b inside is ∙ ap (λ (q : Option typing.Place). or_then (in_body i q) (bodies_violation m (i + 1) (drop (i + 1) codes))) fails

pub bodies_end : (m : Module) (codes : List CodeBody) (i : ℕ) → length codes ≤ i → bodies_violation m i (drop i codes) ≡ None
bodies_end m codes i past = ap (bodies_violation m i) (drop_all i codes past)
