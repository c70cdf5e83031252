use Rattle.std.proofs.Common.{◌≡◌, ℕ, ◌<◌, ◌^◌, Option, Err, IfSome, sym, ap, subst, ◌∙◌, nat_eq, ◌&&◌, arith}
use Rattle.zw_wasm.specs.declared.module.Limits.{Limits}
use Rattle.zw_wasm.specs.Validity.{Violation, export_ok, first_refused, or_then, in_limits, memory_ok, outside}
use Rattle.zw_wasm_check.specs.declared.module.CheckErr.{CheckErr}
use Rattle.zw_wasm_check.specs.declared.module.CheckErr.TheVariants as error
use Rattle.zw_wasm_check.specs.Check.{Finds}
use Rattle.zw_wasm_check.proofs.RefusedLemmas.{refused_below}
use Rattle.zw_wasm_check.proofs.OutsideLemmas.{begin, stop, past_imports, past_functions, past_tables, past_memories, past_globals, past_exports, past_start, past_elements, imports_named, functions_named, tables_named, memories_named, globals_named, elements_named, datas_named}
use Rattle.zw_wasm_check.proofs.OutsideLemmas.{in_imports, in_functions, in_tables, in_memories, in_globals, in_exports, in_elements, from_functions, from_tables, from_memories, from_globals, from_exports, from_start, from_elements, from_codes}
use Rattle.zw_wasm_check.proofs.outside.check_outside.Goals as goal

-- what was refused is found under its section's name
under : (v w : Option Violation) (e : CheckErr) → v ≡ w → Finds {A = Unit {0}} v (Err e) → Finds {A = Unit {0}} w (Err e)
under v w e same h = subst (λ (o : Option Violation). Finds {A = Unit {0}} o (Err e)) same h

small : (found first : Option ℕ) → found ≡ first → IfSome first (λ k. k < 2 ^ 32) → IfSome found (λ k. k < 2 ^ 32)
small found first is h = subst (λ (o : Option ℕ). IfSome o (λ k. k < 2 ^ 32)) (sym is) h

pub returns-in_err-refuse : goal.returns-in_err-refuse
returns-in_err-refuse c =
    let m = c.args.m.now in
    stop m (in_imports m) (from_functions m) c.in_err-refuse.field-0.0 c.from_residual.result (begin m) c.from_residual.ensures.1
    (under (outside 2 c.refused_import.result) (in_imports m) c.in_err-refuse.field-0.0 (imports_named m _ c.refused_import.ensures) c.in_err-refuse.ensures)

pub returns-in_err-refuse-2 : goal.returns-in_err-refuse-2
returns-in_err-refuse-2 c =
    let m = c.args.m.now in
    let imports = past_imports m _ c.refused_import.ensures c.in_ok-refuse.ensures in
    stop m (in_functions m) (from_tables m) c.in_err-refuse-2.field-0.0 c.from_residual-in_err-refuse-2.result imports c.from_residual-in_err-refuse-2.ensures.1
    (under (outside 3 c.refused_function.result) (in_functions m) c.in_err-refuse-2.field-0.0 (functions_named m _ c.refused_function.ensures) c.in_err-refuse-2.ensures)

pub returns-in_err-refuse-3 : goal.returns-in_err-refuse-3
returns-in_err-refuse-3 c =
    let m = c.args.m.now in
    let imports = past_imports m _ c.refused_import.ensures c.in_ok-refuse.ensures in
    let functions = past_functions m _ c.refused_function.ensures c.in_ok-refuse-2.ensures imports in
    stop m (in_tables m) (from_memories m) c.in_err-refuse-3.field-0.0 c.from_residual-in_err-refuse-3.result functions c.from_residual-in_err-refuse-3.ensures.1
    (under (outside 4 c.refused_table.result) (in_tables m) c.in_err-refuse-3.field-0.0 (tables_named m _ _ c.as_slice.ensures c.refused_table.ensures) c.in_err-refuse-3.ensures)

pub returns-in_err-refuse-4 : goal.returns-in_err-refuse-4
returns-in_err-refuse-4 c =
    let m = c.args.m.now in
    let imports = past_imports m _ c.refused_import.ensures c.in_ok-refuse.ensures in
    let functions = past_functions m _ c.refused_function.ensures c.in_ok-refuse-2.ensures imports in
    let tables = past_tables m _ _ c.as_slice.ensures c.refused_table.ensures c.in_ok-refuse-3.ensures functions in
    stop m (in_memories m) (from_globals m) c.in_err-refuse-4.field-0.0 c.from_residual-in_err-refuse-4.result tables c.from_residual-in_err-refuse-4.ensures.1
    (under (outside 5 c.refused_memory.result) (in_memories m) c.in_err-refuse-4.field-0.0 (memories_named m _ _ c.as_slice-2.ensures c.refused_memory.ensures) c.in_err-refuse-4.ensures)

pub returns-in_err-refuse-5 : goal.returns-in_err-refuse-5
returns-in_err-refuse-5 c =
    let m = c.args.m.now in
    let imports = past_imports m _ c.refused_import.ensures c.in_ok-refuse.ensures in
    let functions = past_functions m _ c.refused_function.ensures c.in_ok-refuse-2.ensures imports in
    let tables = past_tables m _ _ c.as_slice.ensures c.refused_table.ensures c.in_ok-refuse-3.ensures functions in
    let memories = past_memories m _ _ c.as_slice-2.ensures c.refused_memory.ensures c.in_ok-refuse-4.ensures tables in
    stop m (in_globals m) (from_exports m) c.in_err-refuse-5.field-0.0 c.from_residual-in_err-refuse-5.result memories c.from_residual-in_err-refuse-5.ensures.1
    (under (outside 6 c.refused_global.result) (in_globals m) c.in_err-refuse-5.field-0.0 (globals_named m _ c.refused_global.ensures) c.in_err-refuse-5.ensures)

pub returns-in_err-refuse-6 : goal.returns-in_err-refuse-6
returns-in_err-refuse-6 c =
    let m = c.args.m.now in
    let imports = past_imports m _ c.refused_import.ensures c.in_ok-refuse.ensures in
    let functions = past_functions m _ c.refused_function.ensures c.in_ok-refuse-2.ensures imports in
    let tables = past_tables m _ _ c.as_slice.ensures c.refused_table.ensures c.in_ok-refuse-3.ensures functions in
    let memories = past_memories m _ _ c.as_slice-2.ensures c.refused_memory.ensures c.in_ok-refuse-4.ensures tables in
    let globals = past_globals m _ c.refused_global.ensures c.in_ok-refuse-5.ensures memories in
    stop m (in_exports m) (from_start m) c.in_err-refuse-6.field-0.0 c.from_residual-in_err-refuse-6.result globals c.from_residual-in_err-refuse-6.ensures.1
    (under (outside 7 c.in_ok-refused_export.field-0) (in_exports m) c.in_err-refuse-6.field-0.0 (ap (outside 7) c.in_ok-refused_export.ensures) c.in_err-refuse-6.ensures)

pub returns-then-not-starts_right : goal.returns-then-not-starts_right
returns-then-not-starts_right c =
    let m = c.args.m.now in
    let imports = past_imports m _ c.refused_import.ensures c.in_ok-refuse.ensures in
    let functions = past_functions m _ c.refused_function.ensures c.in_ok-refuse-2.ensures imports in
    let tables = past_tables m _ _ c.as_slice.ensures c.refused_table.ensures c.in_ok-refuse-3.ensures functions in
    let memories = past_memories m _ _ c.as_slice-2.ensures c.refused_memory.ensures c.in_ok-refuse-4.ensures tables in
    let globals = past_globals m _ c.refused_global.ensures c.in_ok-refuse-5.ensures memories in
    let exports = past_exports m _ c.in_ok-refused_export.ensures c.in_ok-refuse-6.ensures globals in
    exports.by (Err (error.Outside 8 0)) (ap (λ (o : Option Violation). or_then o (from_elements m)) c.if-not-starts_right.ensures)

pub returns-in_err-refuse-7 : goal.returns-in_err-refuse-7
returns-in_err-refuse-7 c =
    let m = c.args.m.now in
    let imports = past_imports m _ c.refused_import.ensures c.in_ok-refuse.ensures in
    let functions = past_functions m _ c.refused_function.ensures c.in_ok-refuse-2.ensures imports in
    let tables = past_tables m _ _ c.as_slice.ensures c.refused_table.ensures c.in_ok-refuse-3.ensures functions in
    let memories = past_memories m _ _ c.as_slice-2.ensures c.refused_memory.ensures c.in_ok-refuse-4.ensures tables in
    let globals = past_globals m _ c.refused_global.ensures c.in_ok-refuse-5.ensures memories in
    let exports = past_exports m _ c.in_ok-refused_export.ensures c.in_ok-refuse-6.ensures globals in
    let start = past_start m c.if-not-starts_right.ensures exports in
    stop m (in_elements m) (from_codes m) c.in_err-refuse-7.field-0.0 c.from_residual-in_err-refuse-7.result start c.from_residual-in_err-refuse-7.ensures.1
    (under (outside 9 c.refused_element.result) (in_elements m) c.in_err-refuse-7.field-0.0 (elements_named m _ c.refused_element.ensures) c.in_err-refuse-7.ensures)

pub returns : goal.returns
returns c =
    let m = c.args.m.now in
    let imports = past_imports m _ c.refused_import.ensures c.in_ok-refuse.ensures in
    let functions = past_functions m _ c.refused_function.ensures c.in_ok-refuse-2.ensures imports in
    let tables = past_tables m _ _ c.as_slice.ensures c.refused_table.ensures c.in_ok-refuse-3.ensures functions in
    let memories = past_memories m _ _ c.as_slice-2.ensures c.refused_memory.ensures c.in_ok-refuse-4.ensures tables in
    let globals = past_globals m _ c.refused_global.ensures c.in_ok-refuse-5.ensures memories in
    let exports = past_exports m _ c.in_ok-refused_export.ensures c.in_ok-refuse-6.ensures globals in
    let start = past_start m c.if-not-starts_right.ensures exports in
    let datas = past_elements m _ c.refused_element.ensures c.in_ok-refuse-7.ensures c.requires.formed start in
    datas.by c.refuse-8.result
    (subst (λ (o : Option Violation). Finds {A = Unit {0}} o c.refuse-8.result) (datas_named m _ c.refused_data.ensures) c.refuse-8.ensures)

pub refuse-requires-3 : goal.refuse-requires-3
refuse-requires-3 c =
    small _ _ (c.refused_table.ensures ∙ ap (first_refused (λ k (l : Limits). nat_eq k 0 && in_limits l.least l.greatest) 0) c.as_slice.ensures)
    (refused_below (λ k (l : Limits). nat_eq k 0 && in_limits l.least l.greatest) 0 c.args.m.now.tables (2 ^ 32) (omega (arith, c.requires.fits.0.tables.items.count)))

pub refuse-requires-4 : goal.refuse-requires-4
refuse-requires-4 c =
    small _ _ (c.refused_memory.ensures ∙ ap (first_refused (λ k (l : Limits). nat_eq k 0 && memory_ok l) 0) c.as_slice-2.ensures)
    (refused_below (λ k (l : Limits). nat_eq k 0 && memory_ok l) 0 c.args.m.now.memories (2 ^ 32) (omega (arith, c.requires.fits.0.memories.items.count)))

pub refuse-requires-6 : goal.refuse-requires-6
refuse-requires-6 c =
    small _ _ c.in_ok-refused_export.ensures
    (refused_below (export_ok c.args.m.now) 0 c.args.m.now.exports (2 ^ 32) (omega (arith, c.requires.fits.0.exports.items.count)))
