use Rattle.std.proofs.Common.{List, ap, map, ◌∙◌, arith}
use Rattle.zw_wasm_read.specs.declared.vectors.TableType.{TableType}
use Rattle.zw_wasm_read.specs.Tables.{IsTable}
use Rattle.zw_wasm.specs.ModuleBytes.{IsFunctionType, IsFunctionImport, IsU32, AreLimits, IsGlobal, IsExport}
use Rattle.zw_wasm_read.proofs.ModuleLemmas.{shorter, optional-shorter, listed, listed_tables, begin, go_on, at_first, next_section, customs_exit, front_exit}
use Rattle.zw_wasm_read.specs.Stops.{Types, Imports, Functions, Tables, Memories, Globals, Exports}
use Rattle.zw_wasm_read.proofs.module.read_front.Goals as goal

pub returns-in_err-b : goal.returns-in_err-b
returns-in_err-b c = customs_exit _ _ _ _ c.from_residual.ensures.1 c.in_err-b.ensures

pub returns-in_err-types : goal.returns-in_err-types
returns-in_err-types c =
    let types = at_first _ _ _ c.in_ok-b.ensures in
    front_exit Types _ _ _ _ _ c.from_residual-in_err-types.ensures.1 types c.in_err-types.ensures

pub returns-in_err-imports : goal.returns-in_err-imports
returns-in_err-imports c =
    let types = at_first _ _ _ c.in_ok-b.ensures in
    let imports = next_section Types _ _ _ _ _ types c.in_ok-types.ensures in
    front_exit Imports _ _ _ _ _ c.from_residual-in_err-imports.ensures.1 imports c.in_err-imports.ensures

pub returns-in_err-funcs : goal.returns-in_err-funcs
returns-in_err-funcs c =
    let types = at_first _ _ _ c.in_ok-b.ensures in
    let imports = next_section Types _ _ _ _ _ types c.in_ok-types.ensures in
    let funcs = next_section Imports _ _ _ _ _ imports c.in_ok-imports.ensures in
    front_exit Functions _ _ _ _ _ c.from_residual-in_err-funcs.ensures.1 funcs c.in_err-funcs.ensures

pub returns-in_err-tables : goal.returns-in_err-tables
returns-in_err-tables c =
    let types = at_first _ _ _ c.in_ok-b.ensures in
    let imports = next_section Types _ _ _ _ _ types c.in_ok-types.ensures in
    let funcs = next_section Imports _ _ _ _ _ imports c.in_ok-imports.ensures in
    let tables = next_section Functions _ _ _ _ _ funcs c.in_ok-funcs.ensures in
    front_exit Tables _ _ _ _ _ c.from_residual-in_err-tables.ensures.1 tables c.in_err-tables.ensures

pub returns-in_err-memories : goal.returns-in_err-memories
returns-in_err-memories c =
    let types = at_first _ _ _ c.in_ok-b.ensures in
    let imports = next_section Types _ _ _ _ _ types c.in_ok-types.ensures in
    let funcs = next_section Imports _ _ _ _ _ imports c.in_ok-imports.ensures in
    let tables = next_section Functions _ _ _ _ _ funcs c.in_ok-funcs.ensures in
    let memories = next_section Tables _ _ _ _ _ tables c.in_ok-tables.ensures in
    front_exit Memories _ _ _ _ _ c.from_residual-in_err-memories.ensures.1 memories c.in_err-memories.ensures

pub returns-in_err-globals : goal.returns-in_err-globals
returns-in_err-globals c =
    let types = at_first _ _ _ c.in_ok-b.ensures in
    let imports = next_section Types _ _ _ _ _ types c.in_ok-types.ensures in
    let funcs = next_section Imports _ _ _ _ _ imports c.in_ok-imports.ensures in
    let tables = next_section Functions _ _ _ _ _ funcs c.in_ok-funcs.ensures in
    let memories = next_section Tables _ _ _ _ _ tables c.in_ok-tables.ensures in
    let globals = next_section Memories _ _ _ _ _ memories c.in_ok-memories.ensures in
    front_exit Globals _ _ _ _ _ c.from_residual-in_err-globals.ensures.1 globals c.in_err-globals.ensures

pub returns-in_err-exports : goal.returns-in_err-exports
returns-in_err-exports c =
    let types = at_first _ _ _ c.in_ok-b.ensures in
    let imports = next_section Types _ _ _ _ _ types c.in_ok-types.ensures in
    let funcs = next_section Imports _ _ _ _ _ imports c.in_ok-imports.ensures in
    let tables = next_section Functions _ _ _ _ _ funcs c.in_ok-funcs.ensures in
    let memories = next_section Tables _ _ _ _ _ tables c.in_ok-tables.ensures in
    let globals = next_section Memories _ _ _ _ _ memories c.in_ok-memories.ensures in
    let exports = next_section Globals _ _ _ _ _ globals c.in_ok-globals.ensures in
    front_exit Exports _ _ _ _ _ c.from_residual-in_err-exports.ensures.1 exports c.in_err-exports.ensures

pub returns : goal.returns
returns c =
    let types = at_first _ _ _ c.in_ok-b.ensures in
    let imports = next_section Types _ _ _ _ _ types c.in_ok-types.ensures in
    let funcs = next_section Imports _ _ _ _ _ imports c.in_ok-imports.ensures in
    let tables = next_section Functions _ _ _ _ _ funcs c.in_ok-funcs.ensures in
    let memories = next_section Tables _ _ _ _ _ tables c.in_ok-tables.ensures in
    let globals = next_section Memories _ _ _ _ _ memories c.in_ok-memories.ensures in
    let exports = next_section Globals _ _ _ _ _ globals c.in_ok-globals.ensures in
    let with_types = begin c.in_ok-b.ensures.customs (listed 1 IsFunctionType _ _ _ _ c.in_ok-types.ensures) in
    let with_imports = go_on with_types (listed 2 IsFunctionImport _ _ _ _ c.in_ok-imports.ensures) in
    let with_funcs = go_on with_imports (listed 3 IsU32 _ _ _ _ c.in_ok-funcs.ensures) in
    let limits = c.in_ok-tables-2.ensures ∙ ap (λ (ts : List TableType). map (λ (t : TableType). t.limits) ts) c.as_slice.ensures in
    let with_tables = go_on with_funcs (listed_tables _ _ _ _ _ limits c.in_ok-tables.ensures) in
    let with_memories = go_on with_tables (listed 5 AreLimits _ _ _ _ c.in_ok-memories.ensures) in
    let with_globals = go_on with_memories (listed 6 IsGlobal _ _ _ _ c.in_ok-globals.ensures) in
    record {
      sections = go_on with_globals (listed 7 IsExport _ _ _ _ c.in_ok-exports.ensures);
      goes = next_section Exports _ _ _ _ _ exports c.in_ok-exports.ensures;
    }

pub read_optional-requires-3-clause-within : goal.read_optional-requires-3-clause-within
read_optional-requires-3-clause-within c =
    let customs = shorter c.in_ok-b.ensures.customs in
    let types = optional-shorter 1 IsFunctionType _ _ _ _ c.in_ok-types.ensures in
    let imports = optional-shorter 2 IsFunctionImport _ _ _ _ c.in_ok-imports.ensures in
    omega (arith, c.requires.within, customs, types, imports)

pub read_optional-requires-4-clause-within : goal.read_optional-requires-4-clause-within
read_optional-requires-4-clause-within c =
    let customs = shorter c.in_ok-b.ensures.customs in
    let types = optional-shorter 1 IsFunctionType _ _ _ _ c.in_ok-types.ensures in
    let imports = optional-shorter 2 IsFunctionImport _ _ _ _ c.in_ok-imports.ensures in
    let funcs = optional-shorter 3 IsU32 _ _ _ _ c.in_ok-funcs.ensures in
    omega (arith, c.requires.within, customs, types, imports, funcs)

pub read_optional-requires-5-clause-within : goal.read_optional-requires-5-clause-within
read_optional-requires-5-clause-within c =
    let customs = shorter c.in_ok-b.ensures.customs in
    let types = optional-shorter 1 IsFunctionType _ _ _ _ c.in_ok-types.ensures in
    let imports = optional-shorter 2 IsFunctionImport _ _ _ _ c.in_ok-imports.ensures in
    let funcs = optional-shorter 3 IsU32 _ _ _ _ c.in_ok-funcs.ensures in
    let tables = optional-shorter 4 IsTable _ _ _ _ c.in_ok-tables.ensures in
    omega (arith, c.requires.within, customs, types, imports, funcs, tables)

pub read_optional-requires-6-clause-within : goal.read_optional-requires-6-clause-within
read_optional-requires-6-clause-within c =
    let customs = shorter c.in_ok-b.ensures.customs in
    let types = optional-shorter 1 IsFunctionType _ _ _ _ c.in_ok-types.ensures in
    let imports = optional-shorter 2 IsFunctionImport _ _ _ _ c.in_ok-imports.ensures in
    let funcs = optional-shorter 3 IsU32 _ _ _ _ c.in_ok-funcs.ensures in
    let tables = optional-shorter 4 IsTable _ _ _ _ c.in_ok-tables.ensures in
    let memories = optional-shorter 5 AreLimits _ _ _ _ c.in_ok-memories.ensures in
    omega (arith, c.requires.within, customs, types, imports, funcs, tables, memories)

pub read_optional-requires-7-clause-within : goal.read_optional-requires-7-clause-within
read_optional-requires-7-clause-within c =
    let customs = shorter c.in_ok-b.ensures.customs in
    let types = optional-shorter 1 IsFunctionType _ _ _ _ c.in_ok-types.ensures in
    let imports = optional-shorter 2 IsFunctionImport _ _ _ _ c.in_ok-imports.ensures in
    let funcs = optional-shorter 3 IsU32 _ _ _ _ c.in_ok-funcs.ensures in
    let tables = optional-shorter 4 IsTable _ _ _ _ c.in_ok-tables.ensures in
    let memories = optional-shorter 5 AreLimits _ _ _ _ c.in_ok-memories.ensures in
    let globals = optional-shorter 6 IsGlobal _ _ _ _ c.in_ok-globals.ensures in
    omega (arith, c.requires.within, customs, types, imports, funcs, tables, memories, globals)
