-- WorkedModules: what the first violation of some modules is, worked out from the rules by hand (WebAssembly Core Specification
-- 1.0, 3.4).
use Rattle.std.specs.Prelude.{◌≡◌, ℕ, pos, true, false, List, [], ◌∷◌, Option, Some, None}
use Rattle.zw_wasm.specs.declared.module.DataSegment.{DataSegment}
use Rattle.zw_wasm.specs.declared.module.Element.{Element}
use Rattle.zw_wasm.specs.declared.module.ExportDef.{ExportDef}
use Rattle.zw_wasm.specs.declared.module.GlobalDef.{GlobalDef}
use Rattle.zw_wasm.specs.declared.module.Instr.{Instr}
use Rattle.zw_wasm.specs.declared.module.Instr.TheVariants.{Nop, End, Drop, GlobalGet, I32Const, I64Const}
use Rattle.zw_wasm.specs.declared.module.Limits.{Limits}
use Rattle.zw_wasm.specs.declared.module.Module.{Module}
use Rattle.zw_wasm.specs.declared.module.TheConstants.ExportDef.{FUNC, TABLE, MEMORY, GLOBAL}
use Rattle.zw_wasm.specs.declared.module.ValType.{ValType}
use Rattle.zw_wasm.specs.declared.module.ValType.TheVariants.{I32, I64}
use Rattle.zw_wasm.specs.Typing.{wrong_type}
use Rattle.zw_wasm.specs.Validity.{Body, Outside, Violation, first_violation}

abbrev pub global_of : ValType → List Instr → GlobalDef
global_of ty init = record { ty = ty; mutable = false; init = init }

abbrev pub limits_of : ℕ → Option ℕ → Limits
limits_of least greatest = record { least = least; greatest = greatest }

abbrev pub named : ℕ → ℕ → ℕ → ExportDef
named name kind index = record { name = name ∷ []; kind = kind; index = index }

abbrev pub element_at : List Instr → List ℕ → Element
element_at place funcs = record { table = 0; at = place; funcs = funcs }

abbrev pub bytes_at : List Instr → DataSegment
bytes_at place = record { memory = 0; at = place; bytes = 1 ∷ 2 ∷ [] }

abbrev pub seven : List Instr
seven = I32Const (pos 7) ∷ End ∷ []

-- Function 0 is imported and takes an i32; functions 1 and 2 take nothing, and the second gives nothing either. There are a
-- table, a memory, an immutable global and a mutable one.
abbrev pub plain : Module
plain = record {
  types = record { params = I32 ∷ []; result = None } ∷ record { params = []; result = Some I32 } ∷ record { params = []; result = None } ∷ [];
  imports = record { «module» = []; field = []; ty = 0 } ∷ [];
  funcs = 1 ∷ 2 ∷ [];
  tables = limits_of 1 None ∷ [];
  memories = limits_of 1 (Some 1) ∷ [];
  globals = global_of I32 seven ∷ record { ty = I32; mutable = true; init = seven } ∷ [];
  exports = named 1 FUNC 2 ∷ named 2 TABLE 0 ∷ named 3 MEMORY 0 ∷ named 4 GLOBAL 1 ∷ [];
  start = Some 2;
  elements = element_at seven (0 ∷ 1 ∷ 2 ∷ []) ∷ [];
  codes = record { locals = []; instrs = seven } ∷ record { locals = []; instrs = Nop ∷ End ∷ [] } ∷ [];
  datas = bytes_at seven ∷ [];
}

abbrev pub refused : ℕ → ℕ → Option Violation
refused section entry = Some (Outside section entry)

pub record WorkedModules : Type 0 where
  pub right : first_violation plain ≡ None
  -- an index of a type, of an import and of a function
  pub import_type : first_violation (record plain { imports = record { «module» = []; field = []; ty = 3 } ∷ [] }) ≡ refused 2 0
  pub function_type : first_violation (record plain { funcs = 1 ∷ 3 ∷ [] }) ≡ refused 3 1
  -- limits turned round; at most one table and one memory; at most 65,536 pages
  pub table_limits : first_violation (record plain { tables = limits_of 2 (Some 1) ∷ [] }) ≡ refused 4 0
  pub table_grows : first_violation (record plain { tables = limits_of 2 (Some 4294967295) ∷ [] }) ≡ None
  pub tables : first_violation (record plain { tables = limits_of 1 None ∷ limits_of 1 None ∷ [] }) ≡ refused 4 1
  pub memory_limits : first_violation (record plain { memories = limits_of 2 (Some 1) ∷ [] }) ≡ refused 5 0
  pub memories : first_violation (record plain { memories = limits_of 1 None ∷ limits_of 1 None ∷ [] }) ≡ refused 5 1
  pub pages : first_violation (record plain { memories = limits_of 65536 (Some 65536) ∷ [] }) ≡ None
  pub many_pages : first_violation (record plain { memories = limits_of 65537 None ∷ [] }) ≡ refused 5 0
  pub may_have_many : first_violation (record plain { memories = limits_of 1 (Some 65537) ∷ [] }) ≡ refused 5 0
  -- a global begins with a constant of its type, and names no other
  pub long_global : first_violation (record plain { globals = global_of I32 seven ∷ global_of I64 (I64Const (pos 7) ∷ End ∷ []) ∷ [] }) ≡ None
  pub global_type : first_violation (record plain { globals = global_of I32 seven ∷ global_of I64 seven ∷ [] }) ≡ refused 6 1
  pub global_names : first_violation (record plain { globals = global_of I32 seven ∷ global_of I32 (GlobalGet 0 ∷ End ∷ []) ∷ [] }) ≡ refused 6 1
  pub no_constant : first_violation (record plain { globals = global_of I32 (Nop ∷ I32Const (pos 7) ∷ End ∷ []) ∷ [] }) ≡ refused 6 0
  pub two_constants : first_violation (record plain { globals = global_of I32 (I32Const (pos 7) ∷ I32Const (pos 7) ∷ Drop ∷ End ∷ []) ∷ [] }) ≡ refused 6 0
  -- an index of each kind that is one too high; and two exports of one name, of which the later isn't valid
  pub no_function : first_violation (record plain { exports = named 1 FUNC 3 ∷ [] }) ≡ refused 7 0
  pub no_table : first_violation (record plain { exports = named 1 FUNC 2 ∷ named 2 TABLE 1 ∷ [] }) ≡ refused 7 1
  pub no_memory : first_violation (record plain { exports = named 1 MEMORY 1 ∷ [] }) ≡ refused 7 0
  pub no_global : first_violation (record plain { exports = named 1 GLOBAL 2 ∷ [] }) ≡ refused 7 0
  pub same_name : first_violation (record plain { exports = named 1 FUNC 0 ∷ named 2 FUNC 0 ∷ named 1 MEMORY 0 ∷ [] }) ≡ refused 7 2
  pub exported_import : first_violation (record plain { exports = named 1 FUNC 0 ∷ [] }) ≡ None
  -- the function that runs first takes and gives nothing
  pub start_gives : first_violation (record plain { start = Some 1 }) ≡ refused 8 0
  pub start_takes : first_violation (record plain { start = Some 0 }) ≡ refused 8 0
  pub no_start : first_violation (record plain { start = Some 3 }) ≡ refused 8 0
  -- a place is a constant i32, or an immutable global of that type; the table, the memory and the functions are there
  pub element_global : first_violation (record plain { elements = element_at (GlobalGet 0 ∷ End ∷ []) [] ∷ [] }) ≡ None
  pub element_mutable : first_violation (record plain { elements = element_at seven [] ∷ element_at (GlobalGet 1 ∷ End ∷ []) [] ∷ [] }) ≡ refused 9 1
  pub element_no_global : first_violation (record plain { elements = element_at (GlobalGet 2 ∷ End ∷ []) [] ∷ [] }) ≡ refused 9 0
  pub element_long : first_violation (record plain { elements = element_at (I64Const (pos 7) ∷ End ∷ []) [] ∷ [] }) ≡ refused 9 0
  pub element_function : first_violation (record plain { elements = element_at seven (3 ∷ []) ∷ [] }) ≡ refused 9 0
  pub element_table : first_violation (record plain { tables = []; exports = [] }) ≡ refused 9 0
  pub data_global : first_violation (record plain { datas = bytes_at (GlobalGet 0 ∷ End ∷ []) ∷ [] }) ≡ None
  pub data_mutable : first_violation (record plain { datas = bytes_at (GlobalGet 1 ∷ End ∷ []) ∷ [] }) ≡ refused 11 0
  pub data_memory : first_violation (record plain { memories = []; exports = [] }) ≡ refused 11 0
  -- bodies are numbered from 0, without the imports, and come last
  pub first_body : first_violation (record plain { codes = record { locals = []; instrs = Nop ∷ End ∷ [] } ∷ record { locals = []; instrs = seven } ∷ [] }) ≡ Some (Body 0 1 wrong_type)
  pub second_body : first_violation (record plain { codes = record { locals = []; instrs = seven } ∷ record { locals = []; instrs = seven } ∷ [] }) ≡ Some (Body 1 1 wrong_type)
  pub data_before_bodies : first_violation (record plain { codes = record { locals = []; instrs = seven } ∷ record { locals = []; instrs = seven } ∷ []; datas = bytes_at (GlobalGet 1 ∷ End ∷ []) ∷ [] }) ≡ refused 11 0
  pub element_before_data : first_violation (record plain { elements = element_at seven (3 ∷ []) ∷ []; datas = bytes_at (GlobalGet 1 ∷ End ∷ []) ∷ [] }) ≡ refused 9 0
