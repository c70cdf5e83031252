-- Modules: the module of a program. It imports the functions of the host that are called, has a function for each exported
-- one, a memory, and the three globals that hold a panic's state.
use Rattle.std.specs.Prelude.{ℕ, suc, pos, ◌+◌, ◌*◌, ◌/◌, max, Bool, true, false, List, [], ◌∷◌, ◌++◌, length, map, replicate, codes, Some, None, if◌then◌else◌}
use Rattle.std.specs.Int.{cast_signed, w32}
use Rattle.std.specs.List.{flat_map, list_any}
use Rattle.zw_form.specs.declared.program.Action.{Action}
use Rattle.zw_form.specs.declared.program.Action.TheVariants as action
use Rattle.zw_form.specs.declared.program.Function.{Function}
use Rattle.zw_form.specs.declared.program.Import.{Import}
use Rattle.zw_form.specs.declared.program.Program.{Program}
use Rattle.zw_num.specs.declared.operator.Operator.TheVariants as family
use Rattle.zw_safety.specs.Checked.{u32}
use Rattle.zw_safety.specs.Families.{stored_code}
use Rattle.zw_safety_narrow.specs.Operators.{writes_locals as operator_writes}
use Rattle.zw_safety_narrow.specs.declared.setting.Setting.{Setting}
use Rattle.zw_wasm.specs.declared.module.CodeBody.{CodeBody}
use Rattle.zw_wasm.specs.declared.module.ExportDef.{ExportDef}
use Rattle.zw_wasm.specs.declared.module.FuncImport.{FuncImport}
use Rattle.zw_wasm.specs.declared.module.FuncType.{FuncType}
use Rattle.zw_wasm.specs.declared.module.GlobalDef.{GlobalDef}
use Rattle.zw_wasm.specs.declared.module.Instr.{Instr}
use Rattle.zw_wasm.specs.declared.module.Instr.TheVariants.{End, Call, LocalGet, I32Const}
use Rattle.zw_wasm.specs.declared.module.Limits.{Limits}
use Rattle.zw_wasm.specs.declared.module.Module.{Module}
use Rattle.zw_wasm.specs.declared.module.TheConstants.ExportDef.{FUNC, MEMORY, GLOBAL}
use Rattle.zw_wasm.specs.declared.module.ValType.{ValType}
use Rattle.zw_wasm.specs.declared.module.ValType.TheVariants.{I32, I64}

-- an operator on values of `u32`, in a function whose locals behind its parameters begin at this number
abbrev pub on_u32 : ℕ → Setting
on_u32 scratch = record { left = u32; right = u32; to = u32; scratch = scratch }

-- the code of an action, in a function whose locals behind its parameters begin at this number
abbrev pub action_code : ℕ → Action → List Instr
action_code scratch (action.Parameter n) = LocalGet n ∷ []
action_code scratch (action.Number n) = I32Const (cast_signed w32 n) ∷ []
action_code scratch (action.Operate operator) = stored_code (family.Arithmetic operator) (on_u32 scratch)
action_code scratch (action.Call k) = Call k ∷ []

-- whether the code of an action writes locals
abbrev pub writes_locals : Action → Bool
writes_locals (action.Parameter n) = false
writes_locals (action.Number n) = false
writes_locals (action.Operate operator) = operator_writes (family.Arithmetic operator) (on_u32 0)
writes_locals (action.Call k) = false

-- four i32 and four i64, where some code writes locals
abbrev pub locals_of : List Action → List (ℕ × ValType)
locals_of actions = if list_any writes_locals actions then (4, I32) ∷ (4, I64) ∷ [] else []

abbrev pub body_of : Function → CodeBody
body_of f = record {
  locals = locals_of f.actions;
  instrs = flat_map (action_code f.params) f.actions ++ End ∷ [];
}

-- so many i32 parameters, and an i32 as the result or none
abbrev pub number_type : ℕ → Bool → FuncType
number_type params has_result = record { params = replicate params I32; result = if has_result then Some I32 else None }

abbrev pub import_type : Import → FuncType
import_type i = number_type i.params i.has_result

abbrev pub function_type : Function → FuncType
function_type f = number_type f.params true

-- imports of the module `env`, whose types have the numbers from k on
abbrev pub imports_from : ℕ → List Import → List FuncImport
imports_from k [] = []
imports_from k (i ∷ imports) = record { «module» = codes "env"; field = i.name; ty = k } ∷ imports_from (suc k) imports

-- so many numbers, from k on
abbrev pub numbers_from : {A : Type 0} → ℕ → List A → List ℕ
numbers_from k [] = []
numbers_from k (x ∷ xs) = k ∷ numbers_from (suc k) xs

abbrev pub export_of : List ℕ → ℕ → ℕ → ExportDef
export_of name kind index = record { name = name; kind = kind; index = index }

-- exports of functions, which have the numbers from k on
abbrev pub exports_from : ℕ → List Function → List ExportDef
exports_from k [] = []
exports_from k (f ∷ functions) = export_of f.name FUNC k ∷ exports_from (suc k) functions

-- the exports behind those of functions
abbrev pub state_exports : List ExportDef
state_exports =
    export_of (codes "memory") MEMORY 0 ∷ export_of (codes "panic_cause") GLOBAL 0 ∷ export_of (codes "panic_ptr") GLOBAL 1
    ∷ export_of (codes "panic_len") GLOBAL 2 ∷ []

-- a mutable i32 that begins at 0
abbrev pub zero_global : GlobalDef
zero_global = record { ty = I32; mutable = true; init = I32Const (pos 0) ∷ End ∷ [] }

-- the greatest number of parameters of a function
abbrev pub most_params : List Function → ℕ
most_params [] = 0
most_params (f ∷ functions) = max f.params (most_params functions)

-- enough pages of 65,536 bytes for 16 bytes and 2,048 frames, in which each parameter weighs 8 bytes
abbrev pub pages_for : ℕ → ℕ
pages_for params = (16 + 2048 * (8 * params) + 65535) / 65536

-- a memory that can't grow
abbrev pub memory_for : ℕ → Limits
memory_for params = record { least = pages_for params; greatest = Some (pages_for params) }

-- the module: imported functions come first
abbrev pub module_of : Program → Module
module_of p = record {
  types = map import_type p.imports ++ map function_type p.functions;
  imports = imports_from 0 p.imports;
  funcs = numbers_from (length p.imports) p.functions;
  tables = [];
  memories = memory_for (most_params p.functions) ∷ [];
  globals = zero_global ∷ zero_global ∷ zero_global ∷ [];
  exports = exports_from (length p.imports) p.functions ++ state_exports;
  start = None;
  elements = [];
  codes = map body_of p.functions;
  datas = [];
}
