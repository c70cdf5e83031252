-- Hosts: how lines name the imports of a module file, and what they show of a host call. A file doesn't tell the types of its
-- functions past their widths, so each number is read with its sign, and no argument shows bytes. This project's own.
use Rattle.std.specs.Prelude.{ℕ, true, List, [], ◌++◌, map, codes, Option, Some, None, slice_get, if◌then◌else◌}
use Rattle.std.specs.List.{flat_map}
use Rattle.std.specs.Str.{bytes_eq}
use Rattle.zw_report.specs.Lines.{argument, begin}
use Rattle.zw_report.specs.declared.arg.Arg.{Arg}
use Rattle.zw_report.specs.declared.arg.Arg.TheVariants as arg
use Rattle.zw_report.specs.declared.item.ItemTy.{ItemTy}
use Rattle.zw_report.specs.declared.item.ItemTy.TheVariants.{Int}
use Rattle.zw_session.specs.Sessions.{HostEvent, Scalar, Number, Truth}
use Rattle.zw_wasm.specs.declared.module.FuncImport.{FuncImport}
use Rattle.zw_wasm.specs.declared.module.FuncType.{FuncType}
use Rattle.zw_wasm.specs.declared.module.Module.{Module}
use Rattle.zw_wasm.specs.declared.module.ValType.{ValType}
use Rattle.zw_wasm.specs.declared.module.ValType.TheVariants as ty
use Rattle.zw_wasm.specs.Functions.{func_type}
use Rattle.zw_wasm.specs.ModuleMachine.{param_types}
use Rattle.zw_wasm.specs.Signature.{Shown, Signed, Value, View}
use Rattle.zw_wasm_run.specs.Calls.{seen}
use Rattle.zw_wasm_run.specs.Naming.{named}
use Rattle.zw_wasm_run.specs.declared.event.Event.{Event}

-- an import's name: its field, behind its module and a dot where that isn't `env`
abbrev pub import_name : FuncImport → List ℕ
import_name i = if bytes_eq i.module (codes "env") then i.field else i.module ++ codes "." ++ i.field

abbrev pub name_of : Option FuncImport → List ℕ
name_of None = []
name_of (Some i) = import_name i

-- the module in which each import's field is that name, since a host call tells the field alone
abbrev pub told_apart : Module → Module
told_apart m = named (λ k. name_of (slice_get m.imports k)) m

-- numbers with their sign
abbrev pub signed_number : ValType → Shown
signed_number ty.I32 = Value (Signed 32)
signed_number ty.I64 = Value (Signed 64)

abbrev pub signed_params : Option FuncType → List Shown
signed_params t = map signed_number (param_types t)

-- a host that is shown each number with its sign
abbrev pub signed_view : Module → View
signed_view m = record { exported = λ name. None; import_params = λ k. signed_params (func_type m k) }

-- the type by which a number is printed with its sign
abbrev pub signed_type : ValType → ItemTy
signed_type ty.I32 = Int true 32
signed_type ty.I64 = Int true 64

-- a value as a word of a line has it
abbrev pub arg_of : Scalar → Arg
arg_of (Number n) = arg.Number n
arg_of (Truth b) = arg.Truth b

abbrev pub item : Scalar → List ℕ
item value = argument (arg_of value)

-- `host NAME ITEM..`
abbrev pub host_line : HostEvent → List ℕ
host_line event = begin (codes "host") event.name ++ flat_map item event.args ++ codes "\n"

-- the line of an event of a machine that shows no bytes
unfoldable pub event_text : Module → Event → List ℕ
event_text m event = host_line (seen (told_apart m) (signed_view m) event)
