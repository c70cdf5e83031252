-- Validity: which modules are valid (WebAssembly Core Specification 1.0, 3.4), as a function to the first violation.
-- What stands outside bodies is checked first, in the order of sections and their entries; then the bodies.
use Rattle.std.specs.Prelude.{◌≡◌, ℕ, suc, ◌+◌, Bool, true, false, not, ◌&&◌, nat_eq, nat_lt, nat_le, min, List, [], ◌∷◌, ◌++◌, length, take, replicate, Option, Some, None, slice_get, if◌then◌else◌}
use Rattle.std.specs.List.{list_all, list_any}
use Rattle.std.specs.Option.{option_to_list}
use Rattle.std.specs.Str.{bytes_eq}
use Rattle.zw_wasm.specs.declared.module.CodeBody.{CodeBody}
use Rattle.zw_wasm.specs.declared.module.DataSegment.{DataSegment}
use Rattle.zw_wasm.specs.declared.module.Element.{Element}
use Rattle.zw_wasm.specs.declared.module.ExportDef.{ExportDef}
use Rattle.zw_wasm.specs.declared.module.FuncImport.{FuncImport}
use Rattle.zw_wasm.specs.declared.module.FuncType.{FuncType}
use Rattle.zw_wasm.specs.declared.module.GlobalDef.{GlobalDef}
use Rattle.zw_wasm.specs.declared.module.Instr.{Instr}
use Rattle.zw_wasm.specs.declared.module.Instr.TheVariants.{End, GlobalGet, I32Const, I64Const}
use Rattle.zw_wasm.specs.declared.module.Limits.{Limits}
use Rattle.zw_wasm.specs.declared.module.Module.{Module}
use Rattle.zw_wasm.specs.declared.module.TheConstants.ExportDef.{FUNC, TABLE, MEMORY, GLOBAL}
use Rattle.zw_wasm.specs.declared.module.ValType.{ValType}
use Rattle.zw_wasm.specs.declared.module.ValType.TheVariants.{I32, I64}
use Rattle.zw_wasm.specs.Functions.{func_type, func_count}
use Rattle.zw_wasm.specs.Typing.{Place, same_type, check_code, body_control}

-- Where a module breaks a rule: an entry of a section outside bodies, both by number; or an instruction of a body, by
-- the numbers of the body and of the instruction, and why.
pub data Violation : Type 0 where
  Outside : (section entry : ℕ) → Violation
  Body : (func at code : ℕ) → Violation

-- the numbers of the sections
abbrev pub imports_section : ℕ
imports_section = 2

abbrev pub functions_section : ℕ
functions_section = 3

abbrev pub tables_section : ℕ
tables_section = 4

abbrev pub memories_section : ℕ
memories_section = 5

abbrev pub globals_section : ℕ
globals_section = 6

abbrev pub exports_section : ℕ
exports_section = 7

abbrev pub start_section : ℕ
start_section = 8

abbrev pub elements_section : ℕ
elements_section = 9

abbrev pub codes_section : ℕ
codes_section = 10

abbrev pub datas_section : ℕ
datas_section = 11

-- the first of the entries, numbered from k, that doesn't pass
abbrev pub first_refused : {A : Type 0} → (ℕ → A → Bool) → ℕ → List A → Option ℕ
first_refused ok k [] = None
first_refused ok k (x ∷ xs) = if ok k x then first_refused ok (suc k) xs else Some k

abbrev pub outside : ℕ → Option ℕ → Option Violation
outside section None = None
outside section (Some entry) = Some (Outside section entry)

-- the first violation, or else the second
abbrev pub or_then : Option Violation → Option Violation → Option Violation
or_then (Some v) next = Some v
or_then None next = next

-- the greatest size, where there is one, is at least the least (3.2.1)
abbrev pub in_limits : ℕ → Option ℕ → Bool
in_limits least None = true
in_limits least (Some greatest) = nat_le least greatest

abbrev pub max_pages : ℕ
max_pages = 65536

-- a memory has at most 65,536 pages (3.2.4)
abbrev pub at_most_pages : Option ℕ → Bool
at_most_pages None = true
at_most_pages (Some greatest) = nat_le greatest max_pages

abbrev pub memory_ok : Limits → Bool
memory_ok l = nat_le l.least max_pages && at_most_pages l.greatest && in_limits l.least l.greatest

abbrev pub immutable_type : Option GlobalDef → Option ValType
immutable_type None = None
immutable_type (Some g) = if g.mutable then None else Some g.ty

-- The type of a constant expression, which is one constant, or the value of one of these globals that isn't mutable (3.3.7.2).
abbrev pub constant_type : List GlobalDef → List Instr → Option ValType
constant_type globals (I32Const z ∷ End ∷ []) = Some I32
constant_type globals (I64Const z ∷ End ∷ []) = Some I64
constant_type globals (GlobalGet n ∷ End ∷ []) = immutable_type (slice_get globals n)
constant_type globals _ = None

abbrev pub is_constant_of : List GlobalDef → ValType → List Instr → Bool
is_constant_of globals t code = has_type (constant_type globals code)
  where
    has_type : Option ValType → Bool
    has_type None = false
    has_type (Some u) = same_type t u

-- The first value of a global names no other one: it might name an imported one, and there is none (3.4.10).
abbrev pub global_ok : GlobalDef → Bool
global_ok g = is_constant_of [] g.ty g.init

-- what an export names is there (3.4.8)
abbrev pub export_is_there : Module → ExportDef → Bool
export_is_there m e =
    if nat_eq e.kind FUNC then nat_lt e.index (func_count m)
    else (if nat_eq e.kind TABLE then nat_lt e.index (length m.tables)
    else (if nat_eq e.kind MEMORY then nat_lt e.index (length m.memories)
    else (if nat_eq e.kind GLOBAL then nat_lt e.index (length m.globals) else false)))

-- and its name differs from those before it
abbrev pub export_ok : Module → ℕ → ExportDef → Bool
export_ok m k e = export_is_there m e && not (list_any (λ (earlier : ExportDef). bytes_eq earlier.name e.name) (take k m.exports))

abbrev pub is_start_type : Option FuncType → Bool
is_start_type None = false
is_start_type (Some t) = nat_eq (length t.params) 0 && nat_eq (length (option_to_list t.result)) 0

-- the function that runs first takes and gives nothing (3.4.7)
abbrev pub start_violation : Module → Option ℕ → Option Violation
start_violation m None = None
start_violation m (Some f) = if is_start_type (func_type m f) then None else Some (Outside start_section 0)

-- a part of a table: the table and the functions are there, and its place is an i32 (3.4.5)
abbrev pub element_ok : Module → Element → Bool
element_ok m e = nat_lt e.table (length m.tables) && is_constant_of m.globals I32 e.at && list_all (λ f. nat_lt f (func_count m)) e.funcs

-- a part of a memory: the memory is there, and its place is an i32 (3.4.6)
abbrev pub data_ok : Module → DataSegment → Bool
data_ok m d = nat_lt d.memory (length m.memories) && is_constant_of m.globals I32 d.at

-- each function with a type has a body, and each body a type
abbrev pub codes_violation : Module → Option Violation
codes_violation m =
    if nat_eq (length m.codes) (length m.funcs) then None
    else Some (Outside codes_section (min (length m.codes) (length m.funcs)))

-- the first violation outside bodies (3.4.10)
abbrev pub outside_violation : Module → Option Violation
outside_violation m =
    or_then (outside imports_section (first_refused (λ k (i : FuncImport). nat_lt i.ty (length m.types)) 0 m.imports))
    (or_then (outside functions_section (first_refused (λ k ty. nat_lt ty (length m.types)) 0 m.funcs))
    (or_then (outside tables_section (first_refused (λ k (l : Limits). nat_eq k 0 && in_limits l.least l.greatest) 0 m.tables))
    (or_then (outside memories_section (first_refused (λ k (l : Limits). nat_eq k 0 && memory_ok l) 0 m.memories))
    (or_then (outside globals_section (first_refused (λ k. global_ok) 0 m.globals))
    (or_then (outside exports_section (first_refused (export_ok m) 0 m.exports))
    (or_then (start_violation m m.start)
    (or_then (outside elements_section (first_refused (λ k. element_ok m) 0 m.elements))
    (or_then (codes_violation m)
    (outside datas_section (first_refused (λ k. data_ok m) 0 m.datas))))))))))

-- the types of a body's locals beside the parameters
abbrev pub expanded : List (ℕ × ValType) → List ValType
expanded [] = []
expanded (run ∷ runs) = replicate run.0 run.1 ++ expanded runs

-- the first violation in a body of a function of this type (3.4.1)
abbrev pub check_body : Module → Option FuncType → CodeBody → Option Place
check_body m None b = None
check_body m (Some t) b =
    check_code (record { module_ = m; locals = t.params ++ expanded b.locals; returns = option_to_list t.result }) 0 b.instrs []
    (body_control (option_to_list t.result)) []

abbrev pub in_body : ℕ → Option Place → Option Violation
in_body f None = None
in_body f (Some p) = Some (Body f p.at p.code)

-- the first violation in bodies, numbered from f
abbrev pub bodies_violation : Module → ℕ → List CodeBody → Option Violation
bodies_violation m f [] = None
bodies_violation m f (b ∷ bs) =
    or_then (in_body f (check_body m (func_type m (length m.imports + f)) b)) (bodies_violation m (suc f) bs)

-- the first violation of a module
abbrev pub first_violation : Module → Option Violation
first_violation m = or_then (outside_violation m) (bodies_violation m 0 m.codes)

-- a valid module
pub record IsValid (m : Module) : Type 0 where
  pub none : first_violation m ≡ None
