-- ModuleMachine: a module as a machine of sessions. A call of an exported function from a store runs its code for a
-- bounded number of instructions; what a session may see of it is its result, its host calls, or how it halted.
use Rattle.std.specs.Prelude.{ℕ, ◌*◌, Bool, true, false, ◌&&◌, nat_eq, nat_le, List, [], ◌∷◌, map, replicate, codes, Option, Some, None, is_some, slice_get, if◌then◌else◌}
use Rattle.std.specs.Str.{bytes_eq}
use Rattle.zw_session.specs.Causes.{message_cause, last_cause}
use Rattle.zw_session.specs.Incoming.{is_word, modulo}
use Rattle.zw_session.specs.Sessions.{Scalar, Number, Truth, Call, Halt, Panicked, WantsReply, Running, Trapped, CallEnd, Returned, Halted, Outcome, Machine}
use Rattle.zw_wasm.specs.declared.module.DataSegment.{DataSegment}
use Rattle.zw_wasm.specs.declared.module.Element.{Element}
use Rattle.zw_wasm.specs.declared.module.ExportDef.{ExportDef}
use Rattle.zw_wasm.specs.declared.module.FuncType.{FuncType}
use Rattle.zw_wasm.specs.declared.module.GlobalDef.{GlobalDef}
use Rattle.zw_wasm.specs.declared.module.Instr.{Instr}
use Rattle.zw_wasm.specs.declared.module.Instr.TheVariants.{GlobalGet, I32Const, I64Const}
use Rattle.zw_wasm.specs.declared.module.Limits.{Limits}
use Rattle.zw_wasm.specs.declared.module.Module.{Module}
use Rattle.zw_wasm.specs.declared.module.TheConstants.ExportDef.{FUNC, GLOBAL}
use Rattle.zw_wasm.specs.declared.module.ValType.{ValType}
use Rattle.zw_wasm.specs.declared.module.ValType.TheVariants as ty
use Rattle.zw_wasm.specs.Reduction.{Store, World, overwritten, page_size, Frame, Config, Step, Next, Stops, Rests, Stop, Finished, Trap, NoReply, Run, Going, Ended, enter, resolved, run, no_rule, unreachable_trap}
use Rattle.zw_wasm.specs.Signature.{Reading, Unsigned, Signed, Logical, Signature, View, scalar_of, bytes_at}
use Rattle.zw_wasm.specs.Structure.{Num, I32, I64, Ends, num_of, bits_of, long_of, word_of}
use Rattle.zw_wasm.specs.Functions.{func_type}

-- the bits of a constant expression, with these values of globals (4.4.8)
abbrev pub global_bits : Option Num → ℕ
global_bits None = 0
global_bits (Some v) = bits_of v

abbrev pub constant_of : List Num → List Instr → ℕ
constant_of globals (I32Const z ∷ is) = word_of z
constant_of globals (I64Const z ∷ is) = long_of z
constant_of globals (GlobalGet n ∷ is) = global_bits (slice_get globals n)
constant_of globals _ = 0

abbrev pub first_sizes : List Limits → ℕ
first_sizes [] = 0
first_sizes (l ∷ ls) = l.least

abbrev pub with_segments : List Num → List DataSegment → List ℕ → List ℕ
with_segments globals [] memory = memory
with_segments globals (d ∷ ds) memory = with_segments globals ds (overwritten memory (constant_of globals d.at) d.bytes)

abbrev pub with_elements : List Num → List Element → List (Option ℕ) → List (Option ℕ)
with_elements globals [] table = table
with_elements globals (e ∷ es) table = with_elements globals es (overwritten table (constant_of globals e.at) (map (λ f. Some f) e.funcs))

-- the values that the globals begin with, of which none names another
abbrev pub first_values : Module → List Num
first_values m = map (λ (g : GlobalDef). num_of g.ty (constant_of [] g.init)) m.globals

-- the store that a module begins with (4.5.4): zeros, but for its segments
abbrev pub first_store : Module → Store
first_store m = record {
  globals = first_values m;
  memory = with_segments (first_values m) m.datas (replicate (first_sizes m.memories * page_size) 0);
  table = with_elements (first_values m) m.elements (replicate (first_sizes m.tables) None);
}

-- the number of what is exported as this kind under this name
abbrev pub export_in : ℕ → List ℕ → List ExportDef → Option ℕ
export_in kind name [] = None
export_in kind name (e ∷ es) = if nat_eq e.kind kind && bytes_eq e.name name then Some e.index else export_in kind name es

-- the bits of a value, in two's complement where it is negative
abbrev pub bits_of_scalar : ValType → Scalar → Num
bits_of_scalar ty.I32 (Number z) = I32 (modulo 32 z)
bits_of_scalar ty.I64 (Number z) = I64 (modulo 64 z)
bits_of_scalar t (Truth true) = num_of t 1
bits_of_scalar t (Truth false) = num_of t 0

-- the arguments, each at the type of its parameter
abbrev pub arg_nums : List ValType → List Scalar → List Num
arg_nums [] args = []
arg_nums (t ∷ ts) [] = []
arg_nums (t ∷ ts) (a ∷ args) = bits_of_scalar t a ∷ arg_nums ts args

-- the host's own frame, over which an exported function runs
abbrev pub host_frame : Frame
host_frame = record { func = 0; arity = 0; locals = []; operands = []; code = Ends; labels = [] }

-- before a call from outside
abbrev pub idle : World → Config
idle w = record { frame = host_frame; below = []; world = w }

abbrev pub param_types : Option FuncType → List ValType
param_types None = []
param_types (Some t) = t.params

-- The call itself takes no instruction.
abbrev pub begun : Step → World → Module → View → ℕ → Run
begun (Next c) w m v bound = run m v bound c
begun (Stops s d) w m v bound = Ended s d bound
begun (Rests results) w m v bound = Ended (Finished results) w bound

-- a run of a function of the module, by its number
abbrev pub run_function : Module → View → ℕ → List Num → World → ℕ → Run
run_function m v f args w bound = begun (resolved m v w (enter m f args (idle w))) w m v bound

-- a run of what is exported under a name
abbrev pub run_export : Option ℕ → Module → View → List Scalar → World → ℕ → Run
run_export None m v args w bound = Ended (Trap no_rule) w bound
run_export (Some f) m v args w bound = run_function m v f (arg_nums (param_types (func_type m f)) args) w bound

-- the value of an i32 global, where there is one
abbrev pub i32_of : Option Num → Option ℕ
i32_of None = None
i32_of (Some (I32 n)) = Some n
i32_of (Some (I64 n)) = None

abbrev pub global_at : Store → Option ℕ → Option ℕ
global_at store None = None
global_at store (Some g) = i32_of (slice_get store.globals g)

abbrev pub exported_global : Module → Store → List ℕ → Option ℕ
exported_global m store name = global_at store (export_in GLOBAL name m.exports)

-- a panic with a message, where all its bytes are in the memory
abbrev pub panic_with : Option (List ℕ) → Halt
panic_with None = Trapped unreachable_trap
panic_with (Some bytes) = Panicked message_cause bytes

-- a panic without a message, where there is such a cause, and pointer and length are 0
abbrev pub panic_without : ℕ → ℕ → ℕ → Halt
panic_without cause at count = if (nat_le 1 cause && nat_le cause last_cause) && (nat_eq at 0 && nat_eq count 0) then Panicked cause [] else Trapped unreachable_trap

abbrev pub panic_of : List ℕ → Option ℕ → Option ℕ → Option ℕ → Halt
panic_of memory (Some cause) (Some at) (Some count) = if nat_eq cause message_cause then panic_with (bytes_at memory at count) else panic_without cause at count
panic_of memory _ _ _ = Trapped unreachable_trap

-- A trap at `unreachable` is a panic where the module exports the panic's state with a cause in range, and without a message pointer and
-- length are 0.
abbrev pub trap_halt : Module → Store → ℕ → Halt
trap_halt m store code =
    if nat_eq code unreachable_trap
    then panic_of store.memory (exported_global m store (codes "panic_cause")) (exported_global m store (codes "panic_ptr")) (exported_global m store (codes "panic_len"))
    else Trapped code

-- the value that the results stand for
abbrev pub value_of : Option Reading → List Num → Option Scalar
value_of None results = None
value_of (Some r) [] = None
value_of (Some r) (n ∷ results) = Some (scalar_of r n)

abbrev pub result_reading : Option Signature → Option Reading
result_reading None = None
result_reading (Some s) = s.result

abbrev pub end_of : Module → Option Reading → Stop → World → ℕ → CallEnd Store
end_of m r (Finished results) w left = Returned (value_of r results) w.store w.replies left
end_of m r (Trap code) w left = Halted (trap_halt m w.store code)
end_of m r NoReply w left = Halted WantsReply

-- what a session sees of a run
abbrev pub outcome_of : Module → Option Reading → Run → Outcome Store
outcome_of m r (Going w) = record { events = w.events; end = Halted Running }
outcome_of m r (Ended s w left) = record { events = w.events; end = end_of m r s w left }

-- a call of what is exported under a name
abbrev pub call_of : Module → View → Store → Call → List ℕ → ℕ → Outcome Store
call_of m v store c replies bound =
    outcome_of m (result_reading (v.exported c.name))
    (run_export (export_in FUNC c.name m.exports) m v c.args (record { store = store; replies = replies; events = [] }) bound)

-- the type that carries the values of a declared type
abbrev pub carrier : Reading → ValType
carrier (Unsigned bits) = if nat_le bits 32 then ty.I32 else ty.I64
carrier (Signed bits) = if nat_le bits 32 then ty.I32 else ty.I64
carrier Logical = ty.I32

-- whether a host can hand this over as a number of the type: any number of its width, with a sign or without one, and a truth value as
-- the `i32` that it is
abbrev pub comes_in : ValType → Scalar → Bool
comes_in ty.I32 (Number z) = is_word 32 z
comes_in ty.I64 (Number z) = is_word 64 z
comes_in ty.I32 (Truth b) = true
comes_in ty.I64 (Truth b) = false

-- As many arguments as parameters, each a number of the type that carries its own: also one that its declared type doesn't have, since no
-- host is kept from handing it over.
abbrev pub args_fit : List Reading → List Scalar → Bool
args_fit [] [] = true
args_fit (r ∷ rs) (a ∷ args) = comes_in (carrier r) a && args_fit rs args
args_fit [] (a ∷ args) = false
args_fit (r ∷ rs) [] = false

abbrev pub signature_fits : Option Signature → List Scalar → Bool
signature_fits None args = false
signature_fits (Some s) args = args_fit s.params args

-- a function is exported under this name, and the arguments fit
abbrev pub call_fits : Module → View → Call → Bool
call_fits m v c = is_some (export_in FUNC c.name m.exports) && signature_fits (v.exported c.name) c.args

-- the machine of a module whose functions have these declared types
abbrev pub module_machine : Module → View → Machine Store
module_machine m v = record { fits = call_fits m v; call = call_of m v }
