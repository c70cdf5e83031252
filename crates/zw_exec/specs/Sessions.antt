-- Sessions: what calls of a module file's exports come to by reduction, one after another, as lines tell it. What the frames share,
-- the replies and the steps go on from call to call. The session ends behind the first call that doesn't return.
use Rattle.std.specs.Prelude.{◌≡◌, ℕ, List, [], ◌∷◌, ◌++◌, length, map, Option, Some, Result, Ok, Err}
use Rattle.std.specs.Io.KnownBytes.{Appends}
use Rattle.std.specs.List.{flat_map}
use Rattle.zw_base.specs.Outside.{AppendsFront}
use Rattle.zw_base.specs.declared.outside.PutErr.{PutErr}
use Rattle.zw_exec.specs.Ends.{end_of, session_end}
use Rattle.zw_exec.specs.Hosts.{host_line, signed_view, told_apart}
use Rattle.zw_exec.specs.declared.call.SessionCall.{SessionCall}
use Rattle.zw_exec.specs.declared.end.SessionEnd.{SessionEnd}
use Rattle.zw_exec.specs.declared.end.SessionEnd.TheVariants as session_end_variants
use Rattle.zw_report.specs.Lines.{call_line, end_line}
use Rattle.zw_report.specs.declared.arg.Arg.{Arg}
use Rattle.zw_report.specs.declared.arg.Arg.TheVariants as arg
use Rattle.zw_session.specs.Sessions.{Scalar, Number, Truth}
use Rattle.zw_wasm.specs.declared.module.Module.{Module}
use Rattle.zw_wasm.specs.declared.module.TheConstants.ExportDef.{FUNC}
use Rattle.zw_wasm.specs.Functions.{func_type}
use Rattle.zw_wasm.specs.ModuleMachine.{arg_nums, export_in, param_types, run_export}
use Rattle.zw_wasm.specs.Reduction.{Ended, Going, Run, World}
use Rattle.zw_wasm_run.specs.Calls.{State}

-- the value of an argument
abbrev pub value_of : Arg → Scalar
value_of (arg.Number n) = Number n
value_of (arg.Truth b) = Truth b

-- a call of a function that the module exports, with its number, and with the arguments as numbers of the parameters' types
pub record IsCallOf (m : Module) (c : SessionCall) : Type 0 where
  pub exported : export_in FUNC c.name m.exports ≡ Some c.func
  pub enough : length c.args ≡ length (param_types (func_type m c.func))
  pub numbers : c.nums ≡ arg_nums (param_types (func_type m c.func)) (map value_of c.args)

-- what a call comes to
unfoldable pub run_of : Module → SessionCall → State → Run
run_of m c s =
    run_export (export_in FUNC c.name m.exports) (told_apart m) (signed_view m) (map value_of c.args)
    (record { store = s.store; replies = s.replies; events = [] }) s.steps

abbrev pub world_of : Run → World
world_of (Going w) = w
world_of (Ended stop w left) = w

abbrev pub steps_of : Run → ℕ
steps_of (Going w) = 0
steps_of (Ended stop w left) = left

-- what a call leaves to the next one
abbrev pub left_by : Run → State
left_by r = record { store = (world_of r).store; replies = (world_of r).replies; steps = steps_of r }

-- the lines of a call: what it was given, its host calls in order, and its end
unfoldable pub lines_of : Module → SessionCall → Run → List ℕ
lines_of m c r = call_line c.name c.args ++ flat_map host_line (world_of r).events ++ end_line (end_of m r)

-- the text of a session, and how it ends
pub record Told : Type 0 where
  pub text : List ℕ
  pub end : SessionEnd

abbrev pub behind : List ℕ → Told → Told
behind lines rest = record { text = lines ++ rest.text; end = rest.end }

-- the rest of a session behind a call that ended so: nothing, unless it returned
abbrev pub going_on : SessionEnd → Told → Told
going_on session_end_variants.Done rest = rest
going_on end rest = record { text = []; end = end }

unfoldable pub session : Module → List SessionCall → State → Told
session m [] s = record { text = []; end = session_end_variants.Done }
session m (c ∷ cs) s = behind (lines_of m c (run_of m c s)) (going_on (session_end (end_of m (run_of m c s))) (session m cs (left_by (run_of m c s))))

-- an output took the text of a session that ends so, or a front of it
abbrev pub Writes : Told → Option (List ℕ) → Option (List ℕ) → Result SessionEnd PutErr → Type 0
Writes told old new (Ok end) = Appends old new told.text × (end ≡ told.end)
Writes told old new (Err e) = AppendsFront old new told.text
