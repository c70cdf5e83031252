-- WorkedSessions: sessions of small modules, worked out by hand.
use Rattle.std.specs.Prelude.{◌≡◌, ℕ, pos, true, List, [], ◌∷◌, codes, None, Some}
use Rattle.zw_exec.specs.Sessions.{session}
use Rattle.zw_exec.specs.declared.call.SessionCall.{SessionCall}
use Rattle.zw_exec.specs.declared.end.SessionEnd.{SessionEnd}
use Rattle.zw_exec.specs.declared.end.SessionEnd.TheVariants.{Done, Panicked, StepsOut, Trapped, WantsReply}
use Rattle.zw_report.specs.declared.arg.Arg.{Arg}
use Rattle.zw_report.specs.declared.arg.Arg.TheVariants.{Number, Truth}
use Rattle.zw_wasm.specs.declared.module.ExportDef.{ExportDef}
use Rattle.zw_wasm.specs.declared.module.GlobalDef.{GlobalDef}
use Rattle.zw_wasm.specs.declared.module.Instr.{Instr}
use Rattle.zw_wasm.specs.declared.module.Instr.TheVariants.{Call, End, I32Const, LocalGet, Unreachable}
use Rattle.zw_wasm.specs.declared.module.Limits.{Limits}
use Rattle.zw_wasm.specs.declared.module.Module.{Module}
use Rattle.zw_wasm.specs.declared.module.ValType.TheVariants as ty
use Rattle.zw_wasm.specs.ModuleMachine.{first_values}
use Rattle.zw_wasm.specs.Structure.{i32_sub}
use Rattle.zw_wasm_run.specs.Calls.{State}

-- the function with this number under a name
abbrev pub exported : List ℕ → ℕ → ExportDef
exported name number = record { name = name; kind = 0; index = number }

abbrev pub global_named : List ℕ → ℕ → ExportDef
global_named name number = record { name = name; kind = 3; index = number }

abbrev pub constant : ℕ → GlobalDef
constant n = record { ty = ty.I32; mutable = true; init = I32Const (pos n) ∷ End ∷ [] }

-- A module with a function `g` of two numbers that gives the first to a host, and answers what its code does then. The host's
-- functions are `tick` of `env` and `ask` of `sys`, of which the second is exported too, and has a result.
abbrev pub module_of : List Instr → List GlobalDef → List Limits → Module
module_of instrs globals memories = record {
  types = record { params = ty.I32 ∷ []; result = None } ∷ record { params = []; result = Some ty.I32 } ∷ record { params = ty.I32 ∷ ty.I32 ∷ []; result = Some ty.I32 } ∷ [];
  imports = record { «module» = codes "env"; field = codes "tick"; ty = 0 } ∷ record { «module» = codes "sys"; field = codes "ask"; ty = 1 } ∷ [];
  funcs = 2 ∷ [];
  tables = [];
  memories = memories;
  globals = globals;
  exports = exported (codes "g") 2 ∷ exported (codes "ask") 1 ∷ global_named (codes "panic_cause") 0 ∷ global_named (codes "panic_ptr") 1 ∷ global_named (codes "panic_len") 2 ∷ [];
  start = None;
  elements = [];
  codes = record { locals = []; instrs = LocalGet 0 ∷ Call 0 ∷ instrs } ∷ [];
  datas = [];
}

abbrev pub subtracts : List Instr
subtracts = LocalGet 0 ∷ LocalGet 1 ∷ i32_sub ∷ End ∷ []

abbrev pub state : Module → List ℕ → List ℕ → ℕ → State
state m memory replies steps = record { store = record { globals = first_values m; memory = memory; table = [] }; replies = replies; steps = steps }

abbrev pub g_of : Arg → Arg → SessionCall
g_of a b = record { name = codes "g"; func = 2; args = a ∷ b ∷ []; nums = [] }

abbrev pub ask : SessionCall
ask = record { name = codes "ask"; func = 1; args = []; nums = [] }

-- what a session of these calls tells
abbrev pub Tells : List Instr → List GlobalDef → List SessionCall → List ℕ → ℕ → List ℕ → SessionEnd → Type 0
Tells instrs globals calls replies steps text end =
    session (module_of instrs globals []) calls (state (module_of instrs globals []) [] replies steps) ≡ record { text = text; end = end }

abbrev pub panics : ℕ → List GlobalDef
panics cause = constant cause ∷ constant 1 ∷ constant 2 ∷ []

pub record WorkedSessions : Type 0 where
  pub no_call : Tells subtracts [] [] [] 9 [] Done
  pub result : Tells subtracts [] (g_of (Number (pos 3)) (Number (pos 2)) ∷ []) [] 9 (codes "call g 3 2\nhost tick 3\nresult 1\n") Done
  -- numbers are told with their sign, and arguments as they were given
  pub signed : Tells subtracts [] (g_of (Number (pos 4294967295)) (Truth true) ∷ []) [] 9 (codes "call g 4294967295 true\nhost tick -1\nresult -2\n") Done
  -- the import's module is a part of its name, and a call of it takes no step
  pub import : Tells subtracts [] (ask ∷ ask ∷ []) (7 ∷ 8 ∷ []) 0 (codes "call ask\nhost sys.ask\nresult 7\ncall ask\nhost sys.ask\nresult 8\n") Done
  pub wants_reply : Tells subtracts [] (ask ∷ ask ∷ ask ∷ []) (7 ∷ []) 0 (codes "call ask\nhost sys.ask\nresult 7\ncall ask\nhost sys.ask\nwants reply\n") WantsReply
  -- the steps go on from call to call
  pub steps_out : Tells subtracts [] (g_of (Number (pos 3)) (Number (pos 2)) ∷ g_of (Number (pos 3)) (Number (pos 2)) ∷ []) [] 7 (codes "call g 3 2\nhost tick 3\nresult 1\ncall g 3 2\nhost tick 3\nsteps ran out\n") StepsOut
  -- traps, with a panic's cause and without, end the session
  pub trap : Tells (Unreachable ∷ End ∷ []) [] (g_of (Number (pos 3)) (Number (pos 2)) ∷ ask ∷ []) (7 ∷ []) 9 (codes "call g 3 2\nhost tick 3\ntrap\n") Trapped
  pub panic : Tells (Unreachable ∷ End ∷ []) (panics 1) (g_of (Number (pos 3)) (Number (pos 2)) ∷ ask ∷ []) (7 ∷ []) 9 (codes "call g 3 2\nhost tick 3\npanic 1 IntegerOverflow\n") Panicked
  pub last_cause : Tells (Unreachable ∷ End ∷ []) (panics 19) (g_of (Number (pos 3)) (Number (pos 2)) ∷ []) [] 9 (codes "call g 3 2\nhost tick 3\npanic 19 CallDepth\n") Panicked
  pub no_cause : Tells (Unreachable ∷ End ∷ []) (panics 0) (g_of (Number (pos 3)) (Number (pos 2)) ∷ []) [] 9 (codes "call g 3 2\nhost tick 3\ntrap\n") Trapped
  pub past_the_causes : Tells (Unreachable ∷ End ∷ []) (panics 20) (g_of (Number (pos 3)) (Number (pos 2)) ∷ []) [] 9 (codes "call g 3 2\nhost tick 3\ntrap\n") Trapped
  -- a message wants a memory that holds it
  pub no_memory : Tells (Unreachable ∷ End ∷ []) (panics 18) (g_of (Number (pos 3)) (Number (pos 2)) ∷ []) [] 9 (codes "call g 3 2\nhost tick 3\ntrap\n") Trapped
  pub message : session (module_of (Unreachable ∷ End ∷ []) (panics 18) (record { least = 1; greatest = None } ∷ [])) (g_of (Number (pos 3)) (Number (pos 2)) ∷ [])
      (state (module_of [] (panics 18) []) (codes ".hi") [] 9) ≡ record { text = codes "call g 3 2\nhost tick 3\npanic 18 Message hex:6869\n"; end = Panicked }
