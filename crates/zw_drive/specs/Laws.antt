-- What holds of sessions with a file and with a module alike, and which calls make a session.
use Rattle.std.specs.Prelude.{◌≡◌, ℤ, List, length, All, IsTrue, Some}
use Rattle.zw_calls.specs.Numbers.{IsNarrow}
use Rattle.zw_form.specs.Source.{Exported, export_named, source_fits, source_machine}
use Rattle.zw_form.specs.Trees.{Tree}
use Rattle.zw_session.specs.Bounds.{SessionsStayEnded}
use Rattle.zw_session.specs.Sessions.{Scalar, Number, Call, AllFit}
use Rattle.zw_wasm.specs.ModuleMachine.{module_machine}
use Rattle.zw_wasm.specs.Signature.{View}
use Rattle.zw_wasm.specs.declared.module.Module.{Module}

-- A session that ended stays ended with the same record under a larger bound, at the file and at the module.
pub record EndsAreKept : Type 0 where
  pub source : (trees : List Tree) → SessionsStayEnded (source_machine trees)
  pub target : (m : Module) (v : View) → SessionsStayEnded (module_machine m v)

-- an argument that is a number of 32 bits, with a sign or without one: from -2^31 to 2^32 - 1
abbrev pub IsWord : Scalar → Type 0
IsWord arg = (z : ℤ) × (arg ≡ Number z) × IsNarrow z

-- a call of an exported function by its name, with a number of 32 bits for each parameter
pub record IsFitting (trees : List Tree) (call : Call) : Type 0 where
  pub function : Exported
  pub named : export_named trees call.name ≡ Some function
  pub count : length call.args ≡ length function.params
  pub values : All IsWord call.args

-- Calls of another name, with another number of arguments, or with an argument that is no number of 32 bits make no session, and no other
-- calls are left out: what comes in may be told with a sign.
pub record SessionsAreOfFittingCalls (trees : List Tree) : Type 0 where
  pub fitting : (call : Call) → IsTrue (source_fits trees call) → IsFitting trees call
  pub fits : (call : Call) → IsFitting trees call → IsTrue (source_fits trees call)
  pub sessions : (calls : List Call) → AllFit (source_machine trees) calls → All (IsFitting trees) calls
