-- What the code of a function stands on, and how it comes out beside what the function evaluates to.
use Rattle.std.proofs.Common.{◌≡◌, ℕ, ◌<◌, ◌^◌, true, List, [], ◌∷◌, ◌++◌, length, map, replicate, reverse, Some, All, Contains}
use Rattle.std.specs.Prelude.{nat_lt, slice_get}
use Rattle.std.specs.List.{flat_map}
use Rattle.zw_names.specs.NameSets.{number_in}
use Rattle.zw_form.specs.Programs.{action_of}
use Rattle.zw_form.specs.Source.{Answer, Gives, Stops}
use Rattle.zw_form.specs.declared.source.ExternFunction.{ExternFunction}
use Rattle.zw_form.specs.declared.source.Step.{Step}
use Rattle.zw_lower.specs.Modules.{action_code, writes_locals, number_type}
use Rattle.zw_safety.specs.Checked.{HasScratch, HasPanicState, KeepsOthers, panic_globals}
use Rattle.zw_session.specs.Sessions.{HostEvent, Panicked, WantsReply, Running, Wild, Trapped}
use Rattle.zw_wasm.specs.declared.module.Instr.{Instr}
use Rattle.zw_wasm.specs.declared.module.Module.{Module}
use Rattle.zw_wasm.specs.declared.num.Num.{Num}
use Rattle.zw_wasm.specs.declared.num.Num.TheVariants.{I32}
use Rattle.zw_wasm.specs.Functions.{func_type}
use Rattle.zw_wasm.specs.Reduction.{Config, World, Stop, Trap, NoReply, unreachable_trap, field_of, with_world}
use Rattle.zw_wasm.specs.Sequences.{placed, with_locals, Runs, Halts}
use Rattle.zw_wasm.specs.Signature.{View, Value, Unsigned}
use Rattle.zw_wasm.specs.Structure.{Code}

-- the code of steps, of which each names imports and parameters
abbrev pub steps_code : List (List ℕ) → List (List ℕ) → List Step → List Instr
steps_code imports params steps = flat_map (λ s. action_code (length params) (action_of imports params s)) steps

-- the module imports a function of the host under this number, as it is declared
pub record IsImported (m : Module) (v : View) (f : ExternFunction) (k : ℕ) : Type 0 where
  pub imported : nat_lt k (length m.imports) ≡ true
  pub typed : func_type m k ≡ Some (number_type (length f.params) f.has_result)
  pub field : field_of (slice_get m.imports k) ≡ f.name
  pub shown : v.import_params k ≡ replicate (length f.params) (Value (Unsigned 32))

-- each extern function that is called is imported under its number
pub record Imports (m : Module) (v : View) (externs : List ExternFunction) (imports : List (List ℕ)) : Type 0 where
  pub each : (f : ExternFunction) → Contains externs f → Contains imports f.name → IsImported m v f (number_in imports f.name)

-- A configuration in which code of these steps may run: each parameter's local has its value, the locals that steps write
-- are there, and so is the state of a panic.
pub record Placed (imports params : List (List ℕ)) (values : List ℕ → ℕ) (steps : List Step) (c : Config) : Type 0 where
  pub small : (name : List ℕ) → Contains params name → values name < 2 ^ 32
  pub locals : (name : List ℕ) → Contains params name → slice_get c.frame.locals (number_in params name) ≡ Some (I32 (values name))
  pub scratch : All (λ s. writes_locals (action_of imports params s) ≡ true → HasScratch (length params) c.frame.locals) steps
  pub state : HasPanicState c.world.store

-- the world after these host calls, with these replies left
abbrev pub after_calls : List HostEvent → List ℕ → World → World
after_calls events left w = record w { replies = left; events = w.events ++ events }

-- The code goes on: it leaves these operands on those below, and no local of a parameter is changed.
pub record GoesOn (m : Module) (v : View) (params : List (List ℕ)) (events : List HostEvent) (left : List ℕ) (pushed : List Num) (start : Config) (rest : Code) (os : List Num) : Type 0 where
  pub locals : List Num
  pub kept : KeepsOthers (length params) start.frame.locals locals
  pub taken : ℕ
  pub runs : Runs m v start (placed rest (pushed ++ os) (with_locals locals (with_world (after_calls events left start.world) start))) taken

-- the code halts with these host calls made
pub record HaltsSo (m : Module) (v : View) (events : List HostEvent) (stop : Stop) (start : Config) : Type 0 where
  pub world : World
  pub taken : ℕ
  pub shown : world.events ≡ start.world.events ++ events
  pub halts : Halts m v start stop world taken

-- it tells a panic without a message
pub record PanicsSo (m : Module) (v : View) (events : List HostEvent) (cause : ℕ) (message : List ℕ) (start : Config) : Type 0 where
  pub no_message : message ≡ []
  pub cause_is : cause ≡ 1
  pub halted : HaltsSo m v events (Trap unreachable_trap) start
  pub globals : halted.world.store.globals ≡ panic_globals cause start.world.store.globals

-- How code comes out from a configuration, where it stands for what evaluates to an answer. (A source of this form never
-- runs on, is wild or traps.)
abbrev pub Comes : {V : Type 0} → Module → View → List (List ℕ) → (V → List Num) → List HostEvent → Answer V → Config → Code → List Num → Type 0
Comes m v params pushed events (Gives value left) start rest os = GoesOn m v params events left (pushed value) start rest os
Comes m v params pushed events (Stops (Panicked cause message)) start rest os = PanicsSo m v events cause message start
Comes m v params pushed events (Stops WantsReply) start rest os = HaltsSo m v events NoReply start
Comes m v params pushed events (Stops Running) start rest os = ⊥
Comes m v params pushed events (Stops Wild) start rest os = ⊥
Comes m v params pushed events (Stops (Trapped code)) start rest os = ⊥

-- one operand
abbrev pub one_number : ℕ → List Num
one_number n = I32 n ∷ []

-- operands for arguments
abbrev pub words : List ℕ → List Num
words ns = map (λ n. I32 n) ns

-- the last first
abbrev pub numbers_reversed : List ℕ → List Num
numbers_reversed ns = reverse (words ns)
