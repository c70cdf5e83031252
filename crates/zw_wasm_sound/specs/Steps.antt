-- Steps: what comes of a configuration that has a type: one that has it too, a call of the host with arguments of its types, or a
-- trap that a rule causes. And what comes next in it.
use Rattle.std.specs.Prelude.{◌≡◌, ℕ, List, ◌∷◌, Option, Some, reverse, slice_get}
use Rattle.std.specs.Option.{option_to_list}
use Rattle.zw_wasm.specs.declared.module.FuncType.{FuncType}
use Rattle.zw_wasm.specs.declared.module.Instr.TheVariants.{GlobalSet}
use Rattle.zw_wasm.specs.declared.module.Module.{Module}
use Rattle.zw_wasm.specs.declared.module.ValType.{ValType}
use Rattle.zw_wasm.specs.declared.num.Num.{Num}
use Rattle.zw_wasm.specs.Functions.{func_type}
use Rattle.zw_wasm.specs.ModuleMachine.{idle, run_function}
use Rattle.zw_wasm.specs.Reduction.{Action, Goes, CallsHost, Traps, Config, Fetched, Found, Over, Run, Going, Ended, Single, Step, Next, Stops, Rests, Stop, Finished, Trap, NoReply, Work, World, done, enter, no_rule}
use Rattle.zw_wasm.specs.Signature.{View}
use Rattle.zw_wasm_sound.specs.Configurations.{IsTypedConfig, IsTypedStore, Waits}
use Rattle.zw_wasm_sound.specs.Rules.{type_of, types_of}

-- a call of an imported function: the arguments have the types of its parameters, and the configuration waits for its result
pub record IsTypedCall (m : Module) (results : List ValType) (k : ℕ) (args : List Num) (c : Config) : Type 0 where
  pub ty : FuncType
  pub func : func_type m k ≡ Some ty
  pub args_typed : types_of args ≡ ty.params
  pub waits : Waits m results (reverse (option_to_list ty.result)) c

abbrev pub IsTypedAction : Module → List ValType → Action → Type 0
IsTypedAction m results (Goes c) = IsTypedConfig m results c
IsTypedAction m results (CallsHost k args c) = IsTypedCall m results k args c
IsTypedAction m results (Traps code) = code ≡ no_rule → ⊥

-- the operand for a global has the type of its value
abbrev pub FitsGlobal : Option Num → List Num → Type 0
FitsGlobal (Some u) (v ∷ os) = type_of v ≡ type_of u
FitsGlobal _ _ = ⊥

-- what is due in a configuration of this world: a rule applies to it; or these are the results
pub record IsTypedWork (m : Module) (results : List ValType) (work : Work) (c : Config) : Type 0 where
  pub does : IsTypedAction m results (done m work c)
  pub sets : (n : ℕ) → work ≡ Single (GlobalSet n) → FitsGlobal (slice_get c.world.store.globals n) c.frame.operands

abbrev pub IsTypedNext : Module → List ValType → World → Fetched → Type 0
IsTypedNext m results w (Found work f below) = IsTypedWork m results work (record { frame = f; below = below; world = w })
IsTypedNext m results w (Over os) = types_of os ≡ reverse results

-- why a run stops: results of their types, or a trap that has a cause, or no reply
abbrev pub IsTypedStop : List ValType → Stop → Type 0
IsTypedStop results (Finished os) = types_of os ≡ reverse results
IsTypedStop results (Trap code) = code ≡ no_rule → ⊥
IsTypedStop results NoReply = Unit {0}

abbrev pub IsTypedStep : Module → List ValType → Step → Type 0
IsTypedStep m results (Next c) = IsTypedConfig m results c
IsTypedStep m results (Stops stop w) = IsTypedStop results stop × IsTypedStore m w.store
IsTypedStep m results (Rests os) = types_of os ≡ reverse results

abbrev pub IsTypedRun : Module → List ValType → Run → Type 0
IsTypedRun m results (Going w) = IsTypedStore m w.store
IsTypedRun m results (Ended stop w left) = IsTypedStop results stop × IsTypedStore m w.store

-- a call of a function from outside, with arguments of its parameters' types, in a store of its module
pub record RunsTyped (m : Module) (f : ℕ) (t : FuncType) : Type 0 where
  pub enters : (args : List Num) (w : World) → types_of args ≡ t.params → IsTypedStore m w.store → IsTypedAction m (option_to_list t.result) (enter m f args (idle w))
  pub runs : (v : View) (args : List Num) (w : World) (bound : ℕ) → types_of args ≡ t.params → IsTypedStore m w.store → IsTypedRun m (option_to_list t.result) (run_function m v f args w bound)
