-- Premises: what holds of configurations of valid modules, so that code that doesn't look at types does what reduction does.
use Rattle.std.specs.Prelude.{◌≡◌, ℕ, zero, suc, ◌<◌, ◌^◌, List, map, Option, Some, None, slice_get}
use Rattle.zw_wasm.specs.declared.module.Instr.TheVariants as instr
use Rattle.zw_wasm.specs.declared.module.Module.{Module}
use Rattle.zw_wasm.specs.declared.module.ValType.{ValType}
use Rattle.zw_wasm.specs.declared.num.Num.{Num}
use Rattle.zw_wasm.specs.Functions.{func_type}
use Rattle.zw_wasm.specs.ModuleMachine.{param_types}
use Rattle.zw_wasm.specs.Structure.{num_of}
use Rattle.zw_wasm.specs.Reduction.{Action, CallsHost, Config, Found, Frame, Goes, Over, Single, Work, World, done, pushed, result_of, with_world}
pub use Rattle.zw_wasm_sound.specs.Rules.{type_of}
use Rattle.zw_wasm_words.specs.Operands.{HasTypeOf, IsRuled}
use Rattle.zw_wasm_run.specs.Running.{next_of}

-- a global is set to an operand of its type
abbrev pub SetsFit : Work → Config → Type 0
SetsFit (Single (instr.GlobalSet n)) c = HasTypeOf (slice_get c.world.store.globals n) c.frame.operands
SetsFit _ c = Unit {0}

-- work has a rule, and finds operands of its types
pub record WorkIsSound (m : Module) (work : Work) (c : Config) : Type 0 where
  pub ruled : IsRuled (done m work c)
  pub fits : SetsFit work c
  pub args : (k : ℕ) (args : List Num) (next : Config) → done m work c ≡ CallsHost k args next → map type_of args ≡ param_types (func_type m k)

-- what comes next is sound, and a call that ends has results of these types, the last first
pub record IsDue (m : Module) (ts : List ValType) (c : Config) : Type 0 where
  pub over : (results : List Num) → next_of c ≡ Over results → map type_of results ≡ ts
  pub found : (work : Work) (f : Frame) (below : List Frame) → next_of c ≡ Found work f below → WorkIsSound m work (record { frame = f; below = below; world = c.world })

-- a host goes on with any reply, and leaves the store
abbrev pub AfterReply : Option ValType → (Config → Type 0) → Config → Type 0
AfterReply None P c = (w : World) → w.store ≡ c.world.store → P (with_world w c)
AfterReply (Some t) P c = (w : World) → w.store ≡ c.world.store → (reply : ℕ) → reply < 2 ^ 64 → P (pushed (num_of t reply) (with_world w c))

-- where this holds of what comes of an action
pub record Leaves (m : Module) (P : Config → Type 0) (a : Action) : Type 0 where
  pub goes : (d : Config) → a ≡ Goes d → P d
  pub calls : (k : ℕ) (args : List Num) (d : Config) → a ≡ CallsHost k args d → AfterReply (result_of (func_type m k)) P d

-- each of so many steps is sound, whatever the host replies
abbrev pub AreSound : Module → List ValType → ℕ → Config → Type 0
AreSound m ts zero c = IsDue m ts c
AreSound m ts (suc n) c = IsDue m ts c
    × ((work : Work) (f : Frame) (below : List Frame) → next_of c ≡ Found work f below → Leaves m (AreSound m ts n) (done m work (record { frame = f; below = below; world = c.world })))
