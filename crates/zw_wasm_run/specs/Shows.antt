-- Shows: which parameters of imports show bytes, and which functions are exported.
use Rattle.std.specs.Prelude.{◌≡◌, ℕ, ◌+◌, ◌-◌, ◌<◌, List, Some, length, slice_get}
use Rattle.zw_wasm.specs.declared.module.Module.{Module}
use Rattle.zw_wasm.specs.declared.module.TheConstants.ExportDef.{FUNC}
use Rattle.zw_wasm.specs.declared.module.ValType.TheVariants.{I32}
use Rattle.zw_wasm.specs.Functions.{func_type}
use Rattle.zw_wasm.specs.ModuleMachine.{export_in, param_types}
use Rattle.zw_wasm_run.specs.declared.machine.Show.{Show}

-- a parameter of an import and the next one are a pointer and a length
pub record IsShow (m : Module) (s : Show) : Type 0 where
  pub imported : s.import < length m.imports
  pub pointer : slice_get (param_types (func_type m s.import)) s.param ≡ Some I32
  pub count : slice_get (param_types (func_type m s.import)) (s.param + 1) ≡ Some I32

-- two of one import lie two parameters apart or more
abbrev pub AreApart : Show → Show → Type 0
AreApart s t = s.import ≡ t.import → 1 < (s.param - t.param) + (t.param - s.param)

pub record AreShows (m : Module) (shows : List Show) : Type 0 where
  pub each : (i : ℕ) (s : Show) → slice_get shows i ≡ Some s → IsShow m s
  pub apart : (i j : ℕ) (s t : Show) → i < j → slice_get shows i ≡ Some s → slice_get shows j ≡ Some t → AreApart s t

-- a function with this number is exported
pub record IsExported (m : Module) (func : ℕ) : Type 0 where
  pub name : List ℕ
  pub is : export_in FUNC name m.exports ≡ Some func
