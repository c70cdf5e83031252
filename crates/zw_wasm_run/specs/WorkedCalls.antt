-- WorkedCalls: what calls of small functions come to, with the steps that they are given and have left.
use Rattle.std.specs.Prelude.{ℕ, pos, List, [], ◌∷◌, None, Option, Some}
use Rattle.zw_wasm.specs.declared.module.Instr.{Instr}
use Rattle.zw_wasm.specs.declared.module.Instr.TheVariants.{End, I32Const, Nop, Unreachable}
use Rattle.zw_wasm.specs.declared.module.Module.{Module}
use Rattle.zw_wasm.specs.declared.module.ValType.{ValType}
use Rattle.zw_wasm.specs.declared.module.ValType.TheVariants as ty
use Rattle.zw_wasm.specs.declared.num.Num.TheVariants.{I32}
use Rattle.zw_wasm_run.specs.declared.event.Outcome.{Outcome}
use Rattle.zw_wasm_run.specs.declared.event.Outcome.TheVariants.{Result, StepsOut, Trap}
use Rattle.zw_wasm_run.specs.Calls.{CallRuns, State}

-- a module of one function without parameters
abbrev pub function_of : Option ValType → List Instr → Module
function_of result instrs = record {
  types = record { params = []; result = result } ∷ [];
  imports = [];
  funcs = 0 ∷ [];
  tables = [];
  memories = [];
  globals = [];
  exports = [];
  start = None;
  elements = [];
  codes = record { locals = []; instrs = instrs } ∷ [];
  datas = [];
}

abbrev pub with_steps : ℕ → State
with_steps n = record { store = record { globals = []; memory = []; table = [] }; replies = 9 ∷ []; steps = n }

-- the call of that function ends so, with this many steps left
abbrev pub Ends : Option ValType → List Instr → ℕ → Outcome → ℕ → Type 0
Ends result instrs steps end left = CallRuns (function_of result instrs) [] 0 [] (with_steps steps) [] end (with_steps left)

pub record WorkedCalls : Type 0 where
  pub result : Ends (Some ty.I32) (I32Const (pos 42) ∷ End ∷ []) 1 (Result (Some (I32 42))) 0
  pub steps_left : Ends (Some ty.I32) (I32Const (pos 42) ∷ End ∷ []) 5 (Result (Some (I32 42))) 4
  pub no_step : Ends (Some ty.I32) (I32Const (pos 42) ∷ End ∷ []) 0 StepsOut 0
  -- an end takes no step
  pub end_alone : Ends None (End ∷ []) 0 (Result None) 0
  pub one_is_due : Ends None (Nop ∷ Nop ∷ End ∷ []) 1 StepsOut 0
  -- the last step may trap
  pub trap : Ends None (Nop ∷ Unreachable ∷ End ∷ []) 2 (Trap 1) 0
