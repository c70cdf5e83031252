-- Sequences: what a sequence of instructions does wherever it stands. It does it under any labels and over any frames,
-- and is typed in any context, so that the facts about two sequences make one about both.
use Rattle.std.specs.Prelude.{◌≡◌, ◌⊎◌, ℕ, suc, ◌+◌, true, List, [], ◌∷◌, ◌++◌, length, map, drop, Option, Some, None, slice_get}
use Rattle.std.specs.Option.{option_to_list}
use Rattle.zw_wasm.specs.declared.module.Instr.{Instr}
use Rattle.zw_wasm.specs.declared.module.Module.{Module}
use Rattle.zw_wasm.specs.declared.module.ValType.{ValType}
use Rattle.zw_wasm.specs.Reduction.{Config, Label, World, Stop, Ended, at_work, run}
use Rattle.zw_wasm.specs.Signature.{View}
use Rattle.zw_wasm.specs.Structure.{Num, Code, Ends}
use Rattle.zw_wasm.specs.Typing.{Context, Control, Operand, Known, check_code}

-- the configuration with this code and these operands in the frame that runs
abbrev pub placed : Code → List Num → Config → Config
placed code os c = record c { frame = record c.frame { code = code; operands = os } }

-- from one configuration j instructions lead to another
pub record Runs (m : Module) (v : View) (c d : Config) (j : ℕ) : Type 0 where
  pub by : (k : ℕ) → run m v (j + k) c ≡ run m v k d

-- the configuration with these parameters and locals in the frame that runs
abbrev pub with_locals : List Num → Config → Config
with_locals locals c = record c { frame = record c.frame { locals = locals } }

-- from a configuration j instructions lead to this end, in this world
pub record Halts (m : Module) (v : View) (c : Config) (s : Stop) (w : World) (j : ℕ) : Type 0 where
  pub by : (k : ℕ) → run m v (j + k) c ≡ Ended s w k

-- the configuration that a branch to a label goes on with, by the label's number and with these operands
abbrev pub at_label : Label → ℕ → List Num → Config → Config
at_label l n vs c = record c { frame = at_work c.frame (vs ++ l.below) l.branch (drop (suc n) c.frame.labels) }

-- the configuration at the end of the body, with these results
abbrev pub at_body_end : List Num → Config → Config
at_body_end vs c = record c { frame = at_work c.frame vs Ends [] }

-- The instructions take operands of the first types to operands of the second, the last type first in both, over any
-- operands below, under any control entries and before any other instructions.
pub record Takes (x : Context) (is : List Instr) (ts us : List ValType) : Type 0 where
  pub by : (at : ℕ) (rest : List Instr) (below : List Operand) (c : Control) (outer : List Control) → check_code x at (is ++ rest) (map (λ t. Known t) ts ++ below) c outer ≡ check_code x (at + length is) rest (map (λ t. Known t) us ++ below) c outer

-- what a branch to an entry takes, where the entry is there
abbrev pub branch_of : Option Control → Option (List ValType)
branch_of None = None
branch_of (Some c) = Some c.branch

-- Branches to the innermost control entries take these types: more entries may follow.
pub record AreLabels (labels : List (List ValType)) (controls : List Control) : Type 0 where
  pub each : (n : ℕ) (ts : List ValType) → slice_get labels n ≡ Some ts → branch_of (slice_get controls n) ≡ Some ts

-- The same as `Takes`, under control entries whose labels take these types.
pub record TakesIn (x : Context) (labels : List (List ValType)) (is : List Instr) (ts us : List ValType) : Type 0 where
  pub by : (at : ℕ) (rest : List Instr) (below : List Operand) (c : Control) (outer : List Control) → AreLabels labels (c ∷ outer) → check_code x at (is ++ rest) (map (λ t. Known t) ts ++ below) c outer ≡ check_code x (at + length is) rest (map (λ t. Known t) us ++ below) c outer

-- Instructions that take operands of these types, and never go on to what stands behind them.
pub record LeavesIn (x : Context) (labels : List (List ValType)) (is : List Instr) (ts : List ValType) : Type 0 where
  pub by : (at : ℕ) (rest : List Instr) (below : List Operand) (c : Control) (outer : List Control) → AreLabels labels (c ∷ outer) → check_code x at (is ++ rest) (map (λ t. Known t) ts ++ below) c outer ≡ check_code x (at + length is) rest [] (record c { unreachable = true }) outer

-- the code of a block, of a loop, or of a part of an `if`, with this result: it leaves that, or never comes to its end
abbrev pub IsCodeOf : Context → List (List ValType) → Option ValType → List Instr → Type 0
IsCodeOf x labels result is = TakesIn x labels is [] (option_to_list result) ⊎ LeavesIn x labels is []
