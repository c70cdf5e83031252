-- Frames: how a machine's words, labels and frames lie under each other (WebAssembly Core Specification 1.0, 4.2.12). The
-- words of all frames are one list: of each frame its parameters and locals, then the operands below each label, from the
-- outermost, and then those in the innermost one.
use Rattle.std.specs.Prelude.{◌≡◌, ℕ, suc, ◌+◌, ◌≤◌, List, [], ◌∷◌, ◌++◌, length, drop, take, reverse, Some, slice_get}
use Rattle.zw_wasm.specs.declared.module.Instr.{Instr}
use Rattle.zw_wasm.specs.declared.num.Num.{Num}
use Rattle.zw_wasm.specs.Reduction as reduction
use Rattle.zw_wasm.specs.Reduction.{Action, Config, Goes, Traps, branched}
use Rattle.zw_wasm.specs.Structure.{code_of}
use Rattle.zw_wasm_words.specs.declared.effect.Effect.{Effect}
use Rattle.zw_wasm_words.specs.declared.effect.Effect.TheVariants as effect
use Rattle.zw_wasm_words.specs.declared.frame.Frame.{Frame}
use Rattle.zw_wasm_words.specs.declared.frame.Label.{Label}
use Rattle.zw_wasm_words.specs.Operands.{IsRuled}
use Rattle.zw_wasm_words.specs.Words.{Hold}

-- the operands below labels, over what lies below all of them, the last first
abbrev pub below_labels : List reduction.Label → List Num → List Num
below_labels [] lower = lower
below_labels (l ∷ ls) lower = l.below ++ below_labels ls lower

-- what lies below a frame's operands, over the numbers of lower frames
abbrev pub under : reduction.Frame → List Num → List Num
under f lower = below_labels f.labels (reverse f.locals ++ lower)

-- all numbers of frames, the last first
abbrev pub numbers_of : List reduction.Frame → List Num
numbers_of [] = []
numbers_of (f ∷ fs) = f.operands ++ under f (numbers_of fs)

-- a label stands for one in this code, over so many words
pub record LabelStands (instrs : List Instr) (k : Label) (l : reduction.Label) (height : ℕ) : Type 0 where
  pub arity : l.arity ≡ k.arity
  pub branch : l.branch ≡ code_of (drop k.target instrs)
  pub follows : l.follows ≡ code_of (drop k.follows instrs)
  pub words : k.height ≡ height

-- labels, the innermost first
abbrev pub LabelsStand : List Instr → List Label → List reduction.Label → List Num → Type 0
LabelsStand instrs [] [] lower = Unit {0}
LabelsStand instrs (k ∷ ks) (l ∷ ls) lower = LabelStands instrs k l (length (below_labels (l ∷ ls) lower)) × LabelsStand instrs ks ls lower
LabelsStand instrs [] (l ∷ ls) lower = ⊥
LabelsStand instrs (k ∷ ks) [] lower = ⊥

-- where a frame's locals begin, and its operands
pub record HasLocals (k : Frame) (locals lower : List Num) : Type 0 where
  pub first : k.locals ≡ length lower
  pub behind : k.operands ≡ length lower + length locals

-- a frame stands for one of a function of this code, with these labels, the innermost first, over the numbers of lower frames
pub record FrameStands (instrs : List Instr) (k : Frame) (ks : List Label) (f : reduction.Frame) (lower : List Num) : Type 0 where
  pub arity : f.arity ≡ k.arity
  pub code : f.code ≡ code_of (drop k.at instrs)
  pub labels : LabelsStand instrs ks f.labels (reverse f.locals ++ lower)
  pub locals : HasLocals k f.locals lower

-- the places of a frame's locals are there
pub record LocalsFit (k : Frame) (words : List ℕ) : Type 0 where
  pub order : k.locals ≤ k.operands
  pub inside : k.operands ≤ length words

-- the configuration with other operands and locals
abbrev pub with_values : List Num → List Num → Config → Config
with_values os locals c = record c { frame = record c.frame { operands = os; locals = locals } }

-- an action goes on with other operands and as many locals
pub record GoesInFrame (a : Action) (c : Config) (lower : List Num) (new : List ℕ) : Type 0 where
  pub operands : List Num
  pub locals : List Num
  pub goes : a ≡ Goes (with_values operands locals c)
  pub count : length locals ≡ length c.frame.locals
  pub held : Hold (reverse new) (operands ++ below_labels c.frame.labels (reverse locals ++ lower))

abbrev pub EndsInFrame : Action → Config → List Num → Effect → List ℕ → Type 0
EndsInFrame a c lower effect.Goes new = GoesInFrame a c lower new
EndsInFrame a c lower (effect.Traps code) new = a ≡ Traps code

-- an action of an instruction on the operands and locals of a frame
pub record ActsInFrame (k : Frame) (action : Config → Action) (old : List ℕ) (e : Effect) (new : List ℕ) : Type 0 where
  pub by : (c : Config) (lower : List Num) → HasLocals k c.frame.locals lower → Hold (reverse old) (c.frame.operands ++ under c.frame lower) → IsRuled (action c) → EndsInFrame (action c) c lower e new

-- a frame and all words stand for the frame that runs in a configuration, over the numbers of lower frames
pub record Stands (instrs : List Instr) (k : Frame) (ks : List Label) (words : List ℕ) (c : Config) (lower : List Num) : Type 0 where
  pub frame : FrameStands instrs k ks c.frame lower
  pub held : Hold (reverse words) (c.frame.operands ++ under c.frame lower)

-- the frame that runs, behind a branch to one of its labels
pub record Branches (instrs : List Instr) (k : Frame) (n : ℕ) (ks : List Label) (l : Label) (new : List ℕ) (c : Config) (lower : List Num) : Type 0 where
  pub next : Config
  pub goes : branched n c ≡ Goes next
  pub stands : Stands instrs (record k { at = l.target }) (drop (suc n) ks) new next lower

-- a branch to this label, by its number from the innermost on, leaves these words
pub record BranchesOn (l : Label) (old new : List ℕ) : Type 0 where
  pub by : (instrs : List Instr) (k : Frame) (n : ℕ) (ks : List Label) (c : Config) (lower : List Num) → slice_get ks n ≡ Some l → Stands instrs k ks old c lower → IsRuled (branched n c) → Branches instrs k n ks l new c lower

-- the words behind a frame's end, where its operands are its results: they lie on those of lower frames
pub record ReturnsOn (k : Frame) (old new : List ℕ) : Type 0 where
  pub by : (c : Config) (lower : List Num) → HasLocals k c.frame.locals lower → c.frame.labels ≡ [] → Hold (reverse old) (c.frame.operands ++ under c.frame lower) → Hold (reverse new) (c.frame.operands ++ lower)

-- the words behind a return, which keeps as many operands as the frame has results, over the locals (4.4.5.9)
pub record KeepsResults (k : Frame) (old new : List ℕ) : Type 0 where
  pub by : (c : Config) (lower : List Num) → HasLocals k c.frame.locals lower → k.arity ≤ length c.frame.operands → Hold (reverse old) (c.frame.operands ++ under c.frame lower) → Hold (reverse new) (take k.arity c.frame.operands ++ (reverse c.frame.locals ++ lower))
