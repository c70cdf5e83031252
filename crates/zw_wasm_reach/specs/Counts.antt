-- Counts: how many values, labels and frames a configuration has, and how deep the code of a module nests.
use Rattle.std.specs.Prelude.{◌≡◌, ℕ, suc, ◌+◌, ◌-◌, ◌*◌, ◌≤◌, max, List, [], ◌∷◌, length}
use Rattle.zw_wasm.specs.declared.module.CodeBody.{CodeBody}
use Rattle.zw_wasm.specs.declared.module.Instr.{Instr}
use Rattle.zw_wasm.specs.declared.module.Instr.TheVariants as instr
use Rattle.zw_wasm.specs.declared.module.Module.{Module}
use Rattle.zw_wasm.specs.declared.num.Num.{Num}
use Rattle.zw_wasm.specs.ModuleMachine.{idle}
use Rattle.zw_wasm.specs.Reduction.{Config, Frame, Goes, Label, World, enter}
use Rattle.zw_wasm_reach.specs.Reaches.{Reaches}

-- the operands below labels
abbrev pub values_below : List Label → ℕ
values_below [] = 0
values_below (l ∷ ls) = length l.below + values_below ls

-- the operands, parameters and locals of a frame
abbrev pub frame_values : Frame → ℕ
frame_values f = length f.operands + (values_below f.labels + length f.locals)

abbrev pub all_values : List Frame → ℕ
all_values [] = 0
all_values (f ∷ fs) = frame_values f + all_values fs

-- how many operands, parameters and locals there are over all frames
abbrev pub values_of : Config → ℕ
values_of c = all_values (c.frame ∷ c.below)

abbrev pub all_labels : List Frame → ℕ
all_labels [] = 0
all_labels (f ∷ fs) = length f.labels + all_labels fs

-- how many labels there are over all frames
abbrev pub labels_of : Config → ℕ
labels_of c = all_labels (c.frame ∷ c.below)

-- how many frames are active, where the lowest is the host's own and isn't counted
abbrev pub active_frames : Config → ℕ
active_frames c = length c.below

-- how many blocks, loops and ifs are open at most in code, behind so many that are open
abbrev pub most_open : ℕ → List Instr → ℕ
most_open n [] = n
most_open n (instr.Block result ∷ is) = most_open (suc n) is
most_open n (instr.Loop result ∷ is) = most_open (suc n) is
most_open n (instr.If result ∷ is) = most_open (suc n) is
most_open n (instr.End ∷ is) = max n (most_open (n - 1) is)
most_open n (i ∷ is) = most_open n is

abbrev pub most_open_in : List CodeBody → ℕ
most_open_in [] = 0
most_open_in (b ∷ bs) = max (most_open 0 b.instrs) (most_open_in bs)

-- how many blocks, loops and ifs of a module's functions are open within each other at most
abbrev pub deepest : Module → ℕ
deepest m = most_open_in m.codes

-- No call has more labels than its frames times that depth.
pub record LabelsStayFew : Type 0 where
  pub by : (m : Module) (func : ℕ) (args : List Num) (w : World) (first d : Config) (n : ℕ) → enter m func args (idle w) ≡ Goes first → Reaches m first n d → labels_of d ≤ active_frames d * deepest m
