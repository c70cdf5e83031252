-- CountRooms: the lists of the stacks are as long as the configuration has values, labels and active frames.
use Rattle.std.proofs.Common.{◌≡◌, ℕ, ◌+◌, ◌≤◌, List, [], ◌∷◌, ◌++◌, length, take, drop, reverse, refl, sym, ap, ◌∙◌, arith}
use Rattle.std.proofs.lemmas.List.{length-append, length-drop, length-reverse, length-take}
use Rattle.zw_wasm.specs.declared.module.Instr.{Instr}
use Rattle.zw_wasm.specs.declared.module.Module.{Module}
use Rattle.zw_wasm.specs.declared.num.Num.{Num}
use Rattle.zw_wasm.specs.Reduction as reduction
use Rattle.zw_wasm.specs.Reduction.{Config}
use Rattle.zw_wasm_reach.specs.Counts.{active_frames, all_labels, all_values, labels_of, values_below, values_of}
use Rattle.zw_wasm_words.specs.declared.frame.Frame.{Frame}
use Rattle.zw_wasm_words.specs.declared.frame.Label.{Label}
use Rattle.zw_wasm_words.specs.Frames.{LabelsStand, below_labels, numbers_of, under}
use Rattle.zw_wasm_run.specs.declared.stacks.Stacks.{Stacks}
use Rattle.zw_wasm_run.specs.Running.{AllStand, FramesStand, StacksStand, body_of, own_labels}
use Rattle.zw_wasm_run.proofs.AllCalls.{waits_count}
use Rattle.zw_wasm_run.proofs.LabelRuns.{words_count}
use Rattle.zw_wasm_run.proofs.Stacked.{labels_count}

-- the operands below labels, over others
below_counted : (ls : List reduction.Label) (lower : List Num) → length (below_labels ls lower) ≡ values_below ls + length lower
below_counted [] lower = omega arith
below_counted (l ∷ ls) lower = omega (arith, length-append l.below (below_labels ls lower), below_counted ls lower)

-- all numbers of frames
pub numbers_counted : (fs : List reduction.Frame) → length (numbers_of fs) ≡ all_values fs
numbers_counted [] = refl
numbers_counted (f ∷ fs) =
    let lower = numbers_of fs in
    let whole = length-append f.operands (under f lower) in
    let beneath = below_counted f.labels (reverse f.locals ++ lower) in
    let locals = length-append (reverse f.locals) lower in
    omega (arith, whole, beneath, locals, length-reverse f.locals, numbers_counted fs)

-- the labels of a frame, and those below its own
labels_split : (instrs : List Instr) (n : ℕ) (labels : List Label) (ls : List reduction.Label) (lower : List Num) → n ≤ length labels → LabelsStand instrs (own_labels n labels) ls lower → length labels ≡ length ls + length (take n labels)
labels_split instrs n labels ls lower inside h =
    omega (arith, inside, labels_count instrs (own_labels n labels) ls lower h, length-reverse (drop n labels), length-drop n labels, length-take n labels)

-- the labels of frames that wait
waiting_counted : (m : Module) (ks : List Frame) (labels : List Label) (fs : List reduction.Frame) → FramesStand m ks labels fs → length labels ≡ all_labels fs
waiting_counted m [] labels [] h = absurd h
waiting_counted m [] labels (f ∷ fs) h = ap length h.0 ∙ ap all_labels (sym h.1)
waiting_counted m (k ∷ ks) labels [] h = absurd h
waiting_counted m (k ∷ ks) labels (f ∷ fs) h =
    omega (arith, labels_split (body_of m k.body) k.labels labels f.labels (reverse f.locals ++ numbers_of fs) h.1 h.0.labels, waiting_counted m ks (take k.labels labels) fs h.2)

-- as many words as values
pub values_counted : (m : Module) (k : Frame) (ks : List Frame) (labels : List Label) (words : List ℕ) (c : Config) → AllStand m k ks labels words c → length words ≡ values_of c
values_counted m k ks labels words c all =
    words_count words (c.frame.operands ++ under c.frame (numbers_of c.below)) all.running.held ∙ numbers_counted (c.frame ∷ c.below)

pub words_counted : (m : Module) (s : Stacks) (c : Config) → StacksStand m s c → length s.words.items ≡ values_of c
words_counted m s c stands = values_counted m s.frame (reverse s.frames.items) s.labels.items s.words.items c stands

-- as many labels
pub labels_counted : (m : Module) (s : Stacks) (c : Config) → StacksStand m s c → length s.labels.items ≡ labels_of c
labels_counted m s c stands =
    let k = s.frame in
    let labels = s.labels.items in
    omega (arith, labels_split (body_of m k.body) k.labels labels c.frame.labels (reverse c.frame.locals ++ numbers_of c.below) stands.inside stands.running.frame.labels, waiting_counted m (reverse s.frames.items) (take k.labels labels) c.below stands.below)

-- as many frames, where the one that runs isn't in the list, and the host's isn't counted
pub frames_counted : (m : Module) (s : Stacks) (c : Config) → StacksStand m s c → length s.frames.items + 1 ≡ active_frames c
frames_counted m s c stands =
    omega (arith, waits_count m (reverse s.frames.items) (take s.frame.labels s.labels.items) c.below stands.below, length-reverse s.frames.items)
