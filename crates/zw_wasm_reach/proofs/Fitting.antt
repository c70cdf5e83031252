-- Fitting: frames whose labels and code together nest no deeper than a bound, and what stands next in them.
use Rattle.std.proofs.Common.{◌≡◌, ℕ, zero, suc, ◌+◌, ◌*◌, ◌≤◌, max, List, [], ◌∷◌, ◌++◌, length, drop, Some, arith}
use Rattle.std.specs.Prelude.{slice_get}
use Rattle.zw_wasm.specs.declared.num.Num.{Num}
use Rattle.zw_wasm.specs.Reduction.{Begins, BeginsLoop, Chooses, Config, Does, Fetched, Found, Frame, Label, Over, Returns, Single, Stands, Work, fetched, stands_in, stands_next}
use Rattle.zw_wasm.specs.Structure.{Code, Ends, Plain, Choice, Block, Repeat}
use Rattle.zw_wasm_reach.specs.Counts.{active_frames, all_labels, labels_of}
use Rattle.zw_wasm_reach.proofs.Depths.{depth_of}

-- The code with which a branch to a label goes on, and that which follows its end, nest no deeper than n with the labels outside.
abbrev pub LabelsFit : ℕ → List Label → Type 0
LabelsFit n [] = Unit {0}
LabelsFit n (l ∷ ls) = (depth_of l.branch + length ls ≤ n) × (depth_of l.follows + length ls ≤ n) × LabelsFit n ls

-- the same of all of a frame
abbrev pub FrameFits : ℕ → Frame → Type 0
FrameFits n f = (depth_of f.code + length f.labels ≤ n) × LabelsFit n f.labels

-- Frames below another, of which the lowest is the host's, where nothing is left to do.
abbrev pub FramesFit : ℕ → List Frame → Type 0
FramesFit n [] = ⊥
FramesFit n (f ∷ []) = (f.code ≡ Ends) × (f.labels ≡ [])
FramesFit n (f ∷ g ∷ fs) = FrameFits n f × FramesFit n (g ∷ fs)

abbrev pub Fits : ℕ → Config → Type 0
Fits n c = FrameFits n c.frame × FramesFit n c.below

-- one frame more
pub frames-more : (n : ℕ) (f : Frame) (fs : List Frame) → FrameFits n f → FramesFit n fs → FramesFit n (f ∷ fs)
frames-more n f [] h k = absurd k
frames-more n f (g ∷ fs) h k = (h, k)

-- ---- how many labels there are

labels-few : (n : ℕ) (f : Frame) (fs : List Frame) → length f.labels ≤ n → FramesFit n fs → all_labels (f ∷ fs) ≤ length fs * n
labels-few n f [] h k = absurd k
labels-few n f (g ∷ []) h k = rw k.1 (omega arith)
labels-few n f (g ∷ e ∷ fs) h k = let below = labels-few n g (e ∷ fs) (omega (arith, k.0.0)) k.1 in omega arith

pub fits-few : (n : ℕ) (c : Config) → Fits n c → labels_of c ≤ active_frames c * n
fits-few n c h = labels-few n c.frame c.below (omega (arith, h.0.0)) h.1

-- ---- what stands next

-- how deep some work nests
abbrev pub work_depth : Work → ℕ
work_depth (Single i) = 0
work_depth (Chooses result a b) = suc (max (depth_of a) (depth_of b))
work_depth (Begins result body) = suc (depth_of body)
work_depth (BeginsLoop result body) = suc (depth_of body)

-- work in a frame that fits with it
abbrev pub WorkFits : ℕ → Work → Frame → Type 0
WorkFits n work f = FrameFits n f × (work_depth work + length f.labels ≤ n)

abbrev StandsFit : ℕ → Stands → Type 0
StandsFit n (Does work f) = WorkFits n work f
StandsFit n (Returns os) = Unit {0}

stands-fit : (n : ℕ) (f : Frame) (ls : List Label) (code : Code) (os : List Num) → depth_of code + length ls ≤ n → LabelsFit n ls → StandsFit n (stands_next f code os ls)
stands-fit n f ls (Plain i rest) os h k = ((h, k), omega arith)
stands-fit n f ls (Choice result a b rest) os h k = ((omega arith, k), omega arith)
stands-fit n f ls (Block result body rest) os h k = ((omega arith, k), omega arith)
stands-fit n f ls (Repeat result body rest) os h k = ((omega arith, k), omega arith)
stands-fit n f [] Ends os h k = tt
stands-fit n f (l ∷ ls) Ends os h k = stands-fit n f ls l.follows (os ++ l.below) k.1 k.2

abbrev pub FetchedFits : ℕ → Fetched → Type 0
FetchedFits n (Found work f below) = WorkFits n work f × FramesFit n below
FetchedFits n (Over os) = Unit {0}

fetched-fits : (n : ℕ) (s : Stands) (fs : List Frame) → StandsFit n s → FramesFit n fs → FetchedFits n (fetched s fs)
fetched-fits n (Does work f) fs h k = (h, k)
fetched-fits n (Returns os) [] h k = tt
fetched-fits n (Returns os) (f ∷ []) h k = rw (k.0, k.1) tt
fetched-fits n (Returns os) (f ∷ g ∷ fs) h k =
    let on : Frame = record f { operands = os ++ f.operands } in
    fetched-fits n (stands_in on) (g ∷ fs) (stands-fit n on on.labels on.code on.operands k.0.0 k.0.1) k.1

pub next-fits : (n : ℕ) (c : Config) → Fits n c → FetchedFits n (fetched (stands_in c.frame) c.below)
next-fits n c h = fetched-fits n (stands_in c.frame) c.below (stands-fit n c.frame c.frame.labels c.frame.code c.frame.operands h.0.0 h.0.1) h.1

-- ---- labels that a branch finds and leaves

pub label-fits : (n : ℕ) (ls : List Label) (k : ℕ) (l : Label) → LabelsFit n ls → slice_get ls k ≡ Some l → (depth_of l.branch + length (drop (suc k) ls) ≤ n) × LabelsFit n (drop (suc k) ls)
label-fits n [] k l h e = absurd (cc)
label-fits n (x ∷ ls) zero l h e = let same : x ≡ l = cc in rw (← same) (h.0, h.2)
label-fits n (x ∷ ls) (suc k) l h e = label-fits n ls k l h.2 e
