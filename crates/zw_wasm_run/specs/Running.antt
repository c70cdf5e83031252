-- Running: how a machine's frames lie on each other, over the host's own, while a call runs.
use Rattle.std.specs.Prelude.{◌≡◌, ℕ, ◌≤◌, Bool, true, false, List, [], ◌∷◌, length, drop, take, reverse}
use Rattle.zw_wasm.specs.declared.module.Module.{Module}
use Rattle.zw_wasm.specs.ModuleMachine.{host_frame}
use Rattle.zw_wasm.specs.Reduction as reduction
use Rattle.zw_wasm.specs.Reduction.{Action, Config, Does, Goes, Over, Traps, Work, World, done, stands_in}
use Rattle.zw_wasm.specs.Structure.{Ends}
use Rattle.zw_wasm_words.specs.Words.{Hold}
use Rattle.zw_wasm_words.specs.declared.effect.Effect.{Effect}
use Rattle.zw_wasm_words.specs.declared.effect.Effect.TheVariants as effect
use Rattle.zw_wasm_words.specs.declared.frame.Frame.{Frame}
use Rattle.zw_wasm_words.specs.declared.frame.Label.{Label}
use Rattle.zw_wasm_words.specs.Operands.{IsRuled}
use Rattle.zw_wasm_words.specs.Frames.{FrameStands, Stands, numbers_of}
pub use Rattle.zw_wasm_run.specs.Bodies.{body_of, instrs_in}
use Rattle.zw_wasm_run.specs.declared.stacks.Stacks.{Stacks}
pub use Rattle.zw_wasm_reach.specs.Reaches.{next_of}

-- the labels of the innermost frame, the innermost first, of which so many lie below it
abbrev pub own_labels : ℕ → List Label → List Label
own_labels n labels = reverse (drop n labels)

-- frames that wait for results, the innermost first, over the host's; the innermost label is the last
abbrev pub FramesStand : Module → List Frame → List Label → List reduction.Frame → Type 0
FramesStand m [] labels [] = ⊥
FramesStand m [] labels (f ∷ fs) = (labels ≡ []) × (f ∷ fs ≡ host_frame ∷ [])
FramesStand m (k ∷ ks) labels [] = ⊥
FramesStand m (k ∷ ks) labels (f ∷ fs) =
    FrameStands (body_of m k.body) k (own_labels k.labels labels) f (numbers_of fs) × (k.labels ≤ length labels) × FramesStand m ks (take k.labels labels) fs

-- the frame that runs, those that wait, the labels and words of all of them stand for a configuration
pub record AllStand (m : Module) (k : Frame) (ks : List Frame) (labels : List Label) (words : List ℕ) (c : Config) : Type 0 where
  pub running : Stands (body_of m k.body) k (own_labels k.labels labels) words c (numbers_of c.below)
  pub inside : k.labels ≤ length labels
  pub below : FramesStand m ks (take k.labels labels) c.below

-- an action goes on with a configuration that these stand for, in this world
pub record GoesTo (m : Module) (a : Action) (k : Frame) (ks : List Frame) (labels : List Label) (words : List ℕ) (after : World) : Type 0 where
  pub next : Config
  pub goes : a ≡ Goes next
  pub stand : AllStand m k ks labels words next
  pub world : next.world ≡ after

-- the stacks stand for a configuration
abbrev pub StacksStand : Module → Stacks → Config → Type 0
StacksStand m s c = AllStand m s.frame (reverse s.frames.items) s.labels.items s.words.items c

-- an action goes on with other stacks, in this world, or it traps
abbrev pub EndsSo : Module → Action → Effect → Stacks → World → Type 0
EndsSo m a effect.Goes new after = GoesTo m a new.frame (reverse new.frames.items) new.labels.items new.words.items after
EndsSo m a (effect.Traps code) new after = a ≡ Traps code

-- an action of an instruction, or of what else stands next, on all stacks
pub record ActsOnStacks (m : Module) (action : Config → Action) (old : Stacks) (e : Effect) (new : Stacks) : Type 0 where
  pub by : (c : Config) → StacksStand m old c → IsRuled (action c) → EndsSo m (action c) e new c.world

-- the configuration in which work is done
abbrev pub at_doing : reduction.Frame → Config → Config
at_doing f c = record { frame = f; below = c.below; world = c.world }

-- what is done in a configuration ends so
pub record WorkEnds (m : Module) (c : Config) (e : Effect) (new : Stacks) : Type 0 where
  pub work : Work
  pub frame : reduction.Frame
  pub stands : stands_in c.frame ≡ Does work frame
  pub does : IsRuled (done m work (at_doing frame c)) → EndsSo m (done m work (at_doing frame c)) e new c.world

-- a step that an instruction takes, from the place where it stands
pub record TakesStep (m : Module) (old : Stacks) (e : Effect) (new : Stacks) : Type 0 where
  pub by : (c : Config) → StacksStand m old c → WorkEnds m c e new

-- two configurations in one world in which the same comes next
pub record SameNext (c d : Config) : Type 0 where
  pub next : next_of c ≡ next_of d
  pub world : c.world ≡ d.world

-- the stacks stand for a configuration in which the same comes next
pub record StandsLike (m : Module) (c : Config) (new : Stacks) : Type 0 where
  pub next : Config
  pub stand : StacksStand m new next
  pub same : SameNext c next

-- a label ends
pub record EndsLabel (m : Module) (old new : Stacks) : Type 0 where
  pub by : (c : Config) → StacksStand m old c → c.frame.code ≡ Ends → StandsLike m c new

-- nothing is left to do, and the words are the results
pub record CallEnds (words : List ℕ) (c : Config) : Type 0 where
  pub over : next_of c ≡ Over c.frame.operands
  pub held : Hold (reverse words) c.frame.operands

-- a frame without labels ends, over another, or over none
pub record EndsFrame (m : Module) (old : Stacks) (goes_on : Bool) (new : Stacks) : Type 0 where
  pub on : goes_on ≡ true → (c : Config) → StacksStand m old c → c.frame.code ≡ Ends → StandsLike m c new
  pub over : goes_on ≡ false → (c : Config) → StacksStand m old c → c.frame.code ≡ Ends → CallEnds new.words.items c

-- the stacks hold the same
pub record SameParts (old new : Stacks) : Type 0 where
  pub frame : new.frame ≡ old.frame
  pub frames : new.frames.items ≡ old.frames.items
  pub labels : new.labels.items ≡ old.labels.items
  pub words : new.words.items ≡ old.words.items
