-- Configurations: which configurations have a type (WebAssembly Core Specification 1.0, 7.5): labels, frames over each other, and
-- the store that they share.
use Rattle.std.specs.Prelude.{◌≡◌, ℕ, ◌<◌, List, [], ◌∷◌, ◌++◌, length, map, reverse, Some, slice_get}
use Rattle.zw_wasm.specs.declared.module.GlobalDef.{GlobalDef}
use Rattle.zw_wasm.specs.declared.module.Module.{Module}
use Rattle.zw_wasm.specs.declared.module.ValType.{ValType}
use Rattle.zw_wasm.specs.Functions.{func_count}
use Rattle.zw_wasm.specs.Reduction.{Config, Frame, Label, Store}
use Rattle.zw_wasm.specs.Structure.{Ends}
use Rattle.zw_wasm.specs.Typing.{Context}
use Rattle.zw_wasm_sound.specs.Rules.{IsTypedCode, types_of}

-- A label, to which a branch takes operands of its types: with them, over what lies below, its code leads to these results. So
-- does what follows the label, with the results of the code under it.
pub record IsTypedLabel (x : Context) (l : Label) (takes : List ValType) (ls : List (List ValType)) (inner results : List ValType) : Type 0 where
  pub arity : l.arity ≡ length takes
  pub branch : IsTypedCode x ls results l.branch (reverse takes ++ types_of l.below)
  pub follows : IsTypedCode x ls results l.follows (reverse inner ++ types_of l.below)

-- Labels round code with these results, the innermost first. The outermost is the body's own, a branch to which returns.
abbrev pub AreTypedLabels : Context → List Label → List (List ValType) → List ValType → Type 0
AreTypedLabels x [] ls inner = (ls ≡ x.returns ∷ []) × (inner ≡ x.returns)
AreTypedLabels x (l ∷ labels) [] inner = ⊥
AreTypedLabels x (l ∷ labels) (takes ∷ ls) inner =
    (results : List ValType) × IsTypedLabel x l takes ls inner results × AreTypedLabels x labels ls results

abbrev pub context_of : Module → List ValType → List ValType → Context
context_of m locals returns = record { module_ = m; locals = locals; returns = returns }

-- A frame that is to be given operands of these types, and then returns such results (7.5).
pub record IsTypedFrame (m : Module) (given returns : List ValType) (f : Frame) : Type 0 where
  pub locals : List ValType
  pub labels : List (List ValType)
  pub inner : List ValType
  pub has_locals : types_of f.locals ≡ locals
  pub arity : f.arity ≡ length returns
  pub code : IsTypedCode (context_of m locals returns) labels inner f.code (given ++ types_of f.operands)
  pub labelled : AreTypedLabels (context_of m locals returns) f.labels labels inner

-- the lowest frame, which is the host's: nothing is done in it, and its operands are the results
pub record IsTypedHost (results given : List ValType) (f : Frame) : Type 0 where
  pub code : f.code ≡ Ends
  pub labels : f.labels ≡ []
  pub operands : given ++ types_of f.operands ≡ reverse results

-- frames on each other, each of which waits for the results of the one above it
abbrev pub AreTypedFrames : Module → List ValType → List ValType → Frame → List Frame → Type 0
AreTypedFrames m results given f [] = IsTypedHost results given f
AreTypedFrames m results given f (g ∷ below) =
    (returns : List ValType) × IsTypedFrame m given returns f × AreTypedFrames m results (reverse returns) g below

-- the types of a module's globals
abbrev pub global_types : Module → List ValType
global_types m = map (λ (g : GlobalDef). g.ty) m.globals

-- A store of a module (7.5): its globals have their types, and the functions of its table are there.
pub record IsTypedStore (m : Module) (s : Store) : Type 0 where
  pub globals : types_of s.globals ≡ global_types m
  pub table : (k f : ℕ) → slice_get s.table k ≡ Some (Some f) → f < func_count m

-- a configuration of a module that waits for operands of these types, and ends with such results
pub record Waits (m : Module) (results given : List ValType) (c : Config) : Type 0 where
  pub frames : AreTypedFrames m results given c.frame c.below
  pub store : IsTypedStore m c.world.store

-- a configuration of a module that ends with such results, if it ends (7.5)
abbrev pub IsTypedConfig : Module → List ValType → Config → Type 0
IsTypedConfig m results c = Waits m results [] c
