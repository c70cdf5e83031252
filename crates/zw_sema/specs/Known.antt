-- A known value is a value of its part's type.
use Rattle.std.specs.Prelude.{◌≡◌, ℕ, List, [], ◌∷◌}
use Rattle.zw_tree.specs.Trees.{Forest}
use Rattle.zw_tree.specs.declared.ast.Entry.{Entry}
use Rattle.zw_env.specs.SoundParts.{IsSound, AreSound, IsSoundWish}
use Rattle.zw_sema.specs.Walk.{RunPart, Bound, Progress, UnderWay, Analysed, State, Task, Found, walk}

abbrev pub AreSoundBindings : List Bound → Type 0
AreSoundBindings [] = Unit {0}
AreSoundBindings (b ∷ bs) = IsSound b.part × AreSoundBindings bs

abbrev pub IsSoundProgress : Progress → Type 0
IsSoundProgress UnderWay = Unit {0}
IsSoundProgress (Analysed part) = IsSound part

abbrev pub AreSoundDeclarations : List (ℕ × Progress) → Type 0
AreSoundDeclarations [] = Unit {0}
AreSoundDeclarations ((n, progress) ∷ more) = IsSoundProgress progress × AreSoundDeclarations more

-- what is known of the parts that a state has is of their types
pub record IsSoundState (state : State) : Type 0 where
  pub bound : AreSoundBindings state.bound
  pub result : IsSoundWish state.result
  pub declarations : AreSoundDeclarations state.declarations

-- Where it is so of the parts and the state that the walk begins with, it is so of the part that it gives, and of the state behind it.
abbrev pub KnownValuesHaveTheirTypes : Type 0
KnownValuesHaveTheirTypes =
    (forest : Forest Entry) (bound : ℕ) (task : Task) (parts : List RunPart) (state : State) (part : RunPart) (behind : State) →
    IsSoundWish task.wanted → AreSound parts → IsSoundState state → walk forest bound task parts state ≡ Found part behind →
    IsSound part × IsSoundState behind
