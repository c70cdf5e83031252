-- Laws of the walk.
use Rattle.std.specs.Prelude.{◌≡◌, ◌≢◌, ℕ, ◌+◌, List}
use Rattle.zw_tree.specs.Trees.{Forest}
use Rattle.zw_tree.specs.declared.ast.Entry.{Entry}
use Rattle.zw_sema.specs.Walk.{RunPart, State, Task, TooSmall, walk}

-- Where the bound was enough, a larger one gives the same part or the same stop.
abbrev pub StaysUnderLargerBounds : Type 0
StaysUnderLargerBounds =
    (forest : Forest Entry) (bound k : ℕ) (task : Task) (parts : List RunPart) (state : State) →
    walk forest bound task parts state ≢ TooSmall → walk forest (bound + k) task parts state ≡ walk forest bound task parts state
