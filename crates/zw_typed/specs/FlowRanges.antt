-- The ranges of a `for` (Zig Language Reference 0.13.0, for): their numbers, and how many turns they are walked together.
use Rattle.std.specs.Prelude.{ℕ, ◌-◌, pos, nat_eq, nat_lt, if◌then◌else◌, Bool, true, false, List, [], ◌∷◌, Option, Some, None}
use Rattle.zw_types.specs.TypeTrees as tree
use Rattle.zw_types.specs.TypeTrees.{ValueTree}
use Rattle.zw_typed.specs.FlowNodes.{Range}

-- a range with the numbers of its start and of its end
pub record Bounds : Type 0 where
  pub capture : Option ℕ
  pub start : ℕ
  pub end : Option ℕ

abbrev pub bounds_and : Bounds → Option (List Bounds) → Option (List Bounds)
bounds_and b None = None
bounds_and b (Some more) = Some (b ∷ more)

abbrev pub bounds_from : Option ℕ → Bool → List ValueTree → (List ValueTree → Option (List Bounds)) → Option (List Bounds)
bounds_from capture false (tree.NumberValue (pos a) ∷ values) rest = bounds_and (record { capture = capture; start = a; end = None }) (rest values)
bounds_from capture true (tree.NumberValue (pos a) ∷ tree.NumberValue (pos b) ∷ values) rest =
    bounds_and (record { capture = capture; start = a; end = Some b }) (rest values)
bounds_from capture has_end values rest = None

-- each range takes its start, and its end where it has one, from the values in order
abbrev pub bounds_of : List Range → List ValueTree → Option (List Bounds)
bounds_of [] values = Some []
bounds_of (r ∷ ranges) values = bounds_from r.capture r.has_end values (bounds_of ranges)

-- How many turns are due: or the panic of a range that runs down (1, the first that does), and then that of two lengths that differ (15); or
-- nothing, where no range has an end.
pub data Turns : Type 0 where
  Due : ℕ → Turns
  Fails : ℕ → Turns
  NoEnd : Turns

abbrev pub runs_down : List Bounds → Bool
runs_down [] = false
runs_down (b ∷ more) = elim b.end [ None ↦ runs_down more | Some end ↦ (if nat_lt end b.start then true else runs_down more) ]

-- the lengths of those that have an end
abbrev pub lengths : List Bounds → List ℕ
lengths [] = []
lengths (b ∷ more) = elim b.end [ None ↦ lengths more | Some end ↦ (end - b.start) ∷ lengths more ]

abbrev pub all_are : ℕ → List ℕ → Turns
all_are n [] = Due n
all_are n (m ∷ more) = if nat_eq n m then all_are n more else Fails 15

abbrev pub one_length : List ℕ → Turns
one_length [] = NoEnd
one_length (n ∷ more) = all_are n more

abbrev pub turns_due : List Bounds → Turns
turns_due bounds = if runs_down bounds then Fails 1 else one_length (lengths bounds)
