-- Places in values: a path leads from a value to a part of it, one step for each level (this project's own).
use Rattle.std.specs.Prelude.{◌≡◌, ◌≢◌, ◌⊎◌, ℕ, nat_eq, if◌then◌else◌, List, [], ◌∷◌, slice_get, slice_set, Option, Some, None, option_and_then}
use Rattle.std.specs.Option.{option_map}
use Rattle.zw_types.specs.TypeTrees as tree
use Rattle.zw_types.specs.TypeTrees.{ValueTree, values_from, values_in}

-- The part that a step leads to: the field of a struct or the element of an array with that number, the payload of an optional or
-- of an error union at 0, and the active field of a union at its place. What is undefined has no part here.
abbrev pub part_of : ValueTree → ℕ → Option ValueTree
part_of (tree.PartsValue parts) step = slice_get (values_in parts) step
part_of (tree.OptionalValue (tree.TheValue payload)) step = if nat_eq step 0 then Some payload else None
part_of (tree.PayloadValue payload) step = if nat_eq step 0 then Some payload else None
part_of (tree.TagValue field (tree.TheValue payload)) step = if nat_eq step field then Some payload else None
part_of _ step = None

-- the value with another one in place of the part that a step leads to
abbrev pub with_part : ValueTree → ℕ → ValueTree → ValueTree
with_part (tree.PartsValue parts) step new = tree.PartsValue (values_from (slice_set (values_in parts) step new))
with_part (tree.OptionalValue payload) step new = tree.OptionalValue (tree.TheValue new)
with_part (tree.PayloadValue payload) step new = tree.PayloadValue new
with_part (tree.TagValue field payload) step new = tree.TagValue field (tree.TheValue new)
with_part v step new = v

-- the part that a path leads to
abbrev pub value_at : ValueTree → List ℕ → Option ValueTree
value_at v [] = Some v
value_at v (step ∷ path) = option_and_then (λ part. value_at part path) (part_of v step)

-- the value with another one in place of the part that a path leads to, where there is such a part
abbrev pub written_at : ValueTree → List ℕ → ValueTree → Option ValueTree
written_at v [] new = Some new
written_at v (step ∷ path) new =
    option_and_then (λ part. option_map (λ written. with_part v step written) (written_at part path new)) (part_of v step)

-- neither path goes on where the other ends
abbrev pub AreApart : List ℕ → List ℕ → Type 0
AreApart (j ∷ path) (k ∷ other) = (j ≢ k) ⊎ ((j ≡ k) × AreApart path other)
AreApart _ _ = ⊥
