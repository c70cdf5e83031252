-- No type before this one comes to be known.
use Rattle.std.proofs.Common.{◌≡◌, ℕ, ◌<◌, slice_get, Some, None}
use Rattle.zw_types.specs.declared.types.Entry.{Entry}
use Rattle.zw_types.specs.Readings.{form_tree}
use Rattle.zw_types.specs.Entries.{trees_of, shape_in}
use Rattle.zw_types.specs.KeptLayouts.{known_in, known_from_parts}
use Rattle.zw_types.proofs.kept.next_known.Given as goal

abbrev pub invariant-loop-place : goal.invariant-loop-place
invariant-loop-place l =
    (k : ℕ) (e : Entry) → k < l.place → slice_get l.entries k ≡ Some e → slice_get l.kept k ≡ Some None → known_from_parts (known_in (trees_of l.entries) l.kept) (shape_in (trees_of l.entries) e) (form_tree (trees_of l.entries) e.form) ≡ None
