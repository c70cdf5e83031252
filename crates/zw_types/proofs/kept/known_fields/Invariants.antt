-- What is left of the fields gives what all of them give.
use Rattle.std.proofs.Common.{◌≡◌, map, drop, MatchOption}
use Rattle.zw_types.specs.Readings.{field_tree}
use Rattle.zw_types.specs.Entries.{trees_of}
use Rattle.zw_types.specs.KeptLayouts.{IsBounded, known_in, known_fields}
use Rattle.zw_types.proofs.kept.known_fields.Given as goal

abbrev pub invariant-loop-field : goal.invariant-loop-field
invariant-loop-field l =
    (known_fields (known_in (trees_of l.entries) l.kept) l.over l.so_far (map (field_tree (trees_of l.entries)) (drop l.field-index l.fields))
    ≡ known_fields (known_in (trees_of l.entries) l.kept) l.over l.initial.so_far (map (field_tree (trees_of l.entries)) l.fields))
    × MatchOption l.so_far (Unit {0}) IsBounded
