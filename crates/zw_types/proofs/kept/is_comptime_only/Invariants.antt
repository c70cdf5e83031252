-- The next type tells it.
use Rattle.std.proofs.Common.{◌≡◌, ◌<◌, length}
use Rattle.zw_types.specs.Readings.{type_at}
use Rattle.zw_types.specs.Entries.{trees_of}
use Rattle.zw_types.specs.Sizes.{is_comptime_only}
use Rattle.zw_types.proofs.kept.is_comptime_only.Given as goal

abbrev pub invariant-loop-of : goal.invariant-loop-of
invariant-loop-of l = (l.next.0 < length l.entries) × (is_comptime_only (type_at (trees_of l.entries) l.next) ≡ is_comptime_only (type_at (trees_of l.entries) l.fn.ty))

abbrev pub decreases-loop-of : goal.decreases-loop-of
decreases-loop-of l = l.next.0
