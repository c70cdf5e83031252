-- What is known is right.
use Rattle.std.proofs.Common.{◌≡◌, length, []}
use Rattle.zw_types.specs.Entries.{table_of}
use Rattle.zw_types.specs.KeptLayouts.{AreRight}
use Rattle.zw_types.proofs.KeptLemmas.{unknown}
use Rattle.zw_types.proofs.kept.settle.Given as goal

abbrev pub invariant-loop-place : goal.invariant-loop-place
invariant-loop-place l = (length l.kept.items ≡ length l.entries) × AreRight (table_of l.entries []) l.kept.items

abbrev pub decreases-loop-place : goal.decreases-loop-place
decreases-loop-place l = unknown l.kept.items
