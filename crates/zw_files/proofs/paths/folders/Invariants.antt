use Rattle.std.proofs.Common.{◌≡◌, ◌++◌, map, length}
use Rattle.zw_files.specs.Paths.{all_but_last, segments}
use Rattle.zw_files.proofs.paths.folders.Given as goal

abbrev pub invariant-loop-behind : goal.invariant-loop-behind
invariant-loop-behind l = map (λ folder. folder.now) l.folders.items ++ all_but_last (segments l.rest) ≡ all_but_last (segments l.below)

abbrev pub decreases-loop-behind : goal.decreases-loop-behind
decreases-loop-behind l = length l.rest
