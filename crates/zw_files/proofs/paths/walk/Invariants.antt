use Rattle.std.proofs.Common.{◌≡◌, map, length}
use Rattle.zw_files.specs.Paths.{walk, segments}
use Rattle.zw_files.proofs.paths.walk.Given as goal

abbrev pub invariant-loop-behind : goal.invariant-loop-behind
invariant-loop-behind l =
    walk (map (λ folder. folder.now) l.folders.items) (segments l.rest) ≡ walk (map (λ folder. folder.now) l.initial.folders.items) (segments l.literal)

abbrev pub decreases-loop-behind : goal.decreases-loop-behind
decreases-loop-behind l = length l.rest
