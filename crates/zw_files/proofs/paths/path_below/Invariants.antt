use Rattle.std.proofs.Common.{◌≡◌, ◌++◌, take, map}
use Rattle.std.specs.List.{join_with_byte}
use Rattle.zw_files.specs.Paths.{root_folder}
use Rattle.zw_files.proofs.paths.path_below.Given as goal

abbrev pub invariant-loop-at : goal.invariant-loop-at
invariant-loop-at l = l.path.items ≡ root_folder l.root ++ join_with_byte 47 (take l.at (map (λ segment. segment.now) l.below))
