use Rattle.std.proofs.Common.{◌≡◌, ℕ, ◌<◌, ◌≤◌, true, not, get_or, length}
use Rattle.zw_files.specs.Paths.{is_slash}
use Rattle.zw_files.proofs.paths.root_folder.Given as goal

abbrev pub invariant-loop-end : goal.invariant-loop-end
invariant-loop-end l = (l.end ≤ length l.root) × ((k : ℕ) → l.end ≤ k → k < length l.root → not (is_slash (get_or l.root k 0)) ≡ true)

abbrev pub decreases-loop-end : goal.decreases-loop-end
decreases-loop-end l = l.end
