use Rattle.std.proofs.Common.{◌≡◌, ℕ, ◌<◌, false, get_or}
use Rattle.zw_files.specs.Paths.{is_slash}
use Rattle.zw_files.proofs.paths.first_slash.Given as goal

abbrev pub invariant-loop-at : goal.invariant-loop-at
invariant-loop-at l = (k : ℕ) → k < l.at → is_slash (get_or l.path k 0) ≡ false
