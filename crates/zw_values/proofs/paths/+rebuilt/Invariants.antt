-- Each call has a shorter path.
use Rattle.std.proofs.Common.{length}
use Rattle.zw_values.proofs.paths.+rebuilt.Given as goal

abbrev pub decreases-rebuilt : goal.decreases-rebuilt
decreases-rebuilt l = length l.path.now
