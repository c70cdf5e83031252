-- What the items from this place on give stands behind what was there.
use Rattle.std.proofs.Common.{◌≡◌, ◌++◌, drop}
use Rattle.zw_defer.specs.ScopeExit.{left_scope}
use Rattle.zw_defer.proofs.exits.leave_scope.Given as goal

abbrev pub invariant-loop-place : goal.invariant-loop-place
invariant-loop-place l = l.statements.items ≡ l.initial.statements.items ++ left_scope l.error (drop l.place l.items)
