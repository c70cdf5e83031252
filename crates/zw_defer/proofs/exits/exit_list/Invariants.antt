-- What leaving the scopes from this place on runs is there.
use Rattle.std.proofs.Common.{◌≡◌, ◌≤◌, drop}
use Rattle.zw_defer.specs.ScopeExit.{left_scopes}
use Rattle.zw_defer.proofs.exits.exit_list.Given as goal

abbrev pub invariant-loop-place : goal.invariant-loop-place
invariant-loop-place l = (l.statements.items ≡ left_scopes l.error (drop l.place l.scopes)) × (l.keep ≤ l.place)
