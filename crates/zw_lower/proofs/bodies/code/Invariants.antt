-- The loop of `bodies::code`: the code so far, and then that of the actions left, is that of all actions.
use Rattle.std.proofs.Common.{◌≡◌, ◌++◌, drop}
use Rattle.std.specs.List.{flat_map}
use Rattle.zw_lower.specs.Modules.{action_code}
use Rattle.zw_lower.proofs.bodies.code.Given as goal

abbrev pub invariant-loop-action : goal.invariant-loop-action
invariant-loop-action l =
    l.code.items ++ flat_map (action_code l.params) (drop l.action-index l.actions) ≡ flat_map (action_code l.params) l.actions
