use Rattle.std.proofs.Common.{◌≡◌, map, take}
use Rattle.zw_names.specs.NameSets.{names_in}
use Rattle.zw_form.specs.Programs.{action_of}
use Rattle.zw_form.proofs.resolve.actions_of.Given as goal

abbrev pub invariant-loop-step : goal.invariant-loop-step
invariant-loop-step l =
    l.actions ≡ map (action_of (names_in l.imports) (names_in l.params)) (take l.step-index l.steps)
