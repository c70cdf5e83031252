use Rattle.std.proofs.Common.{◌≡◌, [], take}
use Rattle.std.specs.List.{flat_map}
use Rattle.zw_names.specs.NameSets.{names_in}
use Rattle.zw_form.specs.Programs.{first_of_each}
use Rattle.zw_form.specs.Rules.{parameter_of}
use Rattle.zw_form.proofs.rules.mentioned.Given as goal

abbrev pub invariant-loop-step : goal.invariant-loop-step
invariant-loop-step l = names_in l.names ≡ first_of_each [] (flat_map parameter_of (take l.step-index l.steps))
