use Rattle.std.proofs.Common.{All, take}
use Rattle.zw_names.specs.NameSets.{names_in}
use Rattle.zw_form.specs.Rules.{IsKnown, externs_of}
use Rattle.zw_form.proofs.rules.are_known.Given as goal

abbrev pub invariant-loop-step : goal.invariant-loop-step
invariant-loop-step l = All (IsKnown (externs_of l.file) (names_in l.params)) (take l.step-index l.steps)
