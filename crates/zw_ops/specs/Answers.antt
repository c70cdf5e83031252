-- What the code answers, in the terms of the definitions.
use Rattle.std.specs.Prelude.{List, Option, Some, None, MatchOption, Result, Ok, Err}
use Rattle.zw_types.specs.declared.value.Value.{Value}
use Rattle.zw_types.specs.TypeTrees.{TypeTree}
use Rattle.zw_types.specs.Readings.{value_tree}
use Rattle.zw_values.specs.Applied as operation
use Rattle.zw_values.specs.Applied.{Outcome}
use Rattle.zw_ops.specs.declared.cause.Cause.{Cause}
use Rattle.zw_ops.specs.declared.cause.Cause.TheVariants as c

-- what a cause stands for; want of memory is no outcome
abbrev pub outcome_of_cause : Cause → Option Outcome
outcome_of_cause (c.Panic number) = Some (operation.Panics number)
outcome_of_cause c.Wild = Some operation.IsWild
outcome_of_cause (c.Limit number) = Some (operation.Passes number)
outcome_of_cause c.Oom = None

abbrev pub outcome_of_result : List TypeTree → Result Value Cause → Option Outcome
outcome_of_result types (Ok value) = Some (operation.Gives (value_tree types value))
outcome_of_result types (Err cause) = outcome_of_cause cause

-- an outcome is of this kind, where memory wasn't wanting
abbrev pub IfAnswered : List TypeTree → Result Value Cause → (Outcome → Type 0) → Type 0
IfAnswered types result P = MatchOption (outcome_of_result types result) (Unit {0}) P
