-- The loop of `tables::most_params`: the most so far or among the functions left is the most of all functions.
use Rattle.std.proofs.Common.{◌≡◌, max, drop}
use Rattle.zw_lower.specs.Modules.{most_params}
use Rattle.zw_lower.proofs.tables.most_params.Given as goal

abbrev pub invariant-loop-function : goal.invariant-loop-function
invariant-loop-function l =
    max l.most (most_params (drop l.function-index l.functions)) ≡ most_params l.functions
