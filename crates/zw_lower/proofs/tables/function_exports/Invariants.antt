-- The loop of `tables::function_exports`: the exports so far, and then those of the functions left, are those of all functions.
use Rattle.std.proofs.Common.{◌≡◌, ◌++◌, drop}
use Rattle.zw_lower.specs.Modules.{exports_from}
use Rattle.zw_lower.proofs.tables.function_exports.Given as goal

abbrev pub invariant-loop-function : goal.invariant-loop-function
invariant-loop-function l =
    l.exports ++ exports_from l.number (drop l.function-index l.functions) ≡ exports_from l.first l.functions
