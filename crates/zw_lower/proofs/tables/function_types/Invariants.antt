-- The loop of `tables::function_types`: the types so far, and then those of the functions left, are those of all functions.
use Rattle.std.proofs.Common.{◌≡◌, ◌++◌, map, drop}
use Rattle.zw_lower.specs.Modules.{function_type}
use Rattle.zw_lower.proofs.tables.function_types.Given as goal

abbrev pub invariant-loop-function : goal.invariant-loop-function
invariant-loop-function l =
    l.types ++ map function_type (drop l.function-index l.functions) ≡ map function_type l.functions
