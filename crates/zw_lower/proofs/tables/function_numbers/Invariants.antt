-- The loop of `tables::function_numbers`: the numbers so far, and then those of the functions left, are those of all functions.
use Rattle.std.proofs.Common.{◌≡◌, ◌++◌, length, drop}
use Rattle.zw_lower.specs.Modules.{numbers_from}
use Rattle.zw_lower.proofs.tables.function_numbers.Given as goal

abbrev pub invariant-loop-function : goal.invariant-loop-function
invariant-loop-function l =
    l.numbers ++ numbers_from l.number (drop l._function-index l._function-items) ≡ numbers_from (length l.program.imports) l._function-items
