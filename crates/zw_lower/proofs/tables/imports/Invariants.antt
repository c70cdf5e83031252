-- The loop of `tables::imports`: the imports so far, and then those left, are those of the program.
use Rattle.std.proofs.Common.{◌≡◌, ◌++◌, drop}
use Rattle.zw_lower.specs.Modules.{imports_from}
use Rattle.zw_lower.proofs.tables.imports.Given as goal

abbrev pub invariant-loop-number : goal.invariant-loop-number
invariant-loop-number l =
    l.items ++ imports_from l.number (drop l.number l.imports) ≡ imports_from 0 l.imports
