-- The loop of `tables::import_types`: the types so far, and then those of the imports left, are those of all imports.
use Rattle.std.proofs.Common.{◌≡◌, ◌++◌, map, drop}
use Rattle.zw_lower.specs.Modules.{import_type}
use Rattle.zw_lower.proofs.tables.import_types.Given as goal

abbrev pub invariant-loop-import : goal.invariant-loop-import
invariant-loop-import l =
    l.types ++ map import_type (drop l.import-index l.imports) ≡ map import_type l.imports
