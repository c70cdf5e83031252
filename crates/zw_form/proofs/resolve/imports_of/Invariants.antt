use Rattle.std.proofs.Common.{◌≡◌, map, take}
use Rattle.zw_names.specs.NameSets.{names_in}
use Rattle.zw_form.specs.Programs.{import_named}
use Rattle.zw_form.specs.Rules.{externs_of}
use Rattle.zw_form.proofs.resolve.imports_of.Given as goal

abbrev pub invariant-loop-name : goal.invariant-loop-name
invariant-loop-name l = l.imports ≡ map (import_named (externs_of l.file)) (take l.name-index (names_in l.called))
