use Rattle.std.proofs.Common.{◌≡◌, map, take}
use Rattle.zw_names.specs.NameSets.{names_in}
use Rattle.zw_form.specs.Programs.{function_of}
use Rattle.zw_form.specs.Rules.{exports_of}
use Rattle.zw_form.proofs.resolve.functions_of.Given as goal

abbrev pub invariant-loop-declaration : goal.invariant-loop-declaration
invariant-loop-declaration l = l.functions ≡ map (function_of (names_in l.imports)) (exports_of (take l.declaration-index l.file))
