use Rattle.std.proofs.Common.{All, Contains, take}
use Rattle.zw_names.specs.NameSets.{names_in}
use Rattle.zw_form.proofs.names.differ_from.Given as goal

abbrev pub invariant-loop-name : goal.invariant-loop-name
invariant-loop-name l = All (λ name. ¬ Contains (names_in l.set) name) (take l.name-index l.names)
