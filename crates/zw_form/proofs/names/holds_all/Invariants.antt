use Rattle.std.proofs.Common.{All, Contains, take}
use Rattle.zw_names.specs.NameSets.{names_in}
use Rattle.zw_form.proofs.names.holds_all.Given as goal

abbrev pub invariant-loop-name : goal.invariant-loop-name
invariant-loop-name l = All (Contains (names_in l.set)) (take l.name-index l.names)
