use Rattle.std.proofs.Common.{◌≡◌, ◌++◌, take}
use Rattle.zw_names.specs.NameSets.{names_in}
use Rattle.zw_form.specs.Programs.{first_of_each}
use Rattle.zw_form.proofs.names.insert_all.Given as goal

abbrev pub invariant-loop-name : goal.invariant-loop-name
invariant-loop-name l =
    names_in l.set ≡ names_in l.initial.set ++ first_of_each (names_in l.initial.set) (take l.name-index l.names)
