use Rattle.std.proofs.Common.{◌≡◌, ℕ, ◌++◌, [], List, drop}
use Rattle.zw_scope.specs.NameRules.{Violation, repeated}
use Rattle.zw_scope.specs.Repeats.{Passes, entries}
use Rattle.zw_names.specs.NameSets.{names_in}
use Rattle.zw_scope.specs.Telling.{IsFirstOf}
use Rattle.zw_scope.proofs.repeats.tell_repeated.Given as goal

abbrev pub invariant-loop-name : goal.invariant-loop-name
invariant-loop-name l =
    (before : List (List ℕ)) × (done : List Violation)
    × ((vs : List Violation) → IsFirstOf l.ast vs l.fn.so_far → IsFirstOf l.ast (vs ++ done) l.first)
    × (done ++ repeated before (entries l.ast (drop l.name-index l.names)) ≡ repeated [] (entries l.ast l.names))
    × Passes before (names_in l.seen)
