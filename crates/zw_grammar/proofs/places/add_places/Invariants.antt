use Rattle.std.proofs.Common.{◌≡◌, ◌++◌, map}
use Rattle.zw_grammar.specs.Places.{places_below}
use Rattle.zw_grammar.specs.Plain.{plain_alternative}
use Rattle.zw_grammar.proofs.places.add_places.Given as goal

abbrev pub invariant-loop-terminal : goal.invariant-loop-terminal
invariant-loop-terminal l = l.list.items ≡ l.initial.list.items ++ places_below l.terminal (map plain_alternative l.alternatives)
