use Rattle.std.proofs.Common.{◌≡◌, map, drop}
use Rattle.zw_grammar.specs.Places.{place_from}
use Rattle.zw_grammar.specs.Plain.{plain_alternative}
use Rattle.zw_grammar.proofs.places.place_of.Given as goal

abbrev pub invariant-loop-alternative : goal.invariant-loop-alternative
invariant-loop-alternative l = place_from l.place (map plain_alternative (drop l.alternative-index l.alternatives)) l.terminal ≡ place_from 0 (map plain_alternative l.alternatives) l.terminal
