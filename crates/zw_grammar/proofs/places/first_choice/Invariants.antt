use Rattle.std.proofs.Common.{◌≡◌, map, drop}
use Rattle.zw_grammar.specs.Reading.{first_choice}
use Rattle.zw_grammar.specs.Plain.{plain_alternative}
use Rattle.zw_grammar.proofs.places.first_choice.Given as goal

abbrev pub invariant-loop-alternative : goal.invariant-loop-alternative
invariant-loop-alternative l = first_choice (map plain_alternative (drop l.alternative-index l.alternatives)) l.terminal ≡ first_choice (map plain_alternative l.alternatives) l.terminal
