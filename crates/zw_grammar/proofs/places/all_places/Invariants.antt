use Rattle.std.proofs.Common.{◌≡◌, ◌++◌, drop}
use Rattle.zw_grammar.specs.Places.{all_places}
use Rattle.zw_grammar.specs.Plain.{plain}
use Rattle.zw_grammar.proofs.places.all_places.Given as goal

abbrev pub invariant-loop-rule : goal.invariant-loop-rule
invariant-loop-rule l = l.list.items ++ all_places (plain (drop l.rule-index l.rules)) ≡ all_places (plain l.rules)
