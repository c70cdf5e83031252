use Rattle.std.proofs.Common.{List, ◌++◌, map, ap, ◌∙◌}
use Rattle.zw_grammar.specs.declared.grammar.Alternative.{Alternative}
use Rattle.zw_grammar.specs.declared.grammar.Rule.{Rule}
use Rattle.zw_grammar.specs.Places.{places_below}
use Rattle.zw_grammar.specs.Plain.{plain_alternative}
use Rattle.zw_grammar.proofs.PlaceLemmas.{next_rule}
use Rattle.zw_grammar.proofs.places.all_places.Goals as goal

pub loop-rule-preserved : goal.loop-rule-preserved
loop-rule-preserved c =
    let pushed = c.in_ok-add_places.ensures ∙ ap (λ (l : List Alternative). c.loop-rule.list.items ++ places_below 128 (map plain_alternative l)) c.as_slice.ensures.value
    ∙ ap (λ (r : Rule). c.loop-rule.list.items ++ places_below 128 (map plain_alternative r.alternatives.items)) c.rule-item.is in
    next_rule c.args.rules.now c.loop-rule.rule-index c.rule-item.result c.loop-rule.list.items c.add_places.new.list.items c.loop-rule-test.true c.loop-rule.invariant pushed
