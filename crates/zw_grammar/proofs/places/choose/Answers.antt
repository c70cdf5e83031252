use Rattle.std.proofs.Common.{List, Some, None, slice_get, sym, ap, ◌∙◌, arith}
use Rattle.std.proofs.lemmas.Grind.{common_steps}
use Rattle.std.proofs.lemmas.Option.{slice_get_past}
use Rattle.zw_grammar.specs.declared.grammar.Alternative.{Alternative}
use Rattle.zw_grammar.specs.declared.grammar.Symbol.{Symbol}
use Rattle.zw_grammar.proofs.PlaceLemmas.{choice_looked_up, found}
use Rattle.zw_grammar.proofs.places.choose.Goals as goal

pub returns-in-Some-get : goal.returns-in-Some-get
returns-in-Some-get c =
    let rule = c.in_ok-rule.ensures.lookup in
    let place = c.in-Some.ensures.lookup in
    let alternative = c.in-Some-get.ensures.lookup in
    let lies = ap (λ (l : List Alternative). slice_get l c.in-Some.place.now) (sym c.deref.ensures.value) in
    choice_looked_up c.args.rules.now c.args.places.now c.args.number c.args.terminal c.in-Some.place.now c.in_ok-rule.rule.now (Some c.in-Some-get.alternative.now) c.requires.places
    (found _ _ _ rule.3.0 rule.1) (grind (arith, common_steps)) (found _ _ _ place.3.0 place.1) (grind (arith, common_steps)) (lies ∙ found _ _ _ alternative.3.0 alternative.1)
    ∙ ap (λ (l : List Symbol). Some l) (sym c.as_slice-in-Some-get.ensures.value)

pub returns-in-None : goal.returns-in-None
returns-in-None c =
    let rule = c.in_ok-rule.ensures.lookup in
    let place = c.in-Some.ensures.lookup in
    let past = c.in-None.ensures.lookup in
    let lies = ap (λ (l : List Alternative). slice_get l c.in-Some.place.now) (sym c.deref.ensures.value) in
    choice_looked_up c.args.rules.now c.args.places.now c.args.number c.args.terminal c.in-Some.place.now c.in_ok-rule.rule.now None c.requires.places
    (found _ _ _ rule.3.0 rule.1) (grind (arith, common_steps)) (found _ _ _ place.3.0 place.1) (grind (arith, common_steps)) (lies ∙ slice_get_past _ _ past.3)
