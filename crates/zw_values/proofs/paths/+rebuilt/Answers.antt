-- A path is its first step and the rest.
use Rattle.std.proofs.Common.{◌≡◌, ℕ, List, Some, None, sym, ◌∙◌, ap}
use Rattle.std.specs.Option.{option_map, is_some}
use Rattle.zw_types.specs.TypeTrees.{ValueTree}
use Rattle.zw_types.specs.Readings.{value_tree}
use Rattle.zw_values.specs.Paths.{with_part, written_at}
use Rattle.zw_values.proofs.PathLemmas.{written_at-step, written_at-nowhere}
use Rattle.zw_values.proofs.paths.+rebuilt.Goals as goal

pub returns-in_default-part : goal.returns-in_default-part
returns-in_default-part t c = λ types.
    let v = value_tree types c.args.v.now in
    let new = value_tree types c.args.new in
    sym (ap (λ (l : List ℕ). written_at v l new) c.in-Some.ensures.cases.0
    ∙ written_at-nowhere v new c.in-Some.step.now c.in-Some.rest.now (sym (c.in_default-part.ensures types)))

pub with_part-requires : goal.with_part-requires
with_part-requires t c = λ types. ap is_some (sym (c.in-Some-part.ensures types))

pub returns-in_ok-with_part-in-Some-2 : goal.returns-in_ok-with_part-in-Some-2
returns-in_ok-with_part-in-Some-2 t c = λ types.
    let v = value_tree types c.args.v.now in
    let new = value_tree types c.args.new in
    let step = c.in-Some.step.now in
    let rest = c.in-Some.rest.now in
    let part = value_tree types c.in-Some-part.old.now in
    let inner : written_at part rest new ≡ Some (value_tree types c.in-Some-2.written) = sym (c.in_ok-written.ensures types) ∙ ap (option_map (value_tree types)) c.in-Some-2.is in
    sym (ap (λ (l : List ℕ). written_at v l new) c.in-Some.ensures.cases.0
    ∙ written_at-step v new step rest part (sym (c.in-Some-part.ensures types))
    ∙ ap (option_map (λ (w : ValueTree). with_part v step w)) inner
    ∙ ap Some (sym (c.in_ok-with_part-in-Some-2.ensures types)))

pub returns-in-None : goal.returns-in-None
returns-in-None t c = λ types.
    let v = value_tree types c.args.v.now in
    let new = value_tree types c.args.new in
    let step = c.in-Some.step.now in
    let rest = c.in-Some.rest.now in
    let part = value_tree types c.in-Some-part.old.now in
    let inner : written_at part rest new ≡ None = sym (c.in_ok-written.ensures types) ∙ ap (option_map (value_tree types)) c.in-None.is in
    sym (ap (λ (l : List ℕ). written_at v l new) c.in-Some.ensures.cases.0
    ∙ written_at-step v new step rest part (sym (c.in-Some-part.ensures types))
    ∙ ap (option_map (λ (w : ValueTree). with_part v step w)) inner)
