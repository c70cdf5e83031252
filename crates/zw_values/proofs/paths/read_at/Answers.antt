-- A step leads to a part, from which the rest of the path goes on.
use Rattle.std.proofs.Common.{ℕ, ◌+◌, List, drop, get_or, sym, ◌∙◌, ap, arith}
use Rattle.std.proofs.Math.ListN.{drop_of_length-le}
use Rattle.std.proofs.lemmas.List.{drop_more}
use Rattle.zw_types.specs.Readings.{value_tree}
use Rattle.zw_values.specs.Paths.{value_at}
use Rattle.zw_values.proofs.PathLemmas.{value_at-step, value_at-nowhere}
use Rattle.zw_values.proofs.paths.read_at.Goals as goal

pub returns-in-None : goal.returns-in-None
returns-in-None c = λ types.
    let t = value_tree types c.loop-step.place.now in
    let path = c.args.path.now in
    let at = c.loop-step.step-index in
    sym (sym (c.loop-step.invariant types)
    ∙ ap (λ (l : List ℕ). value_at t l) (drop_more path at 0 c.loop-step-test.true)
    ∙ value_at-nowhere t (get_or path at 0) (drop (at + 1) path) (sym (c.in-None.ensures types)))

pub loop-step-preserved : goal.loop-step-preserved
loop-step-preserved c = λ types.
    let t = value_tree types c.loop-step.place.now in
    let path = c.args.path.now in
    let at = c.loop-step.step-index in
    sym (value_at-step t (get_or path at 0) (drop (at + 1) path) (value_tree types c.in-Some.next.now) (sym (c.in-Some.ensures types)))
    ∙ ap (λ (l : List ℕ). value_at t l) (sym (drop_more path at 0 c.loop-step-test.true))
    ∙ c.loop-step.invariant types

pub returns : goal.returns
returns c = λ types.
    ap (λ (l : List ℕ). value_at (value_tree types c.loop-step.place.now) l) (sym (drop_of_length-le c.args.path.now (omega arith)))
    ∙ c.loop-step.invariant types
