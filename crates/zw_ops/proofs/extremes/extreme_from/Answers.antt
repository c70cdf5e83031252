-- Each value behind is a number that is taken in, or none.
use Rattle.std.proofs.Common.{◌≡◌, ◌+◌, sym, ◌∙◌, ap, Some, map, drop, rules, to_z, of_z}
use Rattle.std.specs.Int.{w128}
use Rattle.std.proofs.Math.Facts.{to_z-of_z}
use Rattle.zw_types.specs.Readings.{value_tree}
use Rattle.zw_values.specs.Applied as operation
use Rattle.zw_ops.proofs.ExtremeLemmas.{next_number, no_number, none_left}
use Rattle.zw_ops.proofs.OperandLemmas.{value_tree-Number}
use Rattle.zw_ops.proofs.extremes.extreme_from.Goals as goal

pub returns-in_default : goal.returns-in_default
returns-in_default c = λ types.
    let op = c.args.op in
    ap Some (sym (no_number op types c.args.rest.now c.loop-value.value-index (to_z w128 c.loop-value.chosen-bits) c.value-item.result c.loop-value-test.true c.value-item.is (sym c.in_default.is ∙ c.number.ensures types))
    ∙ c.loop-value.invariant types
    ∙ ap (λ a. operation.extreme_from op a (map (value_tree types) c.args.rest.now)) (to_z-of_z c.ranges.first))

pub loop-value-preserved : goal.loop-value-preserved
loop-value-preserved c = λ types.
    let op = c.args.op in
    let i = c.loop-value.value-index in
    let rest = c.args.rest.now in
    let n = to_z w128 (of_z w128 c.in-Some.number) in
    let same : n ≡ c.in-Some.number = search rules in
    let taken : to_z w128 (of_z w128 c.extreme-chosen.result) ≡ c.extreme-chosen.result = search rules in
    ap (λ a. operation.extreme_from op a (map (value_tree types) (drop (i + 1) rest))) (taken ∙ c.extreme-chosen.ensures)
    ∙ sym (next_number op types rest i (to_z w128 c.loop-value.chosen-bits) c.value-item.result c.loop-value-test.true c.value-item.is n (ap Some same ∙ sym c.in-Some.is ∙ c.number.ensures types))
    ∙ c.loop-value.invariant types

pub returns : goal.returns
returns c = λ types.
    let op = c.args.op in
    let last = to_z w128 c.loop-value.chosen-bits in
    ap Some (ap operation.Gives (value_tree-Number types last)
    ∙ sym (none_left op types c.args.rest.now c.loop-value.value-index last c.loop-value-test.false)
    ∙ c.loop-value.invariant types
    ∙ ap (λ a. operation.extreme_from op a (map (value_tree types) c.args.rest.now)) (to_z-of_z c.ranges.first))
