-- The first operand is a number, and those behind it are taken in.
use Rattle.std.proofs.Common.{◌≡◌, List, map, sym, ◌∙◌, ap, Some, rules, to_z, of_z}
use Rattle.std.specs.Int.{w128}
use Rattle.zw_types.specs.declared.value.Value.{Value}
use Rattle.zw_types.specs.Readings.{value_tree}
use Rattle.zw_values.specs.Applied as operation
use Rattle.zw_ops.proofs.extremes.extreme_of.Goals as goal

pub returns-in_default-number : goal.returns-in_default-number
returns-in_default-number c = λ types.
    let op = c.args.op in
    let rest = map (value_tree types) c.in-Some.rest.now in
    ap Some (ap (λ o. operation.on_number o (λ a. operation.extreme_from op a rest)) (sym c.in_default-number.is ∙ c.number.ensures types)
    ∙ ap (λ (xs : List Value). operation.extreme_of op (map (value_tree types) xs)) (sym c.in-Some.ensures.cases.0))

pub returns : goal.returns
returns c = λ types.
    let op = c.args.op in
    let rest = map (value_tree types) c.in-Some.rest.now in
    let same : to_z w128 (of_z w128 c.in-Some-number.first) ≡ c.in-Some-number.first = search rules in
    c.extreme_from.ensures types
    ∙ ap Some (ap (λ a. operation.extreme_from op a rest) same ∙ ap (λ o. operation.on_number o (λ a. operation.extreme_from op a rest)) (sym c.in-Some-number.is ∙ c.number.ensures types)
    ∙ ap (λ (xs : List Value). operation.extreme_of op (map (value_tree types) xs)) (sym c.in-Some.ensures.cases.0))
