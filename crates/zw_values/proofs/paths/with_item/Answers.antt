use Rattle.std.proofs.Common.{◌≡◌, sym, ◌∙◌, ap, ◌++◌, List, arith}
use Rattle.std.proofs.Math.ListN.{drop_of_length-le}
use Rattle.std.proofs.lemmas.List.{append-nil}
use Rattle.zw_types.specs.declared.value.Value.{Value}
use Rattle.zw_values.proofs.paths.with_item.Goals as goal

pub returns : goal.returns
returns c =
    let done : c.loop-value.copies ≡ c.args.values.now =
    sym (append-nil c.loop-value.copies) ∙ sym (ap (λ (l : List Value). c.loop-value.copies ++ l) (drop_of_length-le c.args.values.now (omega arith))) ∙ c.loop-value.invariant.0 in
    let item = c.loop-value.invariant.1 in
    let set = c.set.ensures in
    cc
