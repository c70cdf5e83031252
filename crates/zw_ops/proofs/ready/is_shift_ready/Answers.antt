use Rattle.std.proofs.Common.{map, sym, subst, ◌∙◌}
use Rattle.zw_types.specs.Readings.{value_tree}
use Rattle.zw_ops.specs.Operands.{IfInteger, AreShifted}
use Rattle.zw_ops.proofs.ready.is_shift_ready.Goals as goal

pub returns-in-Some : goal.returns-in-Some
returns-in-Some c is from =
    let trees = c.args.types.now.trees in
    subst (λ integers. IfInteger integers (λ ty. AreShifted c.args.op ty (map (value_tree trees) c.args.args.now)))
    (sym c.in-Some.is ∙ c.integer_type.ensures.integers) (c.are_shifted.ensures is trees)
