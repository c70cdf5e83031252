use Rattle.std.proofs.Common.{All, map, sym, subst, ◌∙◌}
use Rattle.zw_num.specs.Arithmetic.{IsIn}
use Rattle.zw_types.specs.Readings.{value_tree}
use Rattle.zw_ops.specs.Operands.{IfInteger, IfNumber}
use Rattle.zw_ops.proofs.ready.are_two_ready.Goals as goal

pub returns-in-Some : goal.returns-in-Some
returns-in-Some c is =
    let trees = c.args.types.now.trees in
    subst (λ integers. IfInteger integers (λ ty. All (IfNumber (IsIn ty)) (map (value_tree trees) c.args.args.now)))
    (sym c.in-Some.is ∙ c.integer_type.ensures.integers) (c.are_numbers_of.ensures is trees)
