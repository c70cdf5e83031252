use Rattle.std.proofs.Common.{All, map, sym, subst, ◌∙◌}
use Rattle.zw_num.specs.Arithmetic.{IsSized, IsIn}
use Rattle.zw_types.specs.Readings.{value_tree}
use Rattle.zw_ops.specs.Operands.{IfInteger, IfNumber}
use Rattle.zw_ops.proofs.ready.is_count_ready.Goals as goal

pub returns-then-is_sized : goal.returns-then-is_sized
returns-then-is_sized c is to =
    let trees = c.args.types.now.trees in
    subst (λ integers. IfInteger integers (λ own. IsSized own × All (IfNumber (IsIn own)) (map (value_tree trees) c.args.args.now)))
    (sym c.in-Some.is ∙ c.first_integers.ensures.integers) (c.is_sized.ensures c.if-is_sized.true, c.are_numbers_of.ensures is trees)
