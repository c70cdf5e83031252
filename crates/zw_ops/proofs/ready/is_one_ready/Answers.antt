use Rattle.std.proofs.Common.{All, map, sym, subst, ◌∙◌}
use Rattle.zw_types.specs.Readings.{type_at, value_tree}
use Rattle.zw_values.specs.Coercions.{integer_of}
use Rattle.zw_num.specs.Meanings.{IsOperandOf}
use Rattle.zw_ops.specs.Operands.{IfInteger, IfNumber}
use Rattle.zw_ops.proofs.ready.is_one_ready.Goals as goal

pub returns : goal.returns
returns c is =
    let trees = c.args.types.now.trees in
    let values = map (value_tree trees) c.args.args.now in
    subst (λ integers. IfInteger integers (λ own. IfInteger (integer_of (type_at trees c.args.to)) (λ ty. All (IfNumber (IsOperandOf c.args.op own ty)) values)))
    (sym c.in-Some.is ∙ c.first_integers.ensures.integers)
    (subst (λ integers. IfInteger integers (λ ty. All (IfNumber (IsOperandOf c.args.op c.in-Some.own ty)) values))
    (sym c.in-Some-integer_type.is ∙ c.integer_type.ensures.integers) (c.are_unary_operands.ensures is trees))
