use Rattle.std.proofs.Common.{sym, subst}
use Rattle.zw_types.specs.Readings.{value_tree}
use Rattle.zw_num.specs.Meanings.{IsOperandOf}
use Rattle.zw_ops.specs.Operands.{IfNumber}
use Rattle.zw_ops.proofs.fits.is_unary_operand.Goals as goal

pub returns-in-Neg : goal.returns-in-Neg
returns-in-Neg c is types =
    subst (λ op. IfNumber (IsOperandOf op c.args.own c.args.ty) (value_tree types c.args.value.now)) (sym c.in-Neg.is) (c.is_number_of.ensures is types)

pub returns-in-NegWrap : goal.returns-in-NegWrap
returns-in-NegWrap c is types =
    subst (λ op. IfNumber (IsOperandOf op c.args.own c.args.ty) (value_tree types c.args.value.now)) (sym c.in-NegWrap.is) (c.is_number_of-in-NegWrap.ensures is types)

pub returns-in-BitNot : goal.returns-in-BitNot
returns-in-BitNot c is types =
    subst (λ op. IfNumber (IsOperandOf op c.args.own c.args.ty) (value_tree types c.args.value.now)) (sym c.in-BitNot.is) (c.is_sized_number.ensures is types)

pub returns-in-ByteSwap : goal.returns-in-ByteSwap
returns-in-ByteSwap c is types =
    subst (λ op. IfNumber (IsOperandOf op c.args.own c.args.ty) (value_tree types c.args.value.now)) (sym c.in-ByteSwap.is) (c.is_swapped.ensures is types)

pub returns-in-BitReverse : goal.returns-in-BitReverse
returns-in-BitReverse c is types =
    subst (λ op. IfNumber (IsOperandOf op c.args.own c.args.ty) (value_tree types c.args.value.now)) (sym c.in-BitReverse.is) (c.is_turned.ensures is types)
