use Rattle.zw_num.specs.Meanings.{IsOperandOf}
use Rattle.zw_ops.specs.Operands.{IfNumber}
use Rattle.zw_ops.proofs.ReadyLemmas.{all_one}
use Rattle.zw_ops.proofs.fits.are_unary_operands.Goals as goal

pub returns-in-Some : goal.returns-in-Some
returns-in-Some c is types =
    all_one (IfNumber (IsOperandOf c.args.op c.args.own c.args.ty)) types c.args.args.now c.in-Some.a.now c.in-Some.ensures (c.is_unary_operand.ensures is types)
