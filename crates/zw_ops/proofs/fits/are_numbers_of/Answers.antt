use Rattle.zw_num.specs.Arithmetic.{IsIn}
use Rattle.zw_ops.specs.Operands.{IfNumber}
use Rattle.zw_ops.proofs.ReadyLemmas.{all_one, all_two}
use Rattle.zw_ops.proofs.fits.are_numbers_of.Goals as goal

pub returns-in-Some : goal.returns-in-Some
returns-in-Some c is types = all_one (IfNumber (IsIn c.args.ty)) types c.args.args.now c.in-Some.a.now c.in-Some.ensures (c.is_number_of.ensures is types)

pub returns-then-is_number_of : goal.returns-then-is_number_of
returns-then-is_number_of c is types =
    all_two (IfNumber (IsIn c.args.ty)) types c.args.args.now c.in-Some-two.a.now c.in-Some-two.b.now c.in-Some-two.ensures
    (c.is_number_of-in-Some-two.ensures c.if-is_number_of.true types) (c.is_number_of-then-is_number_of.ensures is types)
