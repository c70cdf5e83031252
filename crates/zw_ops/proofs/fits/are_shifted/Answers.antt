use Rattle.std.proofs.Common.{map, sym, subst}
use Rattle.zw_types.specs.Readings.{value_tree}
use Rattle.zw_ops.specs.Operands.{AreShifted}
use Rattle.zw_ops.proofs.fits.are_shifted.Goals as goal

pub returns-then-is_number_of : goal.returns-then-is_number_of
returns-then-is_number_of c is types =
    subst (λ xs. AreShifted c.args.op c.args.ty (map (value_tree types) xs)) (sym c.in-Some.ensures)
    (c.is_number_of.ensures c.if-is_number_of.true types, c.is_amount_of.ensures is types)
