use Rattle.std.proofs.Common.{sym, subst}
use Rattle.zw_types.specs.Readings.{value_tree}
use Rattle.zw_num.specs.Meanings.{IsAmountFor}
use Rattle.zw_ops.specs.Operands.{IfNumber}
use Rattle.zw_ops.proofs.fits.is_amount_of.Goals as goal

pub returns-in-ShlSat : goal.returns-in-ShlSat
returns-in-ShlSat c is types =
    subst (λ op. IfNumber (IsAmountFor op) (value_tree types c.args.value.now)) (sym c.in-ShlSat.is) (c.is_natural.ensures is types)
