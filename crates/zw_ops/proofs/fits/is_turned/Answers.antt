use Rattle.zw_ops.proofs.fits.is_turned.Goals as goal

pub returns-then-are_same : goal.returns-then-are_same
returns-then-are_same c is types z e =
    let number = c.is_sized_number.ensures is types z e in
    (c.are_same.ensures c.if-are_same.true, number.0, number.1)
