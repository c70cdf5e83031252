use Rattle.zw_ops.proofs.fits.is_sized_number.Goals as goal

pub returns-then-is_sized : goal.returns-then-is_sized
returns-then-is_sized c is types z e = (c.is_sized.ensures c.if-is_sized.true, c.is_number_of.ensures is types z e)
