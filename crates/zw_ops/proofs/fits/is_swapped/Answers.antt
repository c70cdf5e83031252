use Rattle.zw_ops.proofs.fits.is_swapped.Goals as goal

pub returns-then-has_whole_bytes : goal.returns-then-has_whole_bytes
returns-then-has_whole_bytes c is types z e =
    let turned = c.is_turned.ensures is types z e in
    (turned.0, turned.1, c.has_whole_bytes.ensures c.if-has_whole_bytes.true, turned.2)
