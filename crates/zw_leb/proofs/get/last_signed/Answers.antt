use Rattle.std.proofs.Common.{◌≤◌, ◌-◌, ◌^◌}
use Rattle.zw_leb.proofs.ReadLemmas.{small_half, large_half, last_from_zero, last_below_zero}
use Rattle.zw_leb.proofs.get.last_signed.Goals as goal
use Rattle.zw_leb.proofs.get.last_signed.Goals.{then-bits-lt7, else-bits-lt7}

pub returns-then-byte-half : goal.returns-then-byte-half
returns-then-byte-half c =
    let room : (c.if-bits-lt7.half ≤ 64) × (c.if-bits-lt7.half ≤ 2 ^ (c.args.bits - 1)) =
    elim c.if-bits-lt7.branch [
      | then-bits-lt7 w ↦ small_half _ _ c.requires.some w.if-bits-lt7.true w.half-is
      | else-bits-lt7 w ↦ large_half _ _ w.if-bits-lt7.false w.half-is
    ] in
    last_from_zero _ _ _ _ room.0 room.1 c.if-byte-half.true c.from.ensures

pub returns-then-byte-half-ge128 : goal.returns-then-byte-half-ge128
returns-then-byte-half-ge128 c =
    let room : (c.if-bits-lt7.half ≤ 64) × (c.if-bits-lt7.half ≤ 2 ^ (c.args.bits - 1)) =
    elim c.if-bits-lt7.branch [
      | then-bits-lt7 w ↦ small_half _ _ c.requires.some w.if-bits-lt7.true w.half-is
      | else-bits-lt7 w ↦ large_half _ _ w.if-bits-lt7.false w.half-is
    ] in
    last_below_zero _ _ _ _ room.0 room.1 c.requires.last c.if-byte-half-ge128.true c.from-then-byte-half-ge128.ensures
