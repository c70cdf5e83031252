use Rattle.std.proofs.Common.{◌<◌, arith}
use Rattle.zw_safety_wide.proofs.WideShares.{least_read}
use Rattle.zw_safety_wide.proofs.shares.least_of_bits.Goals as goal
use Rattle.zw_safety_words.proofs.WideWords.{power_long}

pub returns-else-bits-eq0 : goal.returns-else-bits-eq0
returns-else-bits-eq0 c =
    let some : 0 < c.args.bits = omega arith in
    least_read c.args.bits c.greatest_signed.result some (power_long c.args.bits c.requires) c.greatest_signed.ensures
