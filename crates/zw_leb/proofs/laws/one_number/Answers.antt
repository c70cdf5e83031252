use Rattle.zw_leb.proofs.LebSpellings.{one_unsigned, one_signed}
use Rattle.zw_leb.proofs.laws.one_number.Goals as goal

pub returns : goal.returns
returns c = record { unsigned = one_unsigned; signed = one_signed }
