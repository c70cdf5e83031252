use Rattle.zw_leb.proofs.ReadLemmas.{reads_back, reads_back_32, reads_back_64}
use Rattle.zw_leb.proofs.laws.read_back.Goals as goal

pub returns : goal.returns
returns c = record { unsigned = reads_back; signed_32 = reads_back_32; signed_64 = reads_back_64 }
