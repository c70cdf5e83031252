use Rattle.zw_leb.proofs.LebSpellings.{unsigned_spells, signed_spells, signed_spells_64}
use Rattle.zw_leb.proofs.ShortestNumbers.{unsigned_shortest, signed_shortest}
use Rattle.zw_leb.proofs.laws.shortest_number.Goals as goal

pub returns : goal.returns
returns c = record {
  unsigned = unsigned_spells;
  signed_32 = signed_spells;
  signed_64 = signed_spells_64;
  no_shorter = unsigned_shortest;
  no_shorter_signed = signed_shortest;
}
