use Rattle.zw_leb.proofs.LebSpellings.{long_forty_two, long_minus_two, five_bytes, five_bytes_signed, ten_bytes_signed, below_32_bits}
use Rattle.zw_leb.proofs.ShortestNumbers.{within_32_bits, within_64_bits}
use Rattle.zw_leb.proofs.laws.longer_numbers.Goals as goal

pub returns : goal.returns
returns c = record {
  unsigned = long_forty_two;
  signed = long_minus_two;
  five_bytes = five_bytes;
  five_signed_bytes = five_bytes_signed;
  ten_signed_bytes = ten_bytes_signed;
  below = below_32_bits;
  within_32 = within_32_bits;
  within_64 = within_64_bits;
}
