-- Each example computes.
use Rattle.std.proofs.Common.{refl}
use Rattle.std.specs.Fmt.{digits}
use Rattle.hex.specs.Hex.{encode_with}
use Rattle.zw_report.proofs.laws.lines_are_worked.Goals as goal

pub returns : goal.returns
unfolding digits encode_with
returns c = record {
  numbers = refl;
  negative = refl;
  nothing = refl;
  truths = refl;
  zero = refl;
  above_signed = refl;
  greatest = refl;
  ends_of_plain = refl;
  looks_like_hex = refl;
  blank = refl;
  above_plain = refl;
  line_end = refl;
  letters_are_small = refl;
  of_a_module = refl;
  whole_name = refl;
  no_name = refl;
  number = refl;
  no_sign = refl;
  with_sign = refl;
  least = refl;
  long = refl;
  above_the_type = refl;
  truth_values = refl;
  in_order = refl;
}
