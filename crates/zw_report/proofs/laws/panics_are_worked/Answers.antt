-- Each example computes.
use Rattle.std.proofs.Common.{refl}
use Rattle.std.specs.Fmt.{digits}
use Rattle.zw_report.proofs.laws.panics_are_worked.Goals as goal

pub returns : goal.returns
unfolding digits
returns c = record {
  integer_overflow = refl;
  index_out_of_bounds = refl;
  slice_bounds = refl;
  null_unwrap = refl;
  error_unwrap = refl;
  reached_unreachable = refl;
  divide_by_zero = refl;
  exact_remainder = refl;
  shift_amount = refl;
  shift_bits_lost = refl;
  cast_truncated = refl;
  negative_to_unsigned = refl;
  bad_enum_value = refl;
  inactive_field = refl;
  for_lengths = refl;
  copy_lengths = refl;
  copy_alias = refl;
  call_depth = refl;
}
