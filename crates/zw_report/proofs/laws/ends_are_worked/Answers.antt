-- Each example computes.
use Rattle.std.proofs.Common.{refl}
use Rattle.std.specs.Fmt.{digits}
use Rattle.hex.specs.Hex.{encode_with}
use Rattle.zw_report.proofs.laws.ends_are_worked.Goals as goal

pub returns : goal.returns
unfolding digits encode_with
returns c = record {
  number = refl;
  with_sign = refl;
  no_sign = refl;
  long = refl;
  yes = refl;
  no = refl;
  nothing = refl;
  wants_reply = refl;
  steps_out = refl;
  trap = refl;
  message = refl;
  no_message = refl;
  other_cause = refl;
}
