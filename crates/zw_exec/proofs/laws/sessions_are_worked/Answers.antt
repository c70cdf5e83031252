-- Each example computes.
use Rattle.std.proofs.Common.{refl}
use Rattle.std.specs.Fmt.{digits}
use Rattle.hex.specs.Hex.{encode_with}
use Rattle.zw_exec.specs.Sessions.{lines_of, run_of, session}
use Rattle.zw_exec.proofs.laws.sessions_are_worked.Goals as goal

pub returns : goal.returns
unfolding digits encode_with session lines_of run_of
returns c = record {
  no_call = refl;
  result = refl;
  signed = refl;
  import = refl;
  wants_reply = refl;
  steps_out = refl;
  trap = refl;
  panic = refl;
  last_cause = refl;
  no_cause = refl;
  past_the_causes = refl;
  no_memory = refl;
  message = refl;
}
