use Rattle.zw_drive.proofs.FittingLemmas.{fitting_call, call_fitting, fitting_calls}
use Rattle.zw_drive.proofs.laws.sessions_are_of_fitting_calls.Goals as goal

pub returns : goal.returns
returns c = λ trees. record {
  fitting = λ call h. fitting_call trees call h;
  fits = λ call h. call_fitting trees call h;
  sessions = λ calls h. fitting_calls trees calls h;
}
