use Rattle.zw_calls.proofs.TextLemmas.{count-number}
use Rattle.zw_calls.proofs.request.steps_of.Goals as goal

pub returns-in_err-steps : goal.returns-in_err-steps
returns-in_err-steps c = rw c.from_residual.ensures (λ count. c.in_err-steps.ensures (count-number c.args.number.now count))
