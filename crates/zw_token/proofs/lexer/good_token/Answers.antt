use Rattle.std.proofs.Common.{◌+◌, arith}
use Rattle.zw_token.specs.Reading.{at_wrong_token}
use Rattle.zw_token.specs.Tokens.{here}
use Rattle.zw_token.proofs.FirstBad.{good_before}
use Rattle.zw_token.proofs.Lists.{gap_ordered, next_bounds}
use Rattle.zw_token.proofs.Stops.{bad_first, bad_up_to}
use Rattle.zw_token.proofs.lexer.good_token.Goals as goal

pub look_up_to-requires-clause-ordered : goal.look_up_to-requires-clause-ordered
look_up_to-requires-clause-ordered c = (next_bounds c.args.text.now c.args.from c.in-Ok.token c.in-Ok.ensures.found).0

pub look_up_to-requires-clause-within : goal.look_up_to-requires-clause-within
look_up_to-requires-clause-within c = (next_bounds c.args.text.now c.args.from c.in-Ok.token c.in-Ok.ensures.found).1

pub look_up_to-requires-in-Err-clause-ordered : goal.look_up_to-requires-in-Err-clause-ordered
look_up_to-requires-in-Err-clause-ordered c = let ordered = gap_ordered c.in-Err.ensures.wrong.0 in omega (arith, ordered)

pub returns-in-Err-look_up_to-clause-stop : goal.returns-in-Err-look_up_to-clause-stop
returns-in-Err-look_up_to-clause-stop c =
    bad_first c.args.text.now c.args.from c.in-Err-look_up_to.bad c.in-Ok.token c.in-Ok.ensures.found c.in-Err-look_up_to.ensures.bad c.in-Err-look_up_to.ensures.before

pub returns-in-Ok-look_up_to-2-clause-stop : goal.returns-in-Ok-look_up_to-2-clause-stop
returns-in-Ok-look_up_to-2-clause-stop c =
    at_wrong_token (here c.in-Err.ensures.wrong.0 c.in-Err.ensures.wrong.1)
    (λ bad is. let after = good_before c.args.text.now (c.in-Err.place + 1) c.in-Ok-look_up_to-2.field-0 c.in-Ok-look_up_to-2.ensures.good bad is in omega (arith, after))

pub returns-in-Err-look_up_to-2-clause-stop : goal.returns-in-Err-look_up_to-2-clause-stop
returns-in-Err-look_up_to-2-clause-stop c =
    bad_up_to c.args.text.now c.args.from c.in-Err-look_up_to-2.bad c.in-Err.place c.in-Err.error c.in-Err.ensures.wrong.0 c.in-Err.ensures.wrong.1 c.in-Err-look_up_to-2.ensures.bad c.in-Err-look_up_to-2.ensures.before
