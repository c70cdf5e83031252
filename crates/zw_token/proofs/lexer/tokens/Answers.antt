use Rattle.std.proofs.Common.{subst, arith}
use Rattle.zw_token.specs.Reading.{IsReading}
use Rattle.zw_token.specs.Tokens.{Tokens, TextStop}
use Rattle.zw_token.proofs.Lists.{lies_at}
use Rattle.zw_token.proofs.Stops.{stop_within}
use Rattle.zw_token.proofs.lexer.tokens.Goals as goal
use Rattle.zw_token.proofs.lexer.tokens.Goals.{In-Wrong}

stop : (c : In-Wrong) → TextStop c.args.text.now c.in-Wrong.at c.in-Wrong.error
stop c = subst (IsReading c.args.text.now) c.in-Wrong.is c.in_ok-list.ensures

pub stop_at-requires-clause-within : goal.stop_at-requires-clause-within
stop_at-requires-clause-within c = let inside = stop_within (stop (goal.at.stop_at-requires-clause-within c).In-Wrong) in omega (arith, inside)

pub returns-in-Tokens-clause-within : goal.returns-in-Tokens-clause-within
returns-in-Tokens-clause-within c =
    let tokens : Tokens c.args.text.now c.in-Tokens.list.items = subst (IsReading c.args.text.now) c.in-Tokens.is c.in_ok-list.ensures in
    lies_at tokens.list
