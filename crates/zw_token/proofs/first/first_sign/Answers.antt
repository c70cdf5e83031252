use Rattle.std.proofs.Common.{sym, arith}
use Rattle.zw_token.proofs.Signs.{sign_found, sign_none, sign-lt}
use Rattle.zw_token.proofs.first.first_sign.Goals as goal

pub overflow_cast-result : goal.overflow_cast-result
overflow_cast-result c = let small = sign-lt c.in-Some.place _ c.in-Some.ensures.found in omega arith

pub returns-in-Some : goal.returns-in-Some
returns-in-Some c = sym (sign_found c.args.rest.now c.in-Some.place c.in-Some.len c.in-Some.ensures.within c.in-Some.ensures.found c.in-Some.ensures.longest)

pub returns-in-None : goal.returns-in-None
returns-in-None c = sym (sign_none c.args.rest.now c.in-None.ensures.none)
