use Rattle.std.proofs.Common.{arith}
use Rattle.zw_token.proofs.CodePoints.{none_begins, ascii_point}
use Rattle.zw_token.proofs.bad.code_point_len.Goals as goal

pub returns-in-empty-clause-none : goal.returns-in-empty-clause-none
returns-in-empty-clause-none c = none_begins c.args.rest.now (omega (arith, c.in-empty.len_below))

pub returns-then-first-lt128-clause-some : goal.returns-then-first-lt128-clause-some
returns-then-first-lt128-clause-some c = (omega arith, c.in-len1-up.len_at_least, ascii_point c.args.rest.now c.in-len1-up.len_at_least c.if-first-lt128.true)
