use Rattle.std.proofs.Common.{arith}
use Rattle.zw_token.proofs.Groups.{group_within}
use Rattle.zw_token.proofs.tables.sign_group.Goals as goal

pub returns-clause-ordered : goal.returns-clause-ordered
returns-clause-ordered c = let le = (group_within c.args.first).0 in omega (arith, le, c.group_at.ensures.from, c.group_at.ensures.to)

pub returns-clause-within : goal.returns-clause-within
returns-clause-within c = let le = (group_within c.args.first).1 in omega (arith, le, c.group_at.ensures.to)
