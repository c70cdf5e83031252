use Rattle.zw_token.proofs.Lists.{lies_at, apart}
use Rattle.zw_token.proofs.laws.tokens_in_order.Goals as goal

pub returns-clause-within : goal.returns-clause-within
returns-clause-within c = λ text list tokens. lies_at tokens.list

pub returns-clause-apart : goal.returns-clause-apart
returns-clause-apart c = λ text list tokens. apart tokens.list
