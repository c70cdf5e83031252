use Rattle.zw_token.proofs.Alone.{alone}
use Rattle.zw_token.proofs.laws.tokens_alone.Goals as goal

pub returns : goal.returns
returns c = λ text list tokens. alone tokens
