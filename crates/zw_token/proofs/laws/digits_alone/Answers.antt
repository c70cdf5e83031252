use Rattle.zw_token.proofs.Digits.{digits_value-filter}
use Rattle.zw_token.proofs.laws.digits_alone.Goals as goal

pub returns : goal.returns
returns c = digits_value-filter
