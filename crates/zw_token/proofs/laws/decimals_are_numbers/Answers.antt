use Rattle.zw_token.proofs.Decimals.{decimal_number, decimal_number_of}
use Rattle.zw_token.proofs.laws.decimals_are_numbers.Goals as goal

pub returns-clause-number : goal.returns-clause-number
returns-clause-number c = decimal_number

pub returns-clause-value : goal.returns-clause-value
returns-clause-value c = decimal_number_of
