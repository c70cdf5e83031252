-- The numbers by which errors of a text are told.
use Rattle.std.specs.Prelude.{ℕ}
use Rattle.zw_token.specs.declared.token.TextError.{TextError}
use Rattle.zw_token.specs.declared.token.TextError.TheVariants.{BadByte, BadToken, BadLiteral, NotInProfile}

-- the number of an error
abbrev pub number_of_error : TextError → ℕ
number_of_error BadByte = 3
number_of_error BadToken = 4
number_of_error BadLiteral = 5
number_of_error NotInProfile = 7
