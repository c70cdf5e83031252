-- What reading a text from the left comes to, and how far it has been looked at for bad bytes.
use Rattle.std.specs.Prelude.{◌≡◌, ℕ, ◌<◌, ◌≤◌, false, List, length, take, drop}
use Rattle.std.specs.Str.{IsUtf8}
use Rattle.zw_token.specs.declared.lexer.Reading.{Reading}
use Rattle.zw_token.specs.declared.lexer.Reading.TheVariants as reading
use Rattle.zw_token.specs.declared.token.TextError.{TextError}
use Rattle.zw_token.specs.declared.token.TextError.TheVariants.{BadByte}
use Rattle.zw_token.specs.Bytes.{starts_bad}
use Rattle.zw_token.specs.Tokens.{Tokens, TextStop, WrongFrom, IsBadByte, IsFirstBad}

-- the tokens of the text, or its stop
abbrev pub IsReading : List ℕ → Reading → Type 0
IsReading text (reading.Tokens list) = Tokens text list.items
IsReading text (reading.Wrong at error) = TextStop text at error

-- no bad byte stands before a place, and the text is UTF-8 up to another that doesn't come before it
pub record IsGoodUpTo (text : List ℕ) (at valid : ℕ) : Type 0 where
  pub ordered : at ≤ valid
  pub within : valid ≤ length text
  pub is_utf8 : IsUtf8 (take valid text)
  pub no_control : (k : ℕ) → k < at → starts_bad (drop k text) ≡ false

-- where a text stops from a place on, up to which it has tokens: at its first bad byte, or at the first wrong token from there on
pub data StopFrom (text : List ℕ) (from : ℕ) : ℕ → TextError → Type 0 where
  at_bad_byte : {at : ℕ} → IsFirstBad text at → ((wrong : ℕ) (error : TextError) → WrongFrom text from wrong error → at ≤ wrong) → StopFrom text from at BadByte
  at_wrong_token : {at : ℕ} {error : TextError} → WrongFrom text from at error → ((bad : ℕ) → IsBadByte text bad → at < bad) → StopFrom text from at error
