-- The token list of a text, and where a text stops that has none.
use Rattle.std.specs.Prelude.{◌≡◌, ℕ, ◌+◌, ◌-◌, ◌<◌, ◌≤◌, ◌⊎◌, not, IsTrue, false, List, [], ◌∷◌, length, take, drop, nat_eq, count_by, AllPairs, Ok, Err, if◌then◌else◌}
use Rattle.std.specs.List.{list_all, starts_with, suffix_len}
use Rattle.std.specs.Str.{IsValidUpTo}
use Rattle.zw_base.specs.declared.stop.Place.{Place}
use Rattle.zw_base.specs.declared.stop.Refused.{Refused}
use Rattle.zw_base.specs.declared.stop.Refused.TheVariants as refused_by
use Rattle.zw_base.specs.declared.stop.Stop.{Stop}
use Rattle.zw_base.specs.declared.stop.StopKind.TheVariants.{Error}
use Rattle.zw_token.specs.declared.token.TextError.{TextError}
use Rattle.zw_token.specs.declared.token.TextError.TheVariants.{BadByte}
use Rattle.zw_token.specs.declared.token.Token.{Token}
use Rattle.zw_token.specs.declared.token.TokenKind.{TokenKind}
use Rattle.zw_token.specs.declared.token.TokenKind.TheVariants.{End}
use Rattle.zw_token.specs.Bytes.{is_name_start, is_name_byte, starts_bad, starts_blank, blank_len, is_line_feed}
use Rattle.zw_token.specs.ErrorNumbers.{number_of_error}
use Rattle.zw_token.specs.Front.{front}

-- a letter or `_`, then letters, digits and `_`
abbrev pub IsWord : List ℕ → Type 0
IsWord [] = ⊥
IsWord (b ∷ bytes) = IsTrue (is_name_start b) × IsTrue (list_all is_name_byte bytes)

-- what is left of a text begins with a token of this kind, of n bytes
pub record BeginsToken (rest : List ℕ) (kind : TokenKind) (n : ℕ) : Type 0 where
  pub no_blank : starts_blank rest ≡ false
  pub is_front : front rest ≡ Ok (kind, n)

-- what is left of a text begins with no token: this is wrong there
pub record BeginsWrong (rest : List ℕ) (error : TextError) : Type 0 where
  pub some_left : 0 < length rest
  pub no_blank : starts_blank rest ≡ false
  pub is_front : front rest ≡ Err error

-- these bytes, taken alone, are one token of this kind
abbrev pub IsOfKind : TokenKind → List ℕ → Type 0
IsOfKind kind bytes = front bytes ≡ Ok (kind, length bytes)

-- the token stands in the text
abbrev pub StandsIn : List ℕ → Token → Type 0
StandsIn text t = (n : ℕ) × (t.end ≡ t.start + n) × BeginsToken (drop t.start text) t.kind n

-- the token is the end of the text
pub record IsEnd (text : List ℕ) (t : Token) : Type 0 where
  pub kind : t.kind ≡ End
  pub start : t.start ≡ length text
  pub end : t.end ≡ length text

-- from one place up to another, white space and comments stand in the text and nothing else
pub data IsGap (text : List ℕ) : ℕ → ℕ → Type 0 where
  empty : {from to : ℕ} → from ≡ to → IsGap text from to
  blank : {from to : ℕ} → IsTrue (starts_blank (drop from text)) → IsGap text (from + blank_len (drop from text)) to → IsGap text from to

-- the next token of a text from a place on, behind white space and comments
abbrev pub IsNext : List ℕ → ℕ → Token → Type 0
IsNext text from t = IsGap text from t.start × (IsEnd text t ⊎ StandsIn text t)

-- the tokens of a text from a place on: each behind the one before, and the end of the text as the last
pub data TokensFrom (text : List ℕ) : ℕ → List Token → Type 0 where
  last : {from : ℕ} {t : Token} → IsGap text from t.start → IsEnd text t → TokensFrom text from (t ∷ [])
  more : {from : ℕ} {t : Token} {ts : List Token} → IsGap text from t.start → StandsIn text t → TokensFrom text t.end ts → TokensFrom text from (t ∷ ts)

-- the first wrong token of a text from a place on: where it stands, behind the tokens before it, and what is wrong
pub data WrongFrom (text : List ℕ) : ℕ → ℕ → TextError → Type 0 where
  here : {from at : ℕ} {error : TextError} → IsGap text from at → BeginsWrong (drop at text) error → WrongFrom text from at error
  behind : {from at : ℕ} {error : TextError} {t : Token} → IsGap text from t.start → StandsIn text t → WrongFrom text t.end at error → WrongFrom text from at error

-- where the text begins, after a byte order mark
unfoldable pub start_of : List ℕ → ℕ
start_of text = if starts_with nat_eq text (0xEF ∷ 0xBB ∷ 0xBF ∷ []) then 3 else 0

-- a bad byte stands at this place: a control or a separator that no text may have, or the first byte that is no UTF-8
abbrev pub IsBadByte : List ℕ → ℕ → Type 0
IsBadByte text at = IsTrue (starts_bad (drop at text)) ⊎ IsValidUpTo text at

abbrev pub HasNoBadByte : List ℕ → Type 0
HasNoBadByte text = (at : ℕ) → ¬ IsBadByte text at

-- the tokens of a text, which has no bad byte
pub record Tokens (text : List ℕ) (ts : List Token) : Type 0 where
  pub list : TokensFrom text (start_of text) ts
  pub no_bad_byte : HasNoBadByte text

-- the first bad byte of a text
pub record IsFirstBad (text : List ℕ) (at : ℕ) : Type 0 where
  pub is_bad : IsBadByte text at
  pub first : (other : ℕ) → IsBadByte text other → at ≤ other

-- the first wrong token of a text
abbrev pub IsFirstWrong : List ℕ → ℕ → TextError → Type 0
IsFirstWrong text at error = WrongFrom text (start_of text) at error

-- where a text stops that has no tokens: at its first bad byte or its first wrong token, whichever stands first, and at one place
-- for the bad byte
pub data TextStop (text : List ℕ) : ℕ → TextError → Type 0 where
  bad_byte : {at : ℕ} → IsFirstBad text at → ((wrong : ℕ) (error : TextError) → IsFirstWrong text wrong error → at ≤ wrong) → TextStop text at BadByte
  wrong_token : {at : ℕ} {error : TextError} → IsFirstWrong text at error → ((bad : ℕ) → IsBadByte text bad → at < bad) → TextStop text at error

-- the token is some part of the text
abbrev pub LiesIn : List ℕ → Token → Type 0
LiesIn text t = (t.start ≤ t.end) × (t.end ≤ length text)

-- the bytes of a token
abbrev pub bytes_of : List ℕ → Token → List ℕ
bytes_of text t = take (t.end - t.start) (drop t.start text)

-- the bytes of a token, unless it is the end of the text, are one token of its kind when taken alone
abbrev pub IsTokenAlone : List ℕ → Token → Type 0
IsTokenAlone text t = (t.kind ≡ End → ⊥) → IsOfKind t.kind (bytes_of text t)

-- each token ends before those behind it begin
abbrev pub DoNotOverlap : List Token → Type 0
DoNotOverlap ts = AllPairs (λ t u. t.end ≤ u.start) ts

-- a place of a text by its line, which counts line feeds from 1, and its column, which counts the bytes of the line from 1
abbrev pub place_at : ℕ → List ℕ → ℕ → Place
place_at file text at = record {
  file = file;
  line = count_by is_line_feed (take at text) + 1;
  column = suffix_len (λ b. not (is_line_feed b)) (take at text) + 1;
}

-- the stop at a place of a text
abbrev pub stop_at : ℕ → List ℕ → ℕ → TextError → Stop
stop_at file text at error = record { kind = Error (number_of_error error); place = place_at file text at }

-- a text is refused because it has a stop, or because memory ran out
abbrev pub IsRefusal : ℕ → List ℕ → Refused → Type 0
IsRefusal file text (refused_by.Stop stop) = (at : ℕ) × (error : TextError) × TextStop text at error × (stop ≡ stop_at file text at error)
IsRefusal file text refused_by.Oom = Unit {0}
