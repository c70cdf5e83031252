-- A text has one stop, and no tokens where it has one.
use Rattle.std.proofs.Common.{◌≡◌, ℕ, ◌+◌, ◌<◌, ◌≤◌, List, length, drop, refl, ⊎_elim, arith}
use Rattle.zw_token.specs.declared.token.TextError.{TextError}
use Rattle.zw_token.specs.declared.token.TextError.TheVariants.{BadByte}
use Rattle.zw_token.specs.declared.token.Token.{Token}
use Rattle.zw_token.specs.Reading.{StopFrom, at_bad_byte, at_wrong_token}
use Rattle.zw_token.specs.Tokens.{Tokens, TextStop, bad_byte, wrong_token, IsGap, IsNext, IsEnd, StandsIn, BeginsWrong, last, here, WrongFrom, IsFirstBad}
use Rattle.zw_token.proofs.FirstBad.{bad_within}
use Rattle.zw_token.proofs.Lists.{one_wrong, never_from, wrong_within, wrong_behind, past_stand, TokensUpTo}

pub same_stop : {text : List ℕ} {at place : ℕ} {a b : TextError} → TextStop text at a → TextStop text place b → (at ≡ place) × (a ≡ b)
same_stop {text} {at} {place} (bad_byte first before) (bad_byte first' before') =
    (let le : at ≤ place = first.first place first'.is_bad in let ge : place ≤ at = first'.first at first.is_bad in omega (arith, le, ge), refl)
same_stop {text} {at} {place} {a} {b} (bad_byte first before) (wrong_token wrong none) =
    absurd (let le : at ≤ place = before place b wrong in let more : place < at = none at first.is_bad in omega (arith, le, more))
same_stop {text} {at} {place} {a} {b} (wrong_token wrong none) (bad_byte first before) =
    absurd (let le : place ≤ at = before at a wrong in let more : at < place = none place first.is_bad in omega (arith, le, more))
same_stop (wrong_token wrong none) (wrong_token wrong' none') = one_wrong wrong wrong'

pub never_both : {text : List ℕ} {list : List Token} {at : ℕ} {error : TextError} → Tokens text list → TextStop text at error → ⊥
never_both {text} {list} {at} tokens (bad_byte first before) = tokens.no_bad_byte at first.is_bad
never_both tokens (wrong_token wrong none) = never_from tokens.list wrong

-- a bad byte up to the end of the next token stands first
pub bad_first : (text : List ℕ) (from bad : ℕ) (t : Token) → IsNext text from t → IsFirstBad text bad → bad < t.end → StopFrom text from bad BadByte
bad_first text from bad t next first before = at_bad_byte first (λ wrong error h. ⊎_elim (at_end wrong error h) (in_text wrong error h) next.1)
  where
    at_end : (wrong : ℕ) (error : TextError) → WrongFrom text from wrong error → IsEnd text t → bad ≤ wrong
    at_end wrong error h end = absurd (never_from (last next.0 end) h)

    in_text : (wrong : ℕ) (error : TextError) → WrongFrom text from wrong error → StandsIn text t → bad ≤ wrong
    in_text wrong error h stands = let later = wrong_behind (past_stand t next.0 stands h) in omega (arith, later, before)

-- and one up to a wrong token too
pub bad_up_to : (text : List ℕ) (from bad place : ℕ) (error : TextError) → IsGap text from place → BeginsWrong (drop place text) error → IsFirstBad text bad → bad < place + 1 → StopFrom text from bad BadByte
bad_up_to text from bad place error gap wrong first before = at_bad_byte first (λ other error' h. let same = (one_wrong (here gap wrong) h).0 in omega (arith, same, before))

-- what stops a text from a place on stops it
pub stops_now : (text : List ℕ) (from at : ℕ) (error : TextError) (ts : List Token) → TokensUpTo text from ts → StopFrom text from at error → TextStop text at error
stops_now text from at error ts up_to (at_bad_byte first before) = bad_byte first (λ wrong other h. before wrong other (up_to.stays_wrong wrong other h))
stops_now text from at error ts up_to (at_wrong_token wrong none) = wrong_token (up_to.goes_wrong at error wrong) none

-- a text stops within it
pub stop_within : {text : List ℕ} {at : ℕ} {error : TextError} → TextStop text at error → at < length text
stop_within {text} {at} (bad_byte first before) = bad_within text at first.is_bad
stop_within (wrong_token wrong none) = wrong_within wrong
