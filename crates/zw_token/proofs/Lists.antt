-- The tokens of a text, one after the other.
use Rattle.std.proofs.Common.{◌≡◌, ℕ, zero, suc, ◌+◌, ◌<◌, ◌≤◌, true, false, List, [], ◌∷◌, ◌++◌, length, get_or, drop, Ok, Err, sym, refl, ap, ◌∙◌, subst, inl, inr, ⊎_elim, arith, append_assoc, length-drop}
use Rattle.std.proofs.lemmas.Bool.{false≢true}
use Rattle.zw_token.specs.declared.token.TextError.{TextError}
use Rattle.zw_token.specs.declared.token.Token.{Token}
use Rattle.zw_token.specs.declared.token.TokenKind.{TokenKind}
use Rattle.zw_token.specs.declared.token.TokenKind.TheVariants.{End}
use Rattle.zw_token.specs.Bytes.{starts_blank, blank_len}
use Rattle.zw_token.specs.Front.{Front, front}
use Rattle.zw_token.specs.Tokens.{BeginsWrong, StandsIn, IsEnd, IsGap, empty, blank, IsNext, TokensFrom, last, more, WrongFrom, here, behind, LiesIn, DoNotOverlap, start_of}
use Rattle.zw_token.proofs.Fronts.{Fits, front_fits, NotEnd, front_not_end}

-- no blank begins at the place
abbrev pub Stops : List ℕ → ℕ → Type 0
Stops text at = starts_blank (drop at text) ≡ false

-- a gap doesn't go back
pub gap_ordered : {text : List ℕ} {from to : ℕ} → IsGap text from to → from ≤ to
gap_ordered (empty same) = omega arith
gap_ordered (blank first rest) = let more = gap_ordered rest in omega arith

-- two gaps from one place end at the same, where no blank begins
pub one_gap : {text : List ℕ} {from s t : ℕ} → IsGap text from s → IsGap text from t → Stops text s → Stops text t → s ≡ t
one_gap (empty same_s) (empty same_t) stops_s stops_t = sym same_s ∙ same_t
one_gap {text} (empty same_s) (blank first rest) stops_s stops_t = absurd (false≢true (sym stops_s ∙ ap (λ i. starts_blank (drop i text)) (sym same_s) ∙ first))
one_gap {text} (blank first rest) (empty same_t) stops_s stops_t = absurd (false≢true (sym stops_t ∙ ap (λ i. starts_blank (drop i text)) (sym same_t) ∙ first))
one_gap (blank first rest) (blank first' rest') stops_s stops_t = one_gap rest rest' stops_s stops_t

-- a token has a byte, and ends in its text
pub stands_size : (text : List ℕ) (t : Token) → StandsIn text t → (t.start < t.end) × (t.end ≤ length text)
stands_size text t stands =
    let fits = subst (Fits (length (drop t.start text))) stands.2.is_front (front_fits (drop t.start text)) in
    (omega (arith, stands.1, fits.0), omega (arith, stands.1, fits.0, fits.1, length-drop t.start text))

pub past_empty : (text : List ℕ) (at : ℕ) → length text ≤ at → drop at text ≡ []
past_empty [] zero h = refl
past_empty [] (suc at) h = refl
past_empty (b ∷ text) zero h = absurd (omega arith)
past_empty (b ∷ text) (suc at) h = past_empty text at (omega arith)

pub past_stops : (text : List ℕ) (at : ℕ) → length text ≤ at → Stops text at
past_stops text at past = ap starts_blank (past_empty text at past)

end_stops : (text : List ℕ) (t : Token) → IsEnd text t → Stops text t.start
end_stops text t end = past_stops text t.start (omega (arith, end.start))

-- the end of a text isn't where a token stands
end_apart : (text : List ℕ) (from : ℕ) (t u : Token) → IsGap text from t.start → IsEnd text t → IsGap text from u.start → StandsIn text u → ⊥
end_apart text from t u gap_t end gap_u stands =
    let start = one_gap gap_t gap_u (end_stops text t end) stands.2.no_blank in
    let size = stands_size text u stands in
    omega (arith, start, end.start, size.0, size.1)

same_token : (t u : Token) → t.kind ≡ u.kind → t.start ≡ u.start → t.end ≡ u.end → t ≡ u
same_token t u kind start end = λ i. record { kind = kind i; start = start i; end = end i }

one_end : (text : List ℕ) (t u : Token) → IsEnd text t → IsEnd text u → t ≡ u
one_end text t u a b = same_token t u (a.kind ∙ sym b.kind) (a.start ∙ sym b.start) (a.end ∙ sym b.end)

token_of : Front → TokenKind × ℕ → TokenKind × ℕ
token_of (Ok token) other = token
token_of (Err error) other = other

one_front : (a b : TokenKind) (m n : ℕ) (f : Front) → f ≡ Ok (a, m) → f ≡ Ok (b, n) → (a ≡ b) × (m ≡ n)
unfolding token_of
one_front a b m n f left right =
    let same = ap (λ g. token_of g (a, m)) (sym left ∙ right) in
    (ap (λ token. token.0) same, ap (λ token. token.1) same)

-- one token stands behind a gap
one_stand : (text : List ℕ) (from : ℕ) (t u : Token) → IsGap text from t.start → StandsIn text t → IsGap text from u.start → StandsIn text u → t ≡ u
one_stand text from t u gap_t left gap_u right =
    let start = one_gap gap_t gap_u left.2.no_blank right.2.no_blank in
    let same = one_front t.kind u.kind left.0 right.0 (front (drop u.start text)) (ap (λ s. front (drop s text)) (sym start) ∙ left.2.is_front) right.2.is_front in
    same_token t u same.0 start (omega (arith, left.1, right.1, start, same.1))

-- a text has one token list from a place on
pub one_from : {text : List ℕ} {from : ℕ} {a b : List Token} → TokensFrom text from a → TokensFrom text from b → a ≡ b
one_from {text} {from} (last {t = t} gap end) (last {t = u} gap' end') = ap (λ x. x ∷ []) (one_end text t u end end')
one_from {text} {from} (last {t = t} gap end) (more {t = u} gap' stands' rest') = absurd (end_apart text from t u gap end gap' stands')
one_from {text} {from} (more {t = t} gap stands rest) (last {t = u} gap' end') = absurd (end_apart text from u t gap' end' gap stands)
one_from {text} {from} (more {t = t} {ts = ts} gap stands rest) (more {t = u} {ts = us} gap' stands' rest') =
    let e = one_stand text from t u gap stands gap' stands' in
    let es = one_from rest (subst (λ x. TokensFrom text x.end us) (sym e) rest') in
    λ i. e i ∷ es i

-- a gap up to a place goes on by a blank that begins there
pub gap_more : (text : List ℕ) (at n : ℕ) → starts_blank (drop at text) ≡ true → n ≡ blank_len (drop at text) → (to : ℕ) → IsGap text (at + n) to → IsGap text at to
gap_more text at n starts size to rest = blank starts (subst (λ k. IsGap text (at + k) to) size rest)

error_of : Front → TextError → TextError
error_of (Ok token) other = other
error_of (Err error) other = error

one_error : (a b : TextError) (f : Front) → f ≡ Err a → f ≡ Err b → a ≡ b
unfolding error_of
one_error a b f left right = ap (λ g. error_of g a) (sym left ∙ right)

ok_not_err : (token : TokenKind × ℕ) (error : TextError) (f : Front) → f ≡ Ok token → f ≡ Err error → ⊥
ok_not_err token error f left right = let same = sym left ∙ right in cc

-- where a token stands, nothing is wrong
stands_right : (text : List ℕ) (from at : ℕ) (t : Token) (error : TextError) → IsGap text from t.start → StandsIn text t → IsGap text from at → BeginsWrong (drop at text) error → ⊥
stands_right text from at t error gap stands gap' wrong =
    let start = one_gap gap gap' stands.2.no_blank wrong.no_blank in
    ok_not_err (t.kind, stands.0) error (front (drop at text)) (ap (λ s. front (drop s text)) (sym start) ∙ stands.2.is_front) wrong.is_front

-- a text has no token list from a place on and a wrong token too
pub never_from : {text : List ℕ} {from at : ℕ} {ts : List Token} {error : TextError} → TokensFrom text from ts → WrongFrom text from at error → ⊥
never_from {text} {from} {at} (last {t = t} gap end) (here gap' wrong) =
    let start = one_gap gap gap' (end_stops text t end) wrong.no_blank in
    omega (arith, start, end.start, wrong.some_left, length-drop at text)
never_from {text} {from} (last {t = t} gap end) (behind {t = u} gap' stands' rest') = end_apart text from t u gap end gap' stands'
never_from {text} {from} {at} {ts} {error} (more {t = t} gap stands rest) (here gap' wrong) = stands_right text from at t error gap stands gap' wrong
never_from {text} {from} {at} {ts} {error} (more {t = t} gap stands rest) (behind {t = u} gap' stands' rest') =
    never_from rest (subst (λ x. WrongFrom text x.end at error) (sym (one_stand text from t u gap stands gap' stands')) rest')

-- and it has one first wrong token at most
pub one_wrong : {text : List ℕ} {from at place : ℕ} {a b : TextError} → WrongFrom text from at a → WrongFrom text from place b → (at ≡ place) × (a ≡ b)
one_wrong {text} {from} {at} {place} {a} {b} (here gap wrong) (here gap' wrong') =
    let same = one_gap gap gap' wrong.no_blank wrong'.no_blank in
    (same, one_error a b (front (drop place text)) (ap (λ s. front (drop s text)) (sym same) ∙ wrong.is_front) wrong'.is_front)
one_wrong {text} {from} {at} {place} {a} {b} (here gap wrong) (behind {t = u} gap' stands' rest') = absurd (stands_right text from at u a gap' stands' gap wrong)
one_wrong {text} {from} {at} {place} {a} {b} (behind {t = t} gap stands rest) (here gap' wrong') = absurd (stands_right text from place t b gap stands gap' wrong')
one_wrong {text} {from} {at} {place} {a} {b} (behind {t = t} gap stands rest) (behind {t = u} gap' stands' rest') =
    one_wrong rest (subst (λ x. WrongFrom text x.end place b) (sym (one_stand text from t u gap stands gap' stands')) rest')

-- what is wrong behind a token's front is wrong behind the token
pub past_stand : {text : List ℕ} {from at : ℕ} {error : TextError} (t : Token) → IsGap text from t.start → StandsIn text t → WrongFrom text from at error → WrongFrom text t.end at error
past_stand {text} {from} {at} {error} t gap stands (here gap' wrong) = absurd (stands_right text from at t error gap stands gap' wrong)
past_stand {text} {from} {at} {error} t gap stands (behind {t = u} gap' stands' rest) = subst (λ x. WrongFrom text x.end at error) (sym (one_stand text from t u gap stands gap' stands')) rest

end_lies : (text : List ℕ) (t : Token) → IsEnd text t → LiesIn text t
end_lies text t end = (omega (arith, end.start, end.end), omega (arith, end.end))

-- each token of a list lies in the text
pub lies_at : {text : List ℕ} {from : ℕ} {ts : List Token} → TokensFrom text from ts → (k : ℕ) (d : Token) → k < length ts → LiesIn text (get_or ts k d)
lies_at {text} (last {t = t} gap end) zero d below = end_lies text t end
lies_at {text} (last {t = t} gap end) (suc k) d below = absurd (omega arith)
lies_at {text} (more {t = t} gap stands rest) zero d below = let size = stands_size text t stands in (omega (arith, size.0), size.1)
lies_at {text} (more {t = t} gap stands rest) (suc k) d below = lies_at rest k d (omega arith)

-- and none begins before the place where the list does
starts_behind : {text : List ℕ} {from : ℕ} {ts : List Token} → TokensFrom text from ts → (k : ℕ) (d : Token) → k < length ts → from ≤ (get_or ts k d).start
starts_behind (last gap end) zero d below = gap_ordered gap
starts_behind (last gap end) (suc k) d below = absurd (omega arith)
starts_behind (more gap stands rest) zero d below = gap_ordered gap
starts_behind {text} (more {t = t} gap stands rest) (suc k) d below =
    let ordered = gap_ordered gap in
    let size = stands_size text t stands in
    let later = starts_behind rest k d (omega arith) in
    omega (arith, ordered, size.0, later)

pub apart : {text : List ℕ} {from : ℕ} {ts : List Token} → TokensFrom text from ts → DoNotOverlap ts
apart (last gap end) i j d before below = absurd (omega arith)
apart (more gap stands rest) i zero d before below = absurd (omega arith)
apart (more gap stands rest) zero (suc j) d before below = starts_behind rest j d (omega arith)
apart (more gap stands rest) (suc i) (suc j) d before below = apart rest i j d (omega arith) (omega arith)

-- the end of the text, behind a gap
pub end_next : (text : List ℕ) (from start : ℕ) → IsGap text from start → start ≡ length text → IsNext text from (record { kind = End; start = start; end = start })
end_next text from start gap end = (gap, inl (record { kind = refl; start = end; end = end }))

-- the token that the text goes on with, behind a gap
pub token_next : (text : List ℕ) (from start : ℕ) (kind : TokenKind) (n : ℕ) → IsGap text from start → Stops text start → front (drop start text) ≡ Ok (kind, n) → IsNext text from (record { kind = kind; start = start; end = start + n })
token_next text from start kind n gap stops is_front = (gap, inr (n, refl, record { no_blank = stops; is_front = is_front }))

-- no token is called the end
no_end : (rest : List ℕ) (n : ℕ) → front rest ≡ Ok (End, n) → ⊥
no_end rest n e = (subst NotEnd e (front_not_end rest)) refl

-- the next token of a text is the end of it where its kind says so
pub next_end : (text : List ℕ) (from : ℕ) (t : Token) → IsNext text from t → t.kind ≡ End → IsEnd text t
next_end text from t next kind =
    ⊎_elim (λ end. end) (λ stands. absurd (no_end (drop t.start text) stands.0 (stands.2.is_front ∙ ap (λ k. Ok (k, stands.0)) kind))) next.1

-- and else it stands in the text
pub next_stands : (text : List ℕ) (from : ℕ) (t : Token) → IsNext text from t → (t.kind ≡ End → ⊥) → StandsIn text t
next_stands text from t next kind = ⊎_elim (λ end. absurd (kind end.kind)) (λ stands. stands) next.1

-- the next token of a text ends no earlier than where it is looked for, and in the text
pub next_bounds : (text : List ℕ) (from : ℕ) (t : Token) → IsNext text from t → (from ≤ t.end) × (t.end ≤ length text)
next_bounds text from t next =
    let ordered = gap_ordered next.0 in
    ⊎_elim (λ (end : IsEnd text t). let start = end.start in let last = end.end in (omega (arith, ordered, start, last), omega (arith, last)))
    (λ (stands : StandsIn text t). let size = stands_size text t stands in (omega (arith, ordered, size.0), size.1)) next.1

-- these are the tokens of a text up to a place: with those from there on they are all, and what is wrong first is what is wrong
-- first from there on
pub record TokensUpTo (text : List ℕ) (at : ℕ) (ts : List Token) : Type 0 where
  pub goes_on : (rest : List Token) → TokensFrom text at rest → TokensFrom text (start_of text) (ts ++ rest)
  pub goes_wrong : (place : ℕ) (error : TextError) → WrongFrom text at place error → WrongFrom text (start_of text) place error
  pub stays_wrong : (place : ℕ) (error : TextError) → WrongFrom text (start_of text) place error → WrongFrom text at place error

pub none_yet : (text : List ℕ) → TokensUpTo text (start_of text) []
none_yet text = record { goes_on = λ rest h. h; goes_wrong = λ place error h. h; stays_wrong = λ place error h. h }

pub one_more : (text : List ℕ) (at : ℕ) (ts : List Token) (t : Token) → TokensUpTo text at ts → IsGap text at t.start → StandsIn text t → TokensUpTo text t.end (ts ++ t ∷ [])
one_more text at ts t before gap stands = record {
  goes_on = λ rest h. subst (TokensFrom text (start_of text)) (sym (append_assoc ts (t ∷ []) rest)) (before.goes_on (t ∷ rest) (more gap stands h));
  goes_wrong = λ place error h. before.goes_wrong place error (behind gap stands h);
  stays_wrong = λ place error h. past_stand t gap stands (before.stays_wrong place error h);
}

pub all_now : (text : List ℕ) (at : ℕ) (ts : List Token) (t : Token) → TokensUpTo text at ts → IsGap text at t.start → IsEnd text t → TokensFrom text (start_of text) (ts ++ t ∷ [])
all_now text at ts t before gap end = before.goes_on (t ∷ []) (last gap end)

-- what is wrong stands in the text
pub wrong_within : {text : List ℕ} {from at : ℕ} {error : TextError} → WrongFrom text from at error → at < length text
wrong_within {text} {from} {at} (here gap wrong) = omega (arith, wrong.some_left, length-drop at text)
wrong_within (behind gap stands rest) = wrong_within rest

-- and no earlier than the place from which on it is the first
pub wrong_behind : {text : List ℕ} {from at : ℕ} {error : TextError} → WrongFrom text from at error → from ≤ at
wrong_behind (here gap wrong) = gap_ordered gap
wrong_behind {text} (behind {t = t} gap stands rest) =
    let ordered = gap_ordered gap in
    let size = stands_size text t stands in
    let later = wrong_behind rest in
    omega (arith, ordered, size.0, later)
