-- How many bytes the token has that stands at the front of what is left of a text.
use Rattle.std.proofs.Common.{◌≡◌, ℕ, zero, suc, ◌+◌, ◌-◌, ◌<◌, ◌≤◌, Bool, true, false, cond, eqb, List, [], ◌∷◌, length, get_or, take, drop, Some, None, Option, Ok, Err, sym, refl, ap, ◌∙◌, subst, ⊎_elim, arith}
use Rattle.std.specs.Prelude.{not, ◌&&◌, ◌||◌, nat_lt, nat_eq, max}
use Rattle.std.specs.List.{starts_with, fold}
use Rattle.std.specs.Option.{option_map_or}
use Rattle.std.proofs.lemmas.Bool.{false≢true, and_parts, or_right, eqb-true, cond-false, false_from_ne_true, cases_lt}
use Rattle.std.proofs.lemmas.List.{get_or_past}
use Rattle.std.proofs.lemmas.List.Sums.{prefix_len-le-length}
use Rattle.std.specs.Char.{is_ascii_digit}
use Rattle.zw_token.specs.declared.token.TokenKind.TheVariants.{Name, LineText, Keyword, End}
use Rattle.zw_token.specs.Bytes.{is_name_start, is_name_byte, starts_word, starts_number, starts_fraction, line_len, is_line_feed}
use Rattle.zw_token.specs.Front.{Front, word_len, is_refused_word, word_front, number_front, text_front, quoted_front, builtin_front, at_front, character_of_item, line_text_len, sign_of_place, sign_front, line_or_sign_front, mark_front, front}
use Rattle.zw_token.specs.Literals.{item_len, items_len}
use Rattle.zw_token.specs.Numbers.{is_number, has_exponent}
use Rattle.zw_token.specs.Tables.{keywords, signs, builtins, is_in, place_in, longest_len}

-- what holds of both sides of a choice holds of the choice
pub choose : {A : Type 0} (b : Bool) (x y : A) (P : A → Type 0) → (b ≡ true → P x) → (b ≡ false → P y) → P (cond b x y)
choose true x y P p q = p refl
choose false x y P p q = q refl

-- where a byte stands that isn't 0, the list has a place
pub index_within : (bytes : List ℕ) (i c : ℕ) → 0 < c → eqb (get_or bytes i 0) c ≡ true → i < length bytes
index_within bytes i c some h =
    ⊎_elim (λ below. below) (λ past. let none = get_or_past bytes i 0 past in let same = eqb-true (get_or bytes i 0) c h in absurd (omega arith)) (cases_lt i (length bytes))

-- the token has a byte, and lies within this many
abbrev pub Fits : ℕ → Front → Type 0
Fits len (Ok token) = (0 < token.1) × (token.1 ≤ len)
Fits len (Err error) = Unit {0}

-- what begins a name may stand in it
pub name_byte-from_start : (b : ℕ) → is_name_start b ≡ true → is_name_byte b ≡ true
unfolding is_name_byte
name_byte-from_start b start = ap (λ t. t || is_ascii_digit b) start

pub name_byte-from_digit : (b : ℕ) → is_ascii_digit b ≡ true → is_name_byte b ≡ true
unfolding is_name_byte
name_byte-from_digit b digit = or_right _ _ digit

-- a run of name bytes that begins has a byte
run_some : (b : ℕ) (rest : List ℕ) → is_name_byte b ≡ true → 0 < word_len (b ∷ rest)
run_some b rest name = choose (is_name_byte b) (1 + word_len rest) 0 (λ n. 0 < n) (λ _. omega arith) (λ no. absurd (false≢true (sym no ∙ name)))

pub word_some : (rest : List ℕ) → starts_word rest ≡ true → 0 < word_len rest
word_some [] start = absurd (false≢true start)
word_some (b ∷ rest) start = run_some b rest (name_byte-from_start b start)

pub number_some : (rest : List ℕ) → starts_number rest ≡ true → 0 < word_len rest
number_some [] start = absurd (false≢true start)
number_some (b ∷ rest) start = run_some b rest (name_byte-from_digit b start)

word_le : (rest : List ℕ) → word_len rest ≤ length rest
word_le rest = prefix_len-le-length is_name_byte rest

word_fits : (rest : List ℕ) → starts_word rest ≡ true → Fits (length rest) (word_front rest)
word_fits rest start = choose (is_refused_word (take (word_len rest) rest)) _ _ (Fits (length rest)) (λ _. tt) (λ _. (word_some rest start, word_le rest))

number_fits : (rest : List ℕ) → starts_number rest ≡ true → Fits (length rest) (number_front rest)
number_fits rest start =
    choose (has_exponent (take (word_len rest) rest) || starts_fraction (drop (word_len rest) rest)) _ _ (Fits (length rest)) (λ _. tt)
    (λ _. choose (is_number (take (word_len rest) rest)) _ _ (Fits (length rest)) (λ _. (number_some rest start, word_le rest)) (λ _. tt))

text_fits : (b : ℕ) (rest : List ℕ) → Fits (length (b ∷ rest)) (text_front rest)
text_fits b rest =
    choose (eqb (get_or rest (items_len 34 rest) 0) 34) _ _ (Fits (length (b ∷ rest)))
    (λ closed. let within = index_within rest (items_len 34 rest) 34 (omega arith) closed in (omega arith, omega arith)) (λ _. tt)

quoted_fits : (a b : ℕ) (rest : List ℕ) → Fits (length (a ∷ b ∷ rest)) (quoted_front rest)
quoted_fits a b rest =
    choose (nat_lt 0 (items_len 34 rest) && eqb (get_or rest (items_len 34 rest) 0) 34) _ _ (Fits (length (a ∷ b ∷ rest)))
    (λ closed. let within = index_within rest (items_len 34 rest) 34 (omega arith) (and_parts _ _ closed).1 in (omega arith, omega arith)) (λ _. tt)

builtin_fits : (a : ℕ) (rest : List ℕ) → Fits (length (a ∷ rest)) (builtin_front rest)
builtin_fits a rest =
    choose (is_in builtins (take (word_len rest) rest)) _ _ (Fits (length (a ∷ rest)))
    (λ _. let le = word_le rest in (omega arith, omega arith)) (λ _. tt)

at_fits : (a : ℕ) (rest : List ℕ) → Fits (length (a ∷ rest)) (at_front rest)
at_fits a [] = tt
at_fits a (b ∷ rest) =
    choose (eqb b 34) _ _ (Fits (length (a ∷ b ∷ rest))) (λ _. quoted_fits a b rest)
    (λ _. choose (is_name_start b) _ _ (Fits (length (a ∷ b ∷ rest))) (λ _. builtin_fits a (b ∷ rest)) (λ _. tt))

character_fits : (b : ℕ) (rest : List ℕ) (len : Option ℕ) → Fits (length (b ∷ rest)) (character_of_item len rest)
character_fits b rest None = tt
character_fits b rest (Some n) =
    choose (eqb (get_or rest n 0) 39) _ _ (Fits (length (b ∷ rest)))
    (λ closed. let within = index_within rest n 39 (omega arith) closed in (omega arith, omega arith)) (λ _. tt)

-- a line that begins with two bytes that are no line feeds
line_fits : (rest : List ℕ) → starts_with nat_eq rest (92 ∷ 92 ∷ []) ≡ true → Fits (length rest) (Ok (LineText, line_text_len rest))
line_fits rest start =
    let two = line_two rest start in
    let within = prefix_len-le-length (λ b. not (is_line_feed b)) rest in
    choose (nat_lt (line_len rest) (length rest) && eqb (get_or rest (line_len rest - 1) 0) 13) _ _ (λ n. (0 < n) × (n ≤ length rest))
    (λ _. (omega arith, omega arith)) (λ _. (omega arith, omega arith))
  where
    line_two : (rest : List ℕ) → starts_with nat_eq rest (92 ∷ 92 ∷ []) ≡ true → 2 ≤ line_len rest
    line_two [] h = absurd (false≢true h)
    line_two (a ∷ []) h = absurd (false≢true (sym (and_false (eqb 92 a)) ∙ h))
      where
        and_false : (b : Bool) → (b && false) ≡ false
        and_false true = refl
        and_false false = refl
    line_two (a ∷ b ∷ rest) h =
        let parts = and_parts _ _ h in
        let more = and_parts _ _ parts.1 in
        subst (λ x. 2 ≤ line_len (x ∷ b ∷ rest)) (eqb-true 92 a parts.0)
        (subst (λ x. 2 ≤ line_len (92 ∷ x ∷ rest)) (eqb-true 92 b more.0) (omega arith))

-- the longest text of a table that stands here lies within what is left
longest_within : (table : List (List ℕ)) (rest : List ℕ) (n : ℕ) → n ≤ length rest → fold (λ longest text. cond (starts_with nat_eq rest text) (max longest (length text)) longest) n table ≤ length rest
longest_within [] rest n h = h
longest_within (text ∷ table) rest n h =
    longest_within table rest _
    (choose (starts_with nat_eq rest text) _ _ (λ m. m ≤ length rest) (λ starts. let within = starts_le rest text starts in omega arith) (λ _. h))
  where
    starts_le : (rest text : List ℕ) → starts_with nat_eq rest text ≡ true → length text ≤ length rest
    starts_le rest [] h = omega arith
    starts_le [] (c ∷ text) h = absurd (false≢true h)
    starts_le (b ∷ rest) (c ∷ text) h = let more = starts_le rest text (and_parts _ _ h).1 in omega arith

empty_no_sign : place_in signs [] ≡ None
empty_no_sign = refl

pub sign_fits : (rest : List ℕ) → Fits (length rest) (sign_front rest)
sign_fits rest =
    fits_at (place_in signs (take (longest_len signs rest) rest)) (longest_len signs rest) refl (longest_within signs rest 0 (omega arith))
  where
    fits_at : (place : Option ℕ) (n : ℕ) → place ≡ place_in signs (take n rest) → n ≤ length rest → Fits (length rest) (sign_of_place place n)
    fits_at None n e h = tt
    fits_at (Some k) zero e h = absurd (some_none k (e ∙ empty_no_sign))
      where
        some_none : (k : ℕ) → Some k ≡ None → ⊥
        some_none k e = cc
    fits_at (Some k) (suc n) e h = (omega arith, h)

mark_fits : (rest : List ℕ) → Fits (length rest) (mark_front rest)
mark_fits [] = tt
mark_fits (b ∷ rest) =
    choose (eqb b 34) _ _ (Fits (length (b ∷ rest))) (λ _. text_fits b rest)
    (λ _. choose (eqb b 39) _ _ (Fits (length (b ∷ rest))) (λ _. character_fits b rest (item_len 39 rest))
    (λ _. choose (eqb b 64) _ _ (Fits (length (b ∷ rest))) (λ _. at_fits b rest)
    (λ _. choose (starts_with nat_eq (b ∷ rest) (92 ∷ 92 ∷ [])) _ _ (Fits (length (b ∷ rest))) (line_fits (b ∷ rest)) (λ _. sign_fits (b ∷ rest)))))

other_false : (b c : ℕ) → (b ≡ c → ⊥) → eqb b c ≡ false
other_false b c other = false_from_ne_true (eqb b c) (λ same. other (eqb-true b c same))

-- what begins with none of the marks is a line text or a sign
pub mark_other : (b : ℕ) (rest : List ℕ) → (b ≡ 34 → ⊥) → (b ≡ 39 → ⊥) → (b ≡ 64 → ⊥) → mark_front (b ∷ rest) ≡ line_or_sign_front (b ∷ rest)
mark_other b rest text character at = cond-false _ _ _ (other_false b 34 text) ∙ cond-false _ _ _ (other_false b 39 character) ∙ cond-false _ _ _ (other_false b 64 at)

pub front_fits : (rest : List ℕ) → Fits (length rest) (front rest)
unfolding front
front_fits rest =
    choose (starts_word rest) _ _ (Fits (length rest)) (word_fits rest)
    (λ _. choose (starts_number rest) _ _ (Fits (length rest)) (number_fits rest) (λ _. mark_fits rest))

-- no token at the front is called the end of the text
abbrev pub NotEnd : Front → Type 0
NotEnd (Ok token) = token.0 ≡ End → ⊥
NotEnd (Err error) = Unit {0}

word_kind_not_end : (place : Option ℕ) → option_map_or Keyword place Name ≡ End → ⊥
word_kind_not_end None e = cc
word_kind_not_end (Some k) e = cc

word_not_end : (rest : List ℕ) → NotEnd (word_front rest)
word_not_end rest = choose (is_refused_word (take (word_len rest) rest)) _ _ NotEnd (λ _. tt) (λ _. word_kind_not_end (place_in keywords (take (word_len rest) rest)))

number_not_end : (rest : List ℕ) → NotEnd (number_front rest)
number_not_end rest =
    choose (has_exponent (take (word_len rest) rest) || starts_fraction (drop (word_len rest) rest)) _ _ NotEnd (λ _. tt)
    (λ _. choose (is_number (take (word_len rest) rest)) _ _ NotEnd (λ _ e. cc) (λ _. tt))

text_not_end : (rest : List ℕ) → NotEnd (text_front rest)
text_not_end rest = choose (eqb (get_or rest (items_len 34 rest) 0) 34) _ _ NotEnd (λ _ e. cc) (λ _. tt)

character_not_end : (len : Option ℕ) (rest : List ℕ) → NotEnd (character_of_item len rest)
character_not_end None rest = tt
character_not_end (Some n) rest = choose (eqb (get_or rest n 0) 39) _ _ NotEnd (λ _ e. cc) (λ _. tt)

at_not_end : (rest : List ℕ) → NotEnd (at_front rest)
at_not_end [] = tt
at_not_end (b ∷ rest) =
    choose (eqb b 34) _ _ NotEnd
    (λ _. choose (nat_lt 0 (items_len 34 rest) && eqb (get_or rest (items_len 34 rest) 0) 34) _ _ NotEnd (λ _ e. cc) (λ _. tt))
    (λ _. choose (is_name_start b) _ _ NotEnd (λ _. choose (is_in builtins (take (word_len (b ∷ rest)) (b ∷ rest))) _ _ NotEnd (λ _ e. cc) (λ _. tt)) (λ _. tt))

sign_not_end : (place : Option ℕ) (n : ℕ) → NotEnd (sign_of_place place n)
sign_not_end None n = tt
sign_not_end (Some k) n = λ e. cc

mark_not_end : (rest : List ℕ) → NotEnd (mark_front rest)
mark_not_end [] = tt
mark_not_end (b ∷ rest) =
    choose (eqb b 34) _ _ NotEnd (λ _. text_not_end rest)
    (λ _. choose (eqb b 39) _ _ NotEnd (λ _. character_not_end (item_len 39 rest) rest)
    (λ _. choose (eqb b 64) _ _ NotEnd (λ _. at_not_end rest)
    (λ _. choose (starts_with nat_eq (b ∷ rest) (92 ∷ 92 ∷ [])) _ _ NotEnd (λ _ e. cc) (λ _. sign_not_end (place_in signs (take (longest_len signs (b ∷ rest)) (b ∷ rest))) (longest_len signs (b ∷ rest))))))

pub front_not_end : (rest : List ℕ) → NotEnd (front rest)
unfolding front
front_not_end rest =
    choose (starts_word rest) _ _ NotEnd (λ _. word_not_end rest)
    (λ _. choose (starts_number rest) _ _ NotEnd (λ _. number_not_end rest) (λ _. mark_not_end rest))
