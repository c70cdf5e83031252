-- The bytes of a token, taken alone, are a token of its kind.
use Rattle.std.proofs.Common.{◌≡◌, ℕ, zero, suc, ◌+◌, ◌-◌, ◌<◌, ◌≤◌, Bool, true, false, cond, eqb, List, [], ◌∷◌, length, get_or, take, drop, Option, Some, None, Ok, Err, All, sym, refl, ap, ◌∙◌, subst, ⊎_elim, arith}
use Rattle.std.specs.Prelude.{not, ◌&&◌, ◌||◌, nat_lt, nat_eq}
use Rattle.std.specs.Char.{is_ascii_digit}
use Rattle.std.specs.List.{starts_with}
use Rattle.std.proofs.lemmas.Bool.{false≢true, and_parts, cond-true, cond-false, eqb-true, cases_lt}
use Rattle.std.proofs.lemmas.List.{get_or-take, length-take-le, take_all}
use Rattle.std.proofs.lemmas.List.Sums.{prefix_len-le-length}
use Rattle.zw_token.specs.declared.token.TextError.TheVariants.{BadLiteral, NotInProfile}
use Rattle.zw_token.specs.declared.token.Token.{Token}
use Rattle.zw_token.specs.declared.token.TokenKind.TheVariants.{Quoted, Builtin, Number, Character, Text, LineText, Sign, End}
use Rattle.zw_token.specs.Bytes.{is_name_start, is_name_byte, starts_word, starts_number, starts_fraction, line_len, is_line_feed}
use Rattle.zw_token.specs.Front.{Front, word_len, word_kind, is_refused_word, word_front, number_front, text_front, quoted_front, builtin_front, at_front, character_of_item, character_front, line_text_len, sign_of_place, sign_front, mark_front, front}
use Rattle.zw_token.specs.Literals.{item_len, items_len}
use Rattle.zw_token.specs.Numbers.{is_number, has_exponent}
use Rattle.zw_token.specs.Tables.{signs, builtins, is_in, place_in, longest_len}
use Rattle.zw_token.specs.Tokens.{Tokens, TokensFrom, last, more, IsOfKind, StandsIn, bytes_of, IsTokenAlone}
use Rattle.zw_token.proofs.Cuts.{run_cut, run_whole, item_cut, items_cut}
use Rattle.zw_token.proofs.Fronts.{choose, index_within, Fits, front_fits, sign_fits, word_some, number_some}
use Rattle.zw_token.proofs.Lists.{past_empty}
use Rattle.zw_token.proofs.PlainTexts.{item_within}
use Rattle.zw_token.proofs.Signs.{sign_found, place_in-slice_get}

-- what stands at the front of these bytes stands there where they are cut behind it
abbrev pub Alone : List ℕ → Front → Type 0
Alone rest (Ok token) = front (take token.1 rest) ≡ Ok token
Alone rest (Err error) = Unit {0}

first_word : (rest : List ℕ) → starts_word rest ≡ true → front rest ≡ word_front rest
unfolding front
first_word rest word = cond-true (starts_word rest) _ _ word

first_number : (rest : List ℕ) → starts_word rest ≡ false → starts_number rest ≡ true → front rest ≡ number_front rest
unfolding front
first_number rest word number = cond-false (starts_word rest) _ _ word ∙ cond-true (starts_number rest) _ _ number

first_mark : (rest : List ℕ) → starts_word rest ≡ false → starts_number rest ≡ false → front rest ≡ mark_front rest
unfolding front
first_mark rest word number = cond-false (starts_word rest) _ _ word ∙ cond-false (starts_number rest) _ _ number

word_kept : (n : ℕ) (rest : List ℕ) → 0 < n → starts_word (take n rest) ≡ starts_word rest
word_kept zero rest some = absurd (omega arith)
word_kept (suc n) [] some = refl
word_kept (suc n) (b ∷ rest) some = refl

number_kept : (n : ℕ) (rest : List ℕ) → 0 < n → starts_number (take n rest) ≡ starts_number rest
number_kept zero rest some = absurd (omega arith)
number_kept (suc n) [] some = refl
number_kept (suc n) (b ∷ rest) some = refl

-- a word alone is as long, and is that word
same_len : (rest : List ℕ) → word_len (take (word_len rest) rest) ≡ word_len rest
same_len rest = run_cut is_name_byte (word_len rest) rest (omega arith)

same_word : (rest : List ℕ) → take (word_len (take (word_len rest) rest)) (take (word_len rest) rest) ≡ take (word_len rest) rest
same_word rest =
    let size = length-take-le (word_len rest) rest (prefix_len-le-length is_name_byte rest) in
    take_all (word_len (take (word_len rest) rest)) (take (word_len rest) rest) (omega (arith, size, same_len rest))

abbrev of_word : List ℕ → ℕ → Front
of_word word n = cond (is_refused_word word) (Err NotInProfile) (Ok (word_kind word, n))

word_alone : (rest : List ℕ) → starts_word rest ≡ true → Alone rest (word_front rest)
word_alone rest start =
    let word = take (word_len rest) rest in
    choose (is_refused_word word) _ _ (Alone rest) (λ _. tt)
    (λ fine. first_word word (word_kept (word_len rest) rest (word_some rest start) ∙ start)
    ∙ ap (λ w. of_word w (word_len word)) (same_word rest) ∙ ap (of_word word) (same_len rest) ∙ cond-false (is_refused_word word) _ _ fine)

abbrev of_number : List ℕ → List ℕ → ℕ → Front
of_number numeral behind n = cond (has_exponent numeral || starts_fraction behind) (Err NotInProfile) (cond (is_number numeral) (Ok (Number, n)) (Err BadLiteral))

nothing_behind : (a b : Bool) → (a || b) ≡ false → (a || false) ≡ false
nothing_behind true b h = h
nothing_behind false b h = refl

number_alone : (rest : List ℕ) → starts_word rest ≡ false → starts_number rest ≡ true → Alone rest (number_front rest)
number_alone rest word start =
    let n = word_len rest in
    let numeral = take n rest in
    let some = number_some rest start in
    let size = length-take-le n rest (prefix_len-le-length is_name_byte rest) in
    choose (has_exponent numeral || starts_fraction (drop n rest)) _ _ (Alone rest) (λ _. tt)
    (λ whole. choose (is_number numeral) _ _ (Alone rest)
    (λ right. first_number numeral (word_kept n rest some ∙ word) (number_kept n rest some ∙ start)
    ∙ ap (λ w. of_number w (drop (word_len numeral) numeral) (word_len numeral)) (same_word rest)
    ∙ ap (λ b. of_number numeral b (word_len numeral)) (past_empty numeral (word_len numeral) (omega (arith, size, same_len rest)))
    ∙ ap (of_number numeral []) (same_len rest)
    ∙ cond-false (has_exponent numeral || false) _ _ (nothing_behind _ _ whole)
    ∙ cond-true (is_number numeral) _ _ right)
    (λ _. tt))

-- the items of a literal, cut behind its last quote
abbrev items_of : List ℕ → List ℕ
items_of rest = take (items_len 34 rest + 1) rest

quote_ends : item_len 34 (34 ∷ []) ≡ None
unfolding item_len
quote_ends = refl

same_items : (rest : List ℕ) → eqb (get_or rest (items_len 34 rest) 0) 34 ≡ true → items_len 34 (items_of rest) ≡ items_len 34 rest
same_items rest closed =
    items_cut (length rest) 34 rest (item_len 34 rest) (omega arith) refl (item_within 34 rest) quote_ends
    (index_within rest (items_len 34 rest) 34 (omega arith) closed) (eqb-true _ 34 closed)

same_close : (rest : List ℕ) → eqb (get_or rest (items_len 34 rest) 0) 34 ≡ true → eqb (get_or (items_of rest) (items_len 34 (items_of rest)) 0) 34 ≡ true
same_close rest closed =
    let n = items_len 34 rest in
    ap (λ k. eqb (get_or (items_of rest) k 0) 34) (same_items rest closed) ∙ ap (λ b. eqb b 34) (get_or-take (n + 1) rest n 0 (omega arith)) ∙ closed

first_text : (rest : List ℕ) → front (34 ∷ rest) ≡ text_front rest
unfolding front is_name_start
first_text rest = refl

text_alone : (rest : List ℕ) → Alone (34 ∷ rest) (text_front rest)
text_alone rest =
    let n = items_len 34 rest in
    let cut = items_of rest in
    choose (eqb (get_or rest n 0) 34) _ _ (Alone (34 ∷ rest))
    (λ closed.
    let size : n + 2 ≡ suc (n + 1) = omega arith in
    ap (λ k. front (take k (34 ∷ rest))) size ∙ first_text cut
    ∙ cond-true (eqb (get_or cut (items_len 34 cut) 0) 34) _ _ (same_close rest closed)
    ∙ ap (λ k. Ok (Text, k + 2)) (same_items rest closed))
    (λ _. tt)

first_quoted : (rest : List ℕ) → front (64 ∷ 34 ∷ rest) ≡ quoted_front rest
unfolding front is_name_start
first_quoted rest = refl

quoted_alone : (rest : List ℕ) → Alone (64 ∷ 34 ∷ rest) (quoted_front rest)
quoted_alone rest =
    let n = items_len 34 rest in
    let cut = items_of rest in
    choose (nat_lt 0 n && eqb (get_or rest n 0) 34) _ _ (Alone (64 ∷ 34 ∷ rest))
    (λ right.
    let closed = (and_parts _ _ right).1 in
    let size : n + 3 ≡ suc (suc (n + 1)) = omega arith in
    ap (λ k. front (take k (64 ∷ 34 ∷ rest))) size ∙ first_quoted cut
    ∙ cond-true (nat_lt 0 (items_len 34 cut) && eqb (get_or cut (items_len 34 cut) 0) 34) _ _
    (ap (λ b. nat_lt 0 (items_len 34 cut) && b) (same_close rest closed) ∙ ap (λ k. nat_lt 0 k && true) (same_items rest closed) ∙ and-true-of (nat_lt 0 n) (and_parts _ _ right).0)
    ∙ ap (λ k. Ok (Quoted, k + 3)) (same_items rest closed))
    (λ _. tt)
  where
    and-true-of : (b : Bool) → b ≡ true → (b && true) ≡ true
    and-true-of true h = refl
    and-true-of false h = h

first_at : (rest : List ℕ) → front (64 ∷ rest) ≡ at_front rest
unfolding front is_name_start
first_at rest = refl

at_name : (b : ℕ) (rest : List ℕ) (n : ℕ) → eqb b 34 ≡ false → is_name_start b ≡ true → 0 < n → at_front (take n (b ∷ rest)) ≡ builtin_front (take n (b ∷ rest))
at_name b rest zero quote name some = absurd (omega arith)
at_name b rest (suc n) quote name some = cond-false (eqb b 34) _ _ quote ∙ cond-true (is_name_start b) _ _ name

abbrev of_builtin : List ℕ → ℕ → Front
of_builtin word n = cond (is_in builtins word) (Ok (Builtin, n + 1)) (Err NotInProfile)

builtin_alone : (b : ℕ) (rest : List ℕ) → eqb b 34 ≡ false → is_name_start b ≡ true → Alone (64 ∷ b ∷ rest) (builtin_front (b ∷ rest))
builtin_alone b rest quote name =
    let n = word_len (b ∷ rest) in
    let word = take n (b ∷ rest) in
    choose (is_in builtins word) _ _ (Alone (64 ∷ b ∷ rest))
    (λ listed.
    let size : n + 1 ≡ suc n = omega arith in
    ap (λ k. front (take k (64 ∷ b ∷ rest))) size ∙ first_at word ∙ at_name b rest n quote name (word_some (b ∷ rest) name)
    ∙ ap (λ w. of_builtin w (word_len word)) (same_word (b ∷ rest)) ∙ ap (of_builtin word) (same_len (b ∷ rest)) ∙ cond-true (is_in builtins word) _ _ listed)
    (λ _. tt)

at_alone : (rest : List ℕ) → Alone (64 ∷ rest) (at_front rest)
at_alone [] = tt
at_alone (b ∷ rest) =
    choose (eqb b 34) _ _ (Alone (64 ∷ b ∷ rest))
    (λ quote. subst (λ x. Alone (64 ∷ x ∷ rest) (quoted_front rest)) (sym (eqb-true b 34 quote)) (quoted_alone rest))
    (λ quote. choose (is_name_start b) _ _ (Alone (64 ∷ b ∷ rest)) (builtin_alone b rest quote) (λ _. tt))

first_character : (rest : List ℕ) → front (39 ∷ rest) ≡ character_of_item (item_len 39 rest) rest
unfolding front is_name_start
first_character rest = refl

character_alone : (rest : List ℕ) (len : Option ℕ) → item_len 39 rest ≡ len → Alone (39 ∷ rest) (character_of_item len rest)
character_alone rest None e = tt
character_alone rest (Some n) e =
    choose (eqb (get_or rest n 0) 39) _ _ (Alone (39 ∷ rest))
    (λ closed.
    let size : n + 2 ≡ suc (n + 1) = omega arith in
    let cut = take (n + 1) rest in
    ap (λ k. front (take k (39 ∷ rest))) size ∙ first_character cut
    ∙ ap (λ item. character_of_item item cut) (item_cut 39 rest n (n + 1) e (omega arith))
    ∙ cond-true (eqb (get_or cut n 0) 39) _ _ (ap (λ b. eqb b 39) (get_or-take (n + 1) rest n 0 (omega arith)) ∙ closed))
    (λ _. tt)

first_line : (rest : List ℕ) → front (92 ∷ 92 ∷ rest) ≡ Ok (LineText, line_text_len (92 ∷ 92 ∷ rest))
unfolding front is_name_start
first_line rest = refl

-- a line text has its two `\`, and ends no later than its line
line_size : (rest : List ℕ) → (2 ≤ line_text_len (92 ∷ 92 ∷ rest)) × (line_text_len (92 ∷ 92 ∷ rest) ≤ line_len (92 ∷ 92 ∷ rest))
line_size rest =
    let whole : List ℕ = 92 ∷ 92 ∷ rest in
    let n : ℕ = line_len whole in
    let two : n ≡ line_len rest + 2 = omega arith in
    choose (nat_lt n (length whole) && eqb (get_or whole (n - 1) 0) 13) (n - 1) n (λ m. (2 ≤ m) × (m ≤ n))
    (λ cut.
    let return : get_or whole (n - 1) 0 ≡ 13 = eqb-true _ 13 (and_parts _ _ cut).1 in (
      ⊎_elim (λ (some : 0 < line_len rest). omega (arith, some, two))
          (λ (none : line_len rest ≤ 0).
          let one : n - 1 ≡ 1 = omega (arith, none, two) in
          let other : get_or whole (n - 1) 0 ≡ 92 = ap (λ k. get_or whole k 0) one in
          absurd (omega (arith, return, other)))
          (cases_lt 0 (line_len rest)),
      omega arith,
    ))
    (λ _. (omega (arith, two), omega arith))

not_less : (n m : ℕ) → m ≤ n → nat_lt n m ≡ false
not_less n m h = grind arith

-- no byte of a line text ends its line
line_alone : (rest : List ℕ) → front (take (line_text_len (92 ∷ 92 ∷ rest)) (92 ∷ 92 ∷ rest)) ≡ Ok (LineText, line_text_len (92 ∷ 92 ∷ rest))
line_alone rest =
    let whole : List ℕ = 92 ∷ 92 ∷ rest in
    let n : ℕ = line_text_len whole in
    let size = line_size rest in
    let line : List ℕ = take n whole in
    let two : n ≡ suc (suc (n - 2)) = omega (arith, size.0) in
    let split : line ≡ 92 ∷ 92 ∷ take (n - 2) rest = ap (λ k. take k whole) two in
    let ends : line_len line ≡ n = run_whole (λ b. not (is_line_feed b)) n whole size.1 in
    let within : line_len whole ≤ length whole = prefix_len-le-length (λ b. not (is_line_feed b)) whole in
    let long : length line ≡ n = length-take-le n whole (omega (arith, size.1, within)) in
    let none : nat_lt (line_len line) (length line) ≡ false = not_less (line_len line) (length line) (omega (arith, ends, long)) in
    let again : line_text_len line ≡ n = ap (λ t. cond (t && eqb (get_or line (line_len line - 1) 0) 13) (line_len line - 1) (line_len line)) none ∙ ends in
    ap front split ∙ first_line (take (n - 2) rest) ∙ ap (λ l. Ok (LineText, line_text_len l)) (sym split) ∙ ap (λ k. Ok (LineText, k)) again

line_case : (rest : List ℕ) → starts_with nat_eq rest (92 ∷ 92 ∷ []) ≡ true → Alone rest (Ok (LineText, line_text_len rest))
line_case [] h = absurd (false≢true h)
line_case (a ∷ []) h = absurd (false≢true (and_parts _ _ h).1)
line_case (a ∷ b ∷ rest) h =
    let parts = and_parts _ _ h in
    let more = and_parts _ _ parts.1 in
    subst (λ x. Alone (x ∷ b ∷ rest) (Ok (LineText, line_text_len (x ∷ b ∷ rest)))) (eqb-true 92 a parts.0)
    (subst (λ x. Alone (92 ∷ x ∷ rest) (Ok (LineText, line_text_len (92 ∷ x ∷ rest)))) (eqb-true 92 b more.0) (line_alone rest))

sign_again : (rest : List ℕ) (k n : ℕ) → n ≤ length rest → place_in signs (take n rest) ≡ Some k → sign_front (take n rest) ≡ Ok (Sign k, n)
sign_again rest k n within e =
    let sign : List ℕ = take n rest in
    let size : length sign ≡ n = length-take-le n rest within in
    sign_found sign k n (omega (arith, size)) (place_in-slice_get signs sign k e ∙ ap Some (sym (take_all n sign (omega (arith, size)))))
    (λ m more inside is_in. absurd (omega (arith, size, more, inside)))

no_line : (b : ℕ) (rest : List ℕ) (n : ℕ) → starts_with nat_eq (b ∷ rest) (92 ∷ 92 ∷ []) ≡ false → starts_with nat_eq (b ∷ take n rest) (92 ∷ 92 ∷ []) ≡ false
no_line b [] zero h = h
no_line b [] (suc n) h = h
no_line b (c ∷ rest) zero h = and_false (eqb 92 b)
  where
    and_false : (t : Bool) → (t && false) ≡ false
    and_false true = refl
    and_false false = refl
no_line b (c ∷ rest) (suc n) h = h

-- the byte begins a sign, and no token of another form
record BeginsSign (b : ℕ) (rest : List ℕ) : Type 0 where
  no_word : is_name_start b ≡ false
  no_number : is_ascii_digit b ≡ false
  no_text : eqb b 34 ≡ false
  no_character : eqb b 39 ≡ false
  no_at : eqb b 64 ≡ false
  no_line_text : starts_with nat_eq (b ∷ rest) (92 ∷ 92 ∷ []) ≡ false

first_sign : (b : ℕ) (rest : List ℕ) (n : ℕ) → BeginsSign b rest → 0 < n → front (take n (b ∷ rest)) ≡ sign_front (take n (b ∷ rest))
first_sign b rest zero begins some = absurd (omega arith)
first_sign b rest (suc n) begins some =
    first_mark (b ∷ take n rest) begins.no_word begins.no_number
    ∙ cond-false (eqb b 34) _ _ begins.no_text ∙ cond-false (eqb b 39) _ _ begins.no_character ∙ cond-false (eqb b 64) _ _ begins.no_at
    ∙ cond-false (starts_with nat_eq (b ∷ take n rest) (92 ∷ 92 ∷ [])) _ _ (no_line b rest n begins.no_line_text)

sign_case : (b : ℕ) (rest : List ℕ) (n : ℕ) (place : Option ℕ) → BeginsSign b rest → place_in signs (take n (b ∷ rest)) ≡ place → Fits (length (b ∷ rest)) (sign_of_place place n) → Alone (b ∷ rest) (sign_of_place place n)
sign_case b rest n None begins e fits = tt
sign_case b rest n (Some k) begins e fits = first_sign b rest n begins fits.0 ∙ sign_again (b ∷ rest) k n fits.1 e

sign_alone : (b : ℕ) (rest : List ℕ) → BeginsSign b rest → Alone (b ∷ rest) (sign_front (b ∷ rest))
sign_alone b rest begins =
    let n : ℕ = longest_len signs (b ∷ rest) in
    sign_case b rest n (place_in signs (take n (b ∷ rest))) begins refl (sign_fits (b ∷ rest))

mark_alone : (rest : List ℕ) → starts_word rest ≡ false → starts_number rest ≡ false → Alone rest (mark_front rest)
mark_alone [] word number = tt
mark_alone (b ∷ rest) word number =
    choose (eqb b 34) _ _ (Alone (b ∷ rest)) (λ is. subst (λ x. Alone (x ∷ rest) (text_front rest)) (sym (eqb-true b 34 is)) (text_alone rest))
    (λ text. choose (eqb b 39) _ _ (Alone (b ∷ rest)) (λ is. subst (λ x. Alone (x ∷ rest) (character_front rest)) (sym (eqb-true b 39 is)) (character_alone rest (item_len 39 rest) refl))
    (λ character. choose (eqb b 64) _ _ (Alone (b ∷ rest)) (λ is. subst (λ x. Alone (x ∷ rest) (at_front rest)) (sym (eqb-true b 64 is)) (at_alone rest))
    (λ at. choose (starts_with nat_eq (b ∷ rest) (92 ∷ 92 ∷ [])) _ _ (Alone (b ∷ rest)) (line_case (b ∷ rest))
    (λ line. sign_alone b rest (record { no_word = word; no_number = number; no_text = text; no_character = character; no_at = at; no_line_text = line })))))

pub front_alone : (rest : List ℕ) → Alone rest (front rest)
unfolding front
front_alone rest =
    choose (starts_word rest) _ _ (Alone rest) (word_alone rest)
    (λ word. choose (starts_number rest) _ _ (Alone rest) (number_alone rest word) (λ number. mark_alone rest word number))

stands_alone : (text : List ℕ) (t : Token) → StandsIn text t → IsOfKind t.kind (bytes_of text t)
stands_alone text t stands =
    let rest : List ℕ = drop t.start text in
    let n : ℕ = stands.0 in
    let fits : Fits (length rest) (Ok (t.kind, n)) = subst (Fits (length rest)) stands.2.is_front (front_fits rest) in
    let itself : Alone rest (Ok (t.kind, n)) = subst (Alone rest) stands.2.is_front (front_alone rest) in
    let size : length (take n rest) ≡ n = length-take-le n rest fits.1 in
    let same : n ≡ t.end - t.start = omega (arith, stands.1) in
    subst (λ k. front (take k rest) ≡ Ok (t.kind, length (take k rest))) same (itself ∙ ap (λ k. Ok (t.kind, k)) (sym size))

alone_at : {text : List ℕ} {from : ℕ} {ts : List Token} → TokensFrom text from ts → (k : ℕ) (d : Token) → k < length ts → IsTokenAlone text (get_or ts k d)
alone_at (last gap end) zero d below = λ no_end. absurd (no_end end.kind)
alone_at (last gap end) (suc k) d below = absurd (omega arith)
alone_at {text} (more {t = t} gap stands rest) zero d below = λ no_end. stands_alone text t stands
alone_at (more gap stands rest) (suc k) d below = alone_at rest k d (omega arith)

pub alone : {text : List ℕ} {list : List Token} → Tokens text list → All (IsTokenAlone text) list
alone tokens = alone_at tokens.list

-- the bytes of a character are one when taken alone
pub characters_alone : {text : List ℕ} {list : List Token} → Tokens text list → All (λ (t : Token). t.kind ≡ Character → IsOfKind Character (bytes_of text t)) list
characters_alone {text} {list} tokens = λ k d below is.
    subst (λ kind. IsOfKind kind (bytes_of text (get_or list k d))) is
    (alone tokens k d below (λ end. let both : Character ≡ End = sym is ∙ end in let no : ⊥ = cc in no))
