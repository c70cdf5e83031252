-- A text without escapes is worth its bytes.
use Rattle.std.proofs.Common.{◌≡◌, ℕ, zero, suc, ◌+◌, ◌<◌, ◌≤◌, Bool, true, false, cond, eqb, List, [], ◌∷◌, ◌++◌, length, get_or, take, drop, Option, Some, None, Ok, Err, sym, refl, ap, ◌∙◌, subst, arith, length-drop, length-append}
use Rattle.std.specs.Prelude.{not, ◌&&◌, ◌||◌, nat_le}
use Rattle.std.specs.Str.{is_utf8, continuation_len}
use Rattle.std.proofs.lemmas.Bool.{false≢true, and_parts, not-true, cond-false}
use Rattle.std.proofs.lemmas.Bool.Decides.{nat_tests}
use Rattle.std.proofs.lemmas.List.{get_or-drop, get_or_append_left}
use Rattle.std.proofs.lemmas.List.Sums.{AllPass-from_list_all}
use Rattle.std.proofs.Math.Seq.{take-add, take-append_seam}
use Rattle.zw_token.specs.declared.token.TextError.TheVariants.{BadLiteral}
use Rattle.zw_token.specs.declared.token.TokenKind.TheVariants.{Text}
use Rattle.zw_token.specs.Bytes.{is_name_start}
use Rattle.zw_token.specs.Front.{Front, front}
use Rattle.zw_token.specs.Literals.{point_len, is_simple_escape, starts_byte_digits, starts_point_digits, hex_len, escape_len, escape_bytes, item_len, item_at, items_len, items_bytes}
use Rattle.zw_token.specs.Values.{text_of, has_no_escape}
use Rattle.zw_token.proofs.Fronts.{choose, index_within}
use Rattle.zw_token.proofs.Items.{items_len_more, items_len_none, items_bytes_more, items_bytes_none}

-- the length is some, and within this many
abbrev pub IsLen : ℕ → Option ℕ → Type 0
IsLen most None = Unit {0}
IsLen most (Some n) = (0 < n) × (n ≤ most)

byte_digits_two : (rest : List ℕ) → starts_byte_digits rest ≡ true → 2 ≤ length rest
byte_digits_two [] h = absurd (false≢true h)
byte_digits_two (a ∷ []) h = absurd (false≢true h)
byte_digits_two (a ∷ b ∷ rest) h = omega arith

point_digits_within : (rest : List ℕ) → starts_point_digits rest ≡ true → hex_len (drop 1 rest) + 2 ≤ length rest
point_digits_within [] h = absurd (false≢true h)
point_digits_within (b ∷ rest) h =
    let closed = (and_parts _ _ (and_parts _ _ h).0).1 in
    let inside = index_within rest (hex_len rest) 125 (omega arith) closed in
    omega (arith, inside)

escape_within : (rest : List ℕ) → IsLen (suc (length rest)) (escape_len rest)
escape_within [] = tt
escape_within (e ∷ rest) =
    choose (is_simple_escape e) _ _ (IsLen (suc (length (e ∷ rest)))) (λ _. (omega arith, omega arith))
    (λ _. choose (eqb e 120 && starts_byte_digits rest) _ _ (IsLen (suc (length (e ∷ rest)))) (λ h. let two = byte_digits_two rest (and_parts _ _ h).1 in (omega arith, omega (arith, two)))
    (λ _. choose (eqb e 117 && starts_point_digits rest) _ _ (IsLen (suc (length (e ∷ rest)))) (λ h. let more = point_digits_within rest (and_parts _ _ h).1 in (omega arith, omega (arith, more))) (λ _. tt)))

point_within : (b : ℕ) (rest : List ℕ) → (0 < point_len (b ∷ rest)) × (point_len (b ∷ rest) ≤ length (b ∷ rest))
unfolding point_len
point_within b rest =
    choose (nat_le (1 + continuation_len b) (length (b ∷ rest)) && is_utf8 (take (1 + continuation_len b) (b ∷ rest))) (1 + continuation_len b) 1 (λ n. (0 < n) × (n ≤ length (b ∷ rest)))
    (λ h. (omega arith, le (1 + continuation_len b) (length (b ∷ rest)) (and_parts _ _ h).0)) (λ _. (omega arith, omega arith))
  where
    le : (m n : ℕ) → nat_le m n ≡ true → m ≤ n
    le m n h = grind (arith, nat_tests)

pub item_within : (quote : ℕ) (rest : List ℕ) → IsLen (length rest) (item_len quote rest)
unfolding item_len
item_within quote [] = tt
item_within quote (b ∷ rest) =
    choose (eqb b 92) _ _ (IsLen (length (b ∷ rest))) (λ _. escape_within rest)
    (λ _. choose (eqb b quote || eqb b 10 || eqb b 13) _ _ (IsLen (length (b ∷ rest))) (λ _. tt) (λ _. point_within b rest))

-- no `\` is among the first n bytes
abbrev NoEscapeBefore : List ℕ → ℕ → Type 0
NoEscapeBefore rest n = (k : ℕ) → k < n → eqb (get_or rest k 0) 92 ≡ false

plain_items : (fuel quote : ℕ) (rest : List ℕ) (len : Option ℕ) → length rest ≤ fuel → item_len quote rest ≡ len → IsLen (length rest) len → NoEscapeBefore rest (items_len quote rest) → items_bytes quote rest ≡ take (items_len quote rest) rest
plain_items fuel quote rest None fits e is_len none = items_bytes_none quote rest e ∙ ap (λ n. take n rest) (sym (items_len_none quote rest e))
plain_items zero quote rest (Some n) fits e is_len none = absurd (omega (arith, is_len.0, is_len.1, fits))
plain_items (suc fuel) quote rest (Some n) fits e is_len none =
    let left = drop n rest in
    let all = items_len_more quote rest n e is_len.0 is_len.1 in
    let shorter : length left ≤ fuel = omega (arith, length-drop n rest, is_len.0, fits) in
    let none_left : NoEscapeBefore left (items_len quote left) = λ k below. ap (λ b. eqb b 92) (get_or-drop n rest k 0) ∙ none (n + k) (omega (arith, below, all)) in
    let others = plain_items fuel quote left (item_len quote left) shorter refl (item_within quote left) none_left in
    let itself : (item_at n rest).stands_for ≡ take n rest = cond-false (eqb (get_or rest 0 0) 92) (escape_bytes (drop 1 rest)) (take n rest) (none 0 (omega (arith, is_len.0, all))) in
    items_bytes_more quote rest n e is_len.0 is_len.1 ∙ ap (λ x. x ++ items_bytes quote left) itself ∙ ap (λ y. take n rest ++ y) others ∙ sym (take-add n (items_len quote left) rest) ∙ ap (λ m. take m rest) (sym all)

token_len : Front → ℕ
token_len (Ok token) = token.1
token_len (Err error) = 0

-- the items of a text go up to its last quote
text_size : (rest : List ℕ) (n : ℕ) → front (34 ∷ rest) ≡ Ok (Text, n) → items_len 34 rest + 2 ≡ n
unfolding front is_name_start token_len
text_size rest n e = closed (eqb (get_or rest (items_len 34 rest) 0) 34) e
  where
    closed : (b : Bool) → cond {A = Front} b (Ok (Text, items_len 34 rest + 2)) (Err BadLiteral) ≡ Ok (Text, n) → items_len 34 rest + 2 ≡ n
    closed true e = ap token_len e
    closed false e = absurd (let no : ⊥ = cc in no)

no_escape_before : (bytes rest : List ℕ) → has_no_escape bytes ≡ true → NoEscapeBefore (bytes ++ rest) (length bytes)
no_escape_before bytes rest plain k below = ap (λ b. eqb b 92) (get_or_append_left bytes rest 0 k below) ∙ not-true _ (AllPass-from_list_all (λ b. not (eqb b 92)) bytes plain k 0 below)

pub plain_text : (bytes : List ℕ) → front (34 ∷ bytes ++ 34 ∷ []) ≡ Ok (Text, length (34 ∷ bytes ++ 34 ∷ [])) → has_no_escape bytes ≡ true → text_of (34 ∷ bytes ++ 34 ∷ []) ≡ bytes
plain_text bytes token plain =
    let rest = bytes ++ 34 ∷ [] in
    let size : items_len 34 rest ≡ length bytes = omega (arith, text_size rest _ token, length-append bytes (34 ∷ [])) in
    plain_items (length rest) 34 rest (item_len 34 rest) (omega arith) refl (item_within 34 rest) (subst (NoEscapeBefore rest) (sym size) (no_escape_before bytes (34 ∷ []) plain))
    ∙ ap (λ n. take n rest) size ∙ take-append_seam bytes (34 ∷ [])
