-- The numbers of escapes, and the items of characters.
use Rattle.std.proofs.Common.{◌≡◌, ℕ, ◌+◌, ◌-◌, ◌*◌, ◌<◌, ◌≤◌, ◌^◌, Bool, true, false, cond, eqb, List, [], ◌∷◌, length, get_or, take, drop, Option, Some, None, Ok, Err, IsSome, sym, refl, ap, ◌∙◌, subst, arith, eq-eqb}
use Rattle.std.specs.Prelude.{◌&&◌, ◌||◌, nat_lt, nat_eq}
use Rattle.std.specs.Char.{digit_value, is_ascii_hexdigit}
use Rattle.std.specs.List.{starts_with}
use Rattle.std.specs.Option.{option_map_or}
use Rattle.std.proofs.lemmas.Bool.{false≢true, and_parts, cond-true, cond-false, false_from_ne_true}
use Rattle.std.proofs.lemmas.Str.{is_utf8-from_IsUtf8, IsUtf8-from_is_utf8}
use Rattle.std.specs.Str.{is_utf8, IsUtf8, chars}
use Rattle.std.proofs.lemmas.Bool.Decides.{nat_tests}
use Rattle.std.proofs.lemmas.Option.{none-some}
use Rattle.zw_token.specs.declared.token.TokenKind.TheVariants.{Name, Character, Keyword}
use Rattle.zw_token.specs.Bytes.{is_name_start, starts_word, starts_number, starts_fraction}
use Rattle.zw_token.specs.Front.{Front, word_len, is_refused_word, at_front, character_of_item, sign_of_place, mark_front, front}
use Rattle.zw_token.specs.Literals.{item_len, items_len, escape_len, escape_number, point_len, point_number, starts_byte_digits}
use Rattle.zw_token.specs.Numbers.{digits_value, is_number, has_exponent}
use Rattle.zw_token.specs.Tables.{keywords, signs, builtins, is_in, place_in, longest_len}
use Rattle.zw_token.proofs.Fronts.{choose}

digit_le : (c : ℕ) → digit_value c ≤ 36
digit_le c =
    choose (nat_lt c 48) _ _ (λ n. n ≤ 36) (λ _. omega arith)
    (λ _. choose (nat_lt c 58) (c - 48) _ (λ n. n ≤ 36) (λ lt. grind (arith, nat_tests))
    (λ _. choose (nat_lt c 65) 36 _ (λ n. n ≤ 36) (λ _. omega arith)
    (λ _. choose (nat_lt c 91) (c - 55) _ (λ n. n ≤ 36) (λ lt. grind (arith, nat_tests))
    (λ _. choose (nat_lt c 97) 36 _ (λ n. n ≤ 36) (λ _. omega arith)
    (λ _. choose (nat_lt c 123) (c - 87) 36 (λ n. n ≤ 36) (λ lt. grind (arith, nat_tests)) (λ _. omega arith))))))

with_le : (n d most : ℕ) → n ≤ most → digit_value d ≤ most → cond (eqb d 95) n (16 * n + digit_value d) ≤ 17 * most
with_le n d most h k = choose (eqb d 95) n (16 * n + digit_value d) (λ m. m ≤ 17 * most) (λ _. omega arith) (λ _. omega arith)

pub two_digits_small : (digits : List ℕ) → digits_value 16 (take 2 digits) < 2 ^ 32
two_digits_small [] = omega arith
two_digits_small (a ∷ []) = let first = with_le 0 a 36 (omega arith) (digit_le a) in omega (arith, first)
two_digits_small (a ∷ b ∷ digits) =
    let first = with_le 0 a 36 (omega arith) (digit_le a) in
    let le = digit_le b in
    let second = with_le (cond (eqb a 95) 0 (16 * 0 + digit_value a)) b (17 * 36) first (omega (arith, le)) in
    omega (arith, second)

hex_small : (c : ℕ) → is_ascii_hexdigit c ≡ true → (digit_value c ≤ 15) × (eqb c 95 ≡ false)
hex_small c hex = (small, apart)
  where
    small : digit_value c ≤ 15
    small = grind (arith, nat_tests)

    apart : eqb c 95 ≡ false
    apart = grind (arith, nat_tests)

byte_value : (rest : List ℕ) → starts_byte_digits rest ≡ true → digits_value 16 (take 2 rest) < 256
byte_value [] h = absurd (false≢true h)
byte_value (a ∷ []) h = absurd (false≢true h)
byte_value (a ∷ b ∷ rest) h =
    let first = hex_small a (and_parts _ _ h).0 in
    let second = hex_small b (and_parts _ _ h).1 in
    let is_first : cond (eqb a 95) 0 (16 * 0 + digit_value a) ≡ 16 * 0 + digit_value a = cond-false _ _ _ first.1 in
    let is_second = cond-false (eqb b 95) (cond (eqb a 95) 0 (16 * 0 + digit_value a)) (16 * cond (eqb a 95) 0 (16 * 0 + digit_value a) + digit_value b) second.1 in
    omega (arith, first.0, second.0, is_first, is_second)

some_byte : (rest : List ℕ) → IsSome (escape_len (120 ∷ rest)) → starts_byte_digits rest ≡ true
some_byte rest some = from (starts_byte_digits rest) some
  where
    from : (b : Bool) → IsSome {T = ℕ} (cond b (Some 4) None) → b ≡ true
    from true h = refl
    from false h = absurd (false≢true h)

-- the number of `\x` is that of a byte
pub byte_escape_small : (escape : List ℕ) → IsSome (escape_len escape) → get_or escape 0 0 ≡ 120 → escape_number escape < 256
byte_escape_small [] some is = absurd (false≢true some)
byte_escape_small (e ∷ rest) some is =
    let some_x = subst (λ x. IsSome (escape_len (x ∷ rest))) is some in
    subst (λ x. escape_number (x ∷ rest) < 256) (sym is) (byte_value rest (some_byte rest some_x))

-- an item that begins with `\` is an escape
pub escape_is_item : (quote : ℕ) (rest : List ℕ) (len : ℕ) → item_len quote rest ≡ Some len → get_or rest 0 0 ≡ 92 → IsSome (escape_len (drop 1 rest))
unfolding item_len
escape_is_item quote [] len e is = absurd (none-some len e)
escape_is_item quote (b ∷ rest) len e is =
    let other : Option ℕ = cond (eqb b quote || eqb b 10 || eqb b 13) None (Some (point_len (b ∷ rest))) in
    let same : escape_len rest ≡ Some len = sym (cond-true (eqb b 92) (escape_len rest) other (eq-eqb b 92 is)) ∙ e in
    subst IsSome (sym same) refl

-- an escape has a byte behind its `\`
pub escape_some : (escape : List ℕ) → IsSome (escape_len escape) → 0 < length escape
escape_some [] some = absurd (false≢true some)
escape_some (e ∷ rest) some = omega arith

-- the code point of bytes that are UTF-8, and 0 of others
pub point_of_text : (rest text : List ℕ) (n : ℕ) → n ≡ point_len rest → text ≡ take n rest → IsUtf8 (take n rest) → get_or (chars text) 0 0 ≡ point_number rest
point_of_text rest text n size is utf8 =
    let same : text ≡ take (point_len rest) rest = is ∙ ap (λ m. take m rest) size in
    ap (λ t. get_or (chars t) 0 0) same ∙ sym (cond-true (is_utf8 (take (point_len rest) rest)) (get_or (chars (take (point_len rest) rest)) 0 0) 0 (is_utf8-from_IsUtf8 _ (subst (λ m. IsUtf8 (take m rest)) size utf8)))

pub point_of_none : (rest : List ℕ) (n : ℕ) → n ≡ point_len rest → (IsUtf8 (take n rest) → ⊥) → 0 ≡ point_number rest
point_of_none rest n size none =
    sym (cond-false (is_utf8 (take (point_len rest) rest)) (get_or (chars (take (point_len rest) rest)) 0 0) 0 (false_from_ne_true _ (λ utf8. none (subst (λ m. IsUtf8 (take m rest)) (sym size) (IsUtf8-from_is_utf8 _ utf8)))))

-- a character has an item behind its first quote
abbrev pub HasItem : List ℕ → Type 0
HasItem rest = (len : ℕ) × (item_len 39 rest ≡ Some len)

abbrev IfCharacter : List ℕ → Front → Type 0
IfCharacter rest (Ok token) = token.0 ≡ Character → HasItem (drop 1 rest)
IfCharacter rest (Err error) = Unit {0}

word_no_character : (place : Option ℕ) → option_map_or Keyword place Name ≡ Character → ⊥
word_no_character None e = cc
word_no_character (Some k) e = cc

sign_no_character : (rest : List ℕ) (place : Option ℕ) (n : ℕ) → IfCharacter rest (sign_of_place place n)
sign_no_character rest None n = tt
sign_no_character rest (Some k) n = λ e. absurd (let no : ⊥ = cc in no)

at_no_character : (all rest : List ℕ) → IfCharacter all (at_front rest)
at_no_character all [] = tt
at_no_character all (b ∷ rest) =
    choose (eqb b 34) _ _ (IfCharacter all)
    (λ _. choose (nat_lt 0 (items_len 34 rest) && eqb (get_or rest (items_len 34 rest) 0) 34) _ _ (IfCharacter all) (λ _ e. absurd (let no : ⊥ = cc in no)) (λ _. tt))
    (λ _. choose (is_name_start b) _ _ (IfCharacter all) (λ _. choose (is_in builtins (take (word_len (b ∷ rest)) (b ∷ rest))) _ _ (IfCharacter all) (λ _ e. absurd (let no : ⊥ = cc in no)) (λ _. tt)) (λ _. tt))

of_item : (b : ℕ) (rest : List ℕ) (len : Option ℕ) → item_len 39 rest ≡ len → IfCharacter (b ∷ rest) (character_of_item len rest)
of_item b rest None e = tt
of_item b rest (Some n) e = choose (eqb (get_or rest n 0) 39) _ _ (IfCharacter (b ∷ rest)) (λ _ is. (n, e)) (λ _. tt)

mark_character : (rest : List ℕ) → IfCharacter rest (mark_front rest)
mark_character [] = tt
mark_character (b ∷ rest) =
    choose (eqb b 34) _ _ (IfCharacter (b ∷ rest))
    (λ _. choose (eqb (get_or rest (items_len 34 rest) 0) 34) _ _ (IfCharacter (b ∷ rest)) (λ _ e. absurd (let no : ⊥ = cc in no)) (λ _. tt))
    (λ _. choose (eqb b 39) _ _ (IfCharacter (b ∷ rest)) (λ _. of_item b rest (item_len 39 rest) refl)
    (λ _. choose (eqb b 64) _ _ (IfCharacter (b ∷ rest)) (λ _. at_no_character (b ∷ rest) rest)
    (λ _. choose (starts_with nat_eq (b ∷ rest) (92 ∷ 92 ∷ [])) _ _ (IfCharacter (b ∷ rest)) (λ _ e. absurd (let no : ⊥ = cc in no))
    (λ _. sign_no_character (b ∷ rest) (place_in signs (take (longest_len signs (b ∷ rest)) (b ∷ rest))) (longest_len signs (b ∷ rest))))))

front_character : (rest : List ℕ) → IfCharacter rest (front rest)
unfolding front
front_character rest =
    choose (starts_word rest) _ _ (IfCharacter rest)
    (λ _. choose (is_refused_word (take (word_len rest) rest)) _ _ (IfCharacter rest) (λ _. tt) (λ _ e. absurd (word_no_character (place_in keywords (take (word_len rest) rest)) e)))
    (λ _. choose (starts_number rest) _ _ (IfCharacter rest)
    (λ _. choose (has_exponent (take (word_len rest) rest) || starts_fraction (drop (word_len rest) rest)) _ _ (IfCharacter rest) (λ _. tt)
    (λ _. choose (is_number (take (word_len rest) rest)) _ _ (IfCharacter rest) (λ _ e. absurd (let no : ⊥ = cc in no)) (λ _. tt)))
    (λ _. mark_character rest))

pub character_item : (text : List ℕ) (n : ℕ) → front text ≡ Ok (Character, n) → HasItem (drop 1 text)
character_item text n e = (subst (IfCharacter text) e (front_character text)) refl

item_some : (quote : ℕ) (rest : List ℕ) (len : ℕ) → item_len quote rest ≡ Some len → 0 < length rest
unfolding item_len
item_some quote [] len e = absurd (none-some len e)
item_some quote (b ∷ rest) len e = omega arith

pub character_size : (text : List ℕ) (n : ℕ) → front text ≡ Ok (Character, n) → 2 ≤ length text
character_size text n e = two text (item_some 39 (drop 1 text) (character_item text n e).0 (character_item text n e).1)
  where
    two : (text : List ℕ) → 0 < length (drop 1 text) → 2 ≤ length text
    two [] h = absurd (omega arith)
    two (a ∷ rest) h = omega arith
