-- What the bytes of a name and of a sign are.
use Rattle.std.proofs.Common.{◌≡◌, ℕ, suc, ◌+◌, ◌<◌, true, cond, eqb, List, [], ◌∷◌, get_or, take, drop, Option, Some, None, Ok, Err, slice_get, sym, refl, ap, ◌∙◌, subst, arith}
use Rattle.std.specs.Prelude.{◌&&◌, ◌||◌, nat_lt, nat_eq}
use Rattle.std.specs.List.{list_all, prefix_len, starts_with}
use Rattle.std.specs.Option.{option_map_or}
use Rattle.std.proofs.lemmas.Bool.{false≢true}
use Rattle.std.proofs.lemmas.List.{get_or-take, length-take-le}
use Rattle.std.proofs.lemmas.List.Sums.{list_all-from_AllPass, prefix_len_passes, prefix_len-le-length}
use Rattle.zw_token.specs.declared.token.TextError.{TextError}
use Rattle.zw_token.specs.declared.token.TextError.TheVariants.{BadToken, BadLiteral, NotInProfile}
use Rattle.zw_token.specs.declared.token.TokenKind.{TokenKind}
use Rattle.zw_token.specs.declared.token.TokenKind.TheVariants.{Name, Quoted, Builtin, Number, Character, Text, LineText, Keyword, Sign, End}
use Rattle.zw_token.specs.Bytes.{is_name_start, is_name_byte, starts_word, starts_number, starts_fraction}
use Rattle.zw_token.specs.Front.{Front, word_len, is_refused_word, word_front, number_front, text_front, at_front, character_of_item, line_text_len, sign_of_place, sign_front, mark_front, front}
use Rattle.zw_token.specs.Literals.{item_len, items_len}
use Rattle.zw_token.specs.Numbers.{is_number, has_exponent}
use Rattle.zw_token.specs.Tables.{keywords, signs, builtins, is_in, place_in, longest_len, NoLongerFront}
use Rattle.zw_token.specs.Tokens.{IsWord}
use Rattle.zw_token.proofs.Fronts.{choose, name_byte-from_start}
use Rattle.zw_token.proofs.Signs.{place_in-slice_get, longest_len_longest}

-- what holds of each refusal, of words, of signs, and of each token of another kind holds of what stands at the front
module _ (P : Front → Type 0) (refusals : (error : TextError) → P (Err error)) (others : (kind : TokenKind) (n : ℕ) → (kind ≡ Name → ⊥) → ((k : ℕ) → kind ≡ Sign k → ⊥) → P (Ok (kind, n))) where
  number_case : (rest : List ℕ) → P (number_front rest)
  number_case rest =
      choose (has_exponent (take (word_len rest) rest) || starts_fraction (drop (word_len rest) rest)) _ _ P (λ _. refusals NotInProfile)
      (λ _. choose (is_number (take (word_len rest) rest)) _ _ P (λ _. others Number (word_len rest) (λ e. cc) (λ k e. cc)) (λ _. refusals BadLiteral))

  text_case : (rest : List ℕ) → P (text_front rest)
  text_case rest = choose (eqb (get_or rest (items_len 34 rest) 0) 34) _ _ P (λ _. others Text (items_len 34 rest + 2) (λ e. cc) (λ k e. cc)) (λ _. refusals BadLiteral)

  character_case : (len : Option ℕ) (rest : List ℕ) → P (character_of_item len rest)
  character_case None rest = refusals BadLiteral
  character_case (Some n) rest = choose (eqb (get_or rest n 0) 39) _ _ P (λ _. others Character (n + 2) (λ e. cc) (λ k e. cc)) (λ _. refusals BadLiteral)

  at_case : (rest : List ℕ) → P (at_front rest)
  at_case [] = refusals BadToken
  at_case (b ∷ rest) =
      choose (eqb b 34) _ _ P
      (λ _. choose (nat_lt 0 (items_len 34 rest) && eqb (get_or rest (items_len 34 rest) 0) 34) _ _ P (λ _. others Quoted (items_len 34 rest + 3) (λ e. cc) (λ k e. cc)) (λ _. refusals BadLiteral))
      (λ _. choose (is_name_start b) _ _ P
      (λ _. choose (is_in builtins (take (word_len (b ∷ rest)) (b ∷ rest))) _ _ P (λ _. others Builtin (word_len (b ∷ rest) + 1) (λ e. cc) (λ k e. cc)) (λ _. refusals NotInProfile))
      (λ _. refusals BadToken))

  mark_case : (rest : List ℕ) → P (sign_front rest) → P (mark_front rest)
  mark_case [] sign = refusals BadToken
  mark_case (b ∷ rest) sign =
      choose (eqb b 34) _ _ P (λ _. text_case rest)
      (λ _. choose (eqb b 39) _ _ P (λ _. character_case (item_len 39 rest) rest)
      (λ _. choose (eqb b 64) _ _ P (λ _. at_case rest)
      (λ _. choose (starts_with nat_eq (b ∷ rest) (92 ∷ 92 ∷ [])) _ _ P (λ _. others LineText (line_text_len (b ∷ rest)) (λ e. cc) (λ k e. cc)) (λ _. sign))))

  front_case : (rest : List ℕ) → (starts_word rest ≡ true → P (word_front rest)) → P (sign_front rest) → P (front rest)
  unfolding front
  front_case rest word sign =
      choose (starts_word rest) _ _ P word (λ _. choose (starts_number rest) _ _ P (λ _. number_case rest) (λ _. mark_case rest sign))

run_passes : (rest : List ℕ) → list_all is_name_byte (take (word_len rest) rest) ≡ true
run_passes rest =
    let n = prefix_len is_name_byte rest in
    let fits = length-take-le n rest (prefix_len-le-length is_name_byte rest) in
    list_all-from_AllPass is_name_byte (take n rest)
    (λ k d h. let below : k < n = omega arith in ap is_name_byte (get_or-take n rest k d below) ∙ prefix_len_passes is_name_byte rest k d below)

run_more : (b : ℕ) (rest : List ℕ) → is_name_byte b ≡ true → word_len (b ∷ rest) ≡ suc (word_len rest)
run_more b rest name =
    let one_more : 1 + word_len rest ≡ suc (word_len rest) = omega arith in
    ap (λ t. cond t (1 + word_len rest) 0) name ∙ one_more

run_word : (rest : List ℕ) → starts_word rest ≡ true → IsWord (take (word_len rest) rest)
run_word [] start = absurd (false≢true start)
run_word (b ∷ rest) start = subst (λ n. IsWord (take n (b ∷ rest))) (sym (run_more b rest (name_byte-from_start b start))) (start, run_passes rest)

-- a name is a word
abbrev IfName : List ℕ → Front → Type 0
IfName rest (Ok token) = token.0 ≡ Name → IsWord (take token.1 rest)
IfName rest (Err error) = Unit {0}

sign_no_name : (rest : List ℕ) (place : Option ℕ) (n : ℕ) → IfName rest (sign_of_place place n)
sign_no_name rest None n = tt
sign_no_name rest (Some k) n = λ e. absurd (let no : ⊥ = cc in no)

pub name_word : (rest : List ℕ) (n : ℕ) → front rest ≡ Ok (Name, n) → IsWord (take n rest)
name_word rest n e =
    let all = front_case (IfName rest) (λ error. tt) (λ kind n no_name no_sign name. absurd (no_name name)) rest
    (λ start. choose (is_refused_word (take (word_len rest) rest)) _ _ (IfName rest) (λ _. tt) (λ _ name. run_word rest start))
    (sign_no_name rest (place_in signs (take (longest_len signs rest) rest)) (longest_len signs rest)) in
    (subst (IfName rest) e all) refl

-- a sign is the longest of the table
abbrev IsLongestSign : List ℕ → ℕ → ℕ → Type 0
IsLongestSign rest k n = (slice_get signs k ≡ Some (take n rest)) × NoLongerFront signs rest n

abbrev IfSign : List ℕ → Front → Type 0
IfSign rest (Ok token) = (k : ℕ) → token.0 ≡ Sign k → IsLongestSign rest k token.1
IfSign rest (Err error) = Unit {0}

word_no_sign : (place : Option ℕ) (k : ℕ) → option_map_or Keyword place Name ≡ Sign k → ⊥
word_no_sign None k e = cc
word_no_sign (Some m) k e = cc

sign_number : TokenKind → ℕ
sign_number (Sign k) = k
sign_number Name = 0
sign_number Quoted = 0
sign_number Builtin = 0
sign_number Number = 0
sign_number Character = 0
sign_number Text = 0
sign_number LineText = 0
sign_number (Keyword k) = 0
sign_number End = 0

sign_found_at : (rest : List ℕ) (place : Option ℕ) → place_in signs (take (longest_len signs rest) rest) ≡ place → IfSign rest (sign_of_place place (longest_len signs rest))
unfolding sign_number
sign_found_at rest None e = tt
sign_found_at rest (Some m) e = λ k same. (subst (λ x. slice_get signs x ≡ Some (take (longest_len signs rest) rest)) (ap sign_number same) (place_in-slice_get signs (take (longest_len signs rest) rest) m e), longest_len_longest rest)

pub sign_longest : (rest : List ℕ) (k n : ℕ) → front rest ≡ Ok (Sign k, n) → IsLongestSign rest k n
sign_longest rest k n e =
    let all = front_case (IfSign rest) (λ error. tt) (λ kind n no_name no_sign k is. absurd (no_sign k is)) rest
    (λ start. choose (is_refused_word (take (word_len rest) rest)) _ _ (IfSign rest) (λ _. tt) (λ _ k is. absurd (word_no_sign (place_in keywords (take (word_len rest) rest)) k is)))
    (sign_found_at rest (place_in signs (take (longest_len signs rest) rest)) refl) in
    (subst (IfSign rest) e all) k refl
