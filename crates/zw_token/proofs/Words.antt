-- Words by their first letter.
use Rattle.std.proofs.Common.{◌≡◌, ℕ, zero, suc, ◌+◌, ◌-◌, ◌<◌, ◌≤◌, true, List, [], ◌∷◌, length, get_or, take, drop, Option, Some, None, slice_get, is_some, sym, refl, ap, ◌∙◌, subst, arith}
use Rattle.std.specs.Prelude.{min}
use Rattle.std.specs.Borrow.{Bor}
use Rattle.std.proofs.lemmas.Bool.{false≢true, and_parts, leb-true, ltb-true}
use Rattle.std.proofs.lemmas.List.{get_or_past, length-map}
use Rattle.std.proofs.lemmas.Option.{none-some, same_Some, slice_get_within}
use Rattle.zw_token.specs.Tables.{texts, place_in, letter_group, are_grouped}
use Rattle.zw_token.proofs.Groups.{part_of, in_part}
use Rattle.zw_token.proofs.Signs.{place_in-slice_get, place_in-first, place_in-some}

-- a text of the table stands in the group of its first byte
pub text_grouped : (starts : List ℕ) (table : List (List ℕ)) (from k : ℕ) (bytes : List ℕ) → are_grouped starts from table ≡ true → slice_get table k ≡ Some bytes → ((letter_group starts (get_or bytes 0 0)).0 ≤ from + k) × (from + k < (letter_group starts (get_or bytes 0 0)).1)
text_grouped starts [] from k bytes all at = absurd (none-some bytes at)
text_grouped starts (text ∷ table) from zero bytes all at =
    let parts = and_parts _ _ all in
    let bounds = and_parts _ _ parts.0 in
    subst (λ b. ((letter_group starts (get_or b 0 0)).0 ≤ from + zero) × (from + zero < (letter_group starts (get_or b 0 0)).1)) (same_Some text bytes at)
    (let le = leb-true _ from bounds.0 in omega (arith, le), let lt = ltb-true from _ bounds.1 in omega (arith, lt))
text_grouped starts (text ∷ table) from (suc k) bytes all at =
    let place : suc from + k ≡ from + suc k = omega arith in
    subst (λ m. ((letter_group starts (get_or bytes 0 0)).0 ≤ m) × (m < (letter_group starts (get_or bytes 0 0)).1)) place
    (text_grouped starts table (suc from) k bytes (and_parts _ _ all).1 at)

-- the place of bytes that stand in a part of the table alone, if anywhere
abbrev pub IsPart : List (List ℕ) → List ℕ → ℕ → ℕ → Type 0
IsPart table word from to = (k : ℕ) → slice_get table k ≡ Some word → (from ≤ k) × (k < to)

pub part_none : (table : List (Bor (List ℕ))) (word : List ℕ) (from to : ℕ) → IsPart (texts table) word from to → place_in (texts (take (to - from) (drop from table))) word ≡ None → place_in (texts table) word ≡ None
part_none table word from to part none = by_place (place_in (texts table) word) refl
  where
    by_place : (r : Option ℕ) → place_in (texts table) word ≡ r → place_in (texts table) word ≡ None
    by_place None e = e
    by_place (Some k) e =
        let at : slice_get (texts table) k ≡ Some word = place_in-slice_get (texts table) word k e in
        let bounds = part k at in
        let place : from + (k - from) ≡ k = omega (arith, bounds.0) in
        let there = in_part table from (to - from) (k - from) word (omega (arith, bounds.0, bounds.1)) (subst (λ i. slice_get (texts table) i ≡ Some word) (sym place) at) in
        absurd (false≢true (sym (ap is_some none) ∙ place_in-some (texts (take (to - from) (drop from table))) (k - from) word there))

pub part_some : (table : List (Bor (List ℕ))) (word : List ℕ) (from to j : ℕ) → IsPart (texts table) word from to → place_in (texts (take (to - from) (drop from table))) word ≡ Some j → place_in (texts table) word ≡ Some (from + j)
part_some table word from to j part found = by_place (place_in (texts table) word) refl
  where
    here : slice_get (texts table) (from + j) ≡ Some word
    here = part_of table from (to - from) j word (place_in-slice_get (texts (take (to - from) (drop from table))) word j found)

    by_place : (r : Option ℕ) → place_in (texts table) word ≡ r → place_in (texts table) word ≡ Some (from + j)
    by_place None e = absurd (false≢true (sym (ap is_some e) ∙ place_in-some (texts table) (from + j) word here))
    by_place (Some k) e =
        let at : slice_get (texts table) k ≡ Some word = place_in-slice_get (texts table) word k e in
        let bounds = part k at in
        let first : k ≤ from + j = place_in-first (texts table) word k (from + j) e here in
        let place : from + (k - from) ≡ k = omega (arith, bounds.0) in
        let there = in_part table from (to - from) (k - from) word (omega (arith, bounds.0, bounds.1)) (subst (λ i. slice_get (texts table) i ≡ Some word) (sym place) at) in
        let other : j ≤ k - from = place_in-first (texts (take (to - from) (drop from table))) word j (k - from) found there in
        let same : k ≡ from + j = omega (arith, first, other, bounds.0) in
        e ∙ ap Some same

-- a table by first letters has no empty text
pub empty_nowhere : (starts : List ℕ) (table : List (List ℕ)) (word : List ℕ) → length word < 1 → are_grouped starts 0 table ≡ true → place_in table word ≡ None
empty_nowhere starts table word empty all = by_place (place_in table word) refl
  where
    by_place : (r : Option ℕ) → place_in table word ≡ r → place_in table word ≡ None
    by_place None e = e
    by_place (Some k) e =
        let bounds = text_grouped starts table 0 k word all (place_in-slice_get table word k e) in
        let zero_byte : get_or word 0 0 ≡ 0 = get_or_past word 0 0 (omega (arith, empty)) in
        let below : 0 + k < (letter_group starts 0).1 = subst (λ b. 0 + k < (letter_group starts b).1) zero_byte bounds.1 in
        absurd (omega (arith, below))

-- and a part of it in fewer bounds
pub part_within : (table : List (Bor (List ℕ))) (word : List ℕ) (from to from' to' : ℕ) → IsPart (texts table) word from to → to' ≡ min to (length table) → from' ≡ min from to' → IsPart (texts table) word from' to'
part_within table word from to from' to' part is_to is_from k at =
    let bounds = part k at in
    let inside : k < length (texts table) = slice_get_within (texts table) k word at in
    let size : length (texts table) ≡ length table = length-map table (λ (text : Bor (List ℕ)). text.now) in
    (omega (arith, bounds.0, is_from), omega (arith, bounds.1, inside, size, is_to))
