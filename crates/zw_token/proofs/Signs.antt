-- The longest sign that stands at the front of what is left of a text, and its place in the table.
use Rattle.std.proofs.Common.{◌≡◌, ℕ, zero, suc, ◌<◌, ◌≤◌, Bool, true, false, cond, List, [], ◌∷◌, length, get_or, take, Option, Some, None, Ok, Err, slice_get, is_some, ◌↔◌, sym, refl, ap, ◌∙◌, subst, inl, inr, ⊎_elim, arith, length-take-le}
use Rattle.std.specs.Prelude.{not, ◌&&◌, ◌⊎◌, nat_eq, nat_lt, max}
use Rattle.std.specs.List.{list_all, prefix_len, fold, starts_with}
use Rattle.std.specs.Str.{bytes_eq}
use Rattle.std.proofs.lemmas.Bool.{false≢true, and_parts, not-true, cond-true, cases_lt, lt-ltb}
use Rattle.std.proofs.lemmas.List.Sums.{AllPass-from_list_all, prefix_len_stops, prefix_len_passes}
use Rattle.std.proofs.lemmas.Option.{none-some, slice_get_within, get_or_from_slice_get, slice_get-get_or, same_Some}
use Rattle.std.proofs.lemmas.Slice.Eq.{bytes_eq-Decides}
use Rattle.zw_token.specs.declared.token.TextError.TheVariants.{BadToken}
use Rattle.zw_token.specs.declared.token.TokenKind.TheVariants.{Sign}
use Rattle.zw_token.specs.Front.{sign_of_place, sign_front}
use Rattle.zw_token.specs.Tables.{signs, IsIn, place_in, is_in, longest_len, NoLongerFront}
use Rattle.zw_token.proofs.Fronts.{choose}

-- a text of a table that stands at the front is that front
starts_take : (rest text : List ℕ) → starts_with nat_eq rest text ≡ true → text ≡ take (length text) rest
starts_take rest text h = (bytes_eq-Decides text (take (length text) rest)).0 h

take_starts : (rest : List ℕ) (n : ℕ) → n ≤ length rest → starts_with nat_eq rest (take n rest) ≡ true
take_starts rest n h = (bytes_eq-Decides (take n rest) (take (length (take n rest)) rest)).1 (ap (λ m. take m rest) (sym (length-take-le n rest h)))

starts_le : (rest text : List ℕ) → starts_with nat_eq rest text ≡ true → length text ≤ length rest
starts_le rest [] h = omega arith
starts_le [] (c ∷ text) h = absurd (false≢true h)
starts_le (b ∷ rest) (c ∷ text) h = let more = starts_le rest text (and_parts _ _ h).1 in omega arith

abbrev longer : List ℕ → ℕ → List ℕ → ℕ
longer rest = λ longest text. cond (starts_with nat_eq rest text) (max longest (length text)) longest

fold-ge : (rest : List ℕ) (n : ℕ) (table : List (List ℕ)) → n ≤ fold (longer rest) n table
fold-ge rest n [] = omega arith
fold-ge rest n (text ∷ table) =
    let first : n ≤ longer rest n text = choose (starts_with nat_eq rest text) (max n (length text)) n (λ m. n ≤ m) (λ _. omega arith) (λ _. omega arith) in
    let more = fold-ge rest (longer rest n text) table in
    omega (arith, first, more)

fold-ge-each : (rest : List ℕ) (n : ℕ) (table : List (List ℕ)) (k : ℕ) (text : List ℕ) → slice_get table k ≡ Some text → starts_with nat_eq rest text ≡ true → length text ≤ fold (longer rest) n table
fold-ge-each rest n [] k text at starts = absurd (none-some text at)
fold-ge-each rest n (first ∷ table) zero text at starts =
    let is : first ≡ text = same_Some _ _ at in
    let here : longer rest n first ≡ max n (length text) = ap (λ t. longer rest n t) is ∙ cond-true _ _ _ starts in
    let more = fold-ge rest (longer rest n first) table in
    omega (arith, here, more)
fold-ge-each rest n (first ∷ table) (suc k) text at starts = fold-ge-each rest (longer rest n first) table k text at starts

-- the longest is none, or a text of the table
abbrev Found : List ℕ → List (List ℕ) → ℕ → Type 0
Found rest table n = (k : ℕ) × (text : List ℕ) × (slice_get table k ≡ Some text) × (starts_with nat_eq rest text ≡ true) × (n ≡ length text)

fold_is : (rest : List ℕ) (n : ℕ) (table : List (List ℕ)) → (fold (longer rest) n table ≡ n) ⊎ Found rest table (fold (longer rest) n table)
fold_is rest n [] = inl refl
fold_is rest n (text ∷ table) =
    ⊎_elim
    (λ same. from_first (starts_with nat_eq rest text) refl same)
    (λ found. inr (suc found.0, found.1, found.2, found.3, found.4))
    (fold_is rest (longer rest n text) table)
  where
    from_first : (b : Bool) → b ≡ starts_with nat_eq rest text → fold (longer rest) (longer rest n text) table ≡ longer rest n text → (fold (longer rest) (longer rest n text) table ≡ n) ⊎ Found rest (text ∷ table) (fold (longer rest) (longer rest n text) table)
    from_first true e same =
        let is : longer rest n text ≡ max n (length text) = cond-true _ _ _ (sym e) in
        ⊎_elim
        (λ below. inr (0, text, refl, sym e, (let m : max n (length text) ≡ length text = omega arith in same ∙ is ∙ m)))
        (λ above. inl (let m : max n (length text) ≡ n = omega arith in same ∙ is ∙ m))
        (cases_lt n (length text))
    from_first false e same = inl (same ∙ ap (λ b. cond b (max n (length text)) n) (sym e))

-- no text stands twice
later_differ : List (List ℕ) → Bool
later_differ [] = true
later_differ (x ∷ xs) = list_all (λ y. not (bytes_eq x y)) xs && later_differ xs

passes : (p : List ℕ → Bool) (table : List (List ℕ)) (k : ℕ) (bytes : List ℕ) → list_all p table ≡ true → slice_get table k ≡ Some bytes → p bytes ≡ true
passes p table k bytes all at = ap p (sym (get_or_from_slice_get table k bytes [] at)) ∙ AllPass-from_list_all p table all k [] (slice_get_within table k bytes at)

later_apart : (x : List ℕ) (xs : List (List ℕ)) (k : ℕ) → list_all (λ y. not (bytes_eq x y)) xs ≡ true → slice_get xs k ≡ Some x → ⊥
later_apart x xs k all at = false≢true (sym (not-true _ (passes (λ y. not (bytes_eq x y)) xs k x all at)) ∙ (bytes_eq-Decides x x).1 refl)

one_place : (table : List (List ℕ)) → later_differ table ≡ true → (j k : ℕ) (bytes : List ℕ) → slice_get table j ≡ Some bytes → slice_get table k ≡ Some bytes → j ≡ k
unfolding later_differ
one_place [] differ j k bytes at_j at_k = absurd (none-some bytes at_j)
one_place (x ∷ xs) differ zero zero bytes at_j at_k = refl
one_place (x ∷ xs) differ zero (suc k) bytes at_j at_k = absurd (later_apart x xs k (and_parts _ _ differ).0 (at_k ∙ sym at_j))
one_place (x ∷ xs) differ (suc j) zero bytes at_j at_k = absurd (later_apart x xs j (and_parts _ _ differ).0 (at_j ∙ sym at_k))
one_place (x ∷ xs) differ (suc j) (suc k) bytes at_j at_k = ap suc (one_place xs (and_parts _ _ differ).1 j k bytes at_j at_k)

signs_differ : later_differ signs ≡ true
unfolding later_differ
signs_differ = refl

-- where the bytes are found, they stand
pub place_in-slice_get : (table : List (List ℕ)) (bytes : List ℕ) (k : ℕ) → place_in table bytes ≡ Some k → slice_get table k ≡ Some bytes
place_in-slice_get table bytes k e =
    let n = prefix_len (λ t. not (bytes_eq t bytes)) table in
    ⊎_elim
    (λ below.
    let is : n ≡ k = same_Some _ _ (sym (cond-true (nat_lt n (length table)) (Some n) None (lt-ltb n (length table) below)) ∙ e) in
    let here = prefix_len_stops (λ t. not (bytes_eq t bytes)) table [] below in
    subst (λ m. slice_get table m ≡ Some bytes) is (slice_get-get_or table n [] below ∙ ap Some ((bytes_eq-Decides (get_or table n []) bytes).0 (not-false _ here))))
    (λ past. absurd (none-some k (ap (λ b. cond b (Some n) None) (sym (nat_lt-false n (length table) past)) ∙ e)))
    (cases_lt n (length table))
  where
    not-false : (b : Bool) → not b ≡ false → b ≡ true
    not-false true h = refl
    not-false false h = sym h

    nat_lt-false : (n m : ℕ) → m ≤ n → nat_lt n m ≡ false
    nat_lt-false n m h = grind arith

-- and at no later place than another where they stand
pub place_in-first : (table : List (List ℕ)) (bytes : List ℕ) (j k : ℕ) → place_in table bytes ≡ Some j → slice_get table k ≡ Some bytes → j ≤ k
place_in-first table bytes j k e at =
    let n = prefix_len (λ t. not (bytes_eq t bytes)) table in
    let inside = slice_get_within table k bytes at in
    let below : n ≤ k = ⊎_elim (λ beyond. absurd (false≢true (sym (not-true _ (prefix_len_passes (λ t. not (bytes_eq t bytes)) table k [] beyond)) ∙ (bytes_eq-Decides (get_or table k []) bytes).1 (get_or_from_slice_get table k bytes [] at)))) (λ h. h) (cases_lt k n) in
    let short : n < length table = omega (arith, below, inside) in
    let found : place_in table bytes ≡ Some n = cond-true (nat_lt n (length table)) (Some n) None (lt-ltb n (length table) short) in
    let same : n ≡ j = same_Some n j (sym found ∙ e) in
    omega (arith, below, same)

-- and where they stand, they are found
place_in-found : (table : List (List ℕ)) → later_differ table ≡ true → (k : ℕ) (bytes : List ℕ) → slice_get table k ≡ Some bytes → place_in table bytes ≡ Some k
place_in-found table differ k bytes at =
    let n = prefix_len (λ t. not (bytes_eq t bytes)) table in
    let inside = slice_get_within table k bytes at in
    let below : n ≤ k = ⊎_elim (λ beyond. absurd (false≢true (sym (not-true _ (prefix_len_passes (λ t. not (bytes_eq t bytes)) table k [] beyond)) ∙ (bytes_eq-Decides (get_or table k []) bytes).1 (get_or_from_slice_get table k bytes [] at)))) (λ h. h) (cases_lt k n) in
    let short : n < length table = omega (arith, below, inside) in
    let found : place_in table bytes ≡ Some n = cond-true (nat_lt n (length table)) (Some n) None (lt-ltb n (length table) short) in
    found ∙ ap Some (one_place table differ n k bytes (place_in-slice_get table bytes n found) at)

-- the longest sign and its place
pub sign_found : (rest : List ℕ) (k n : ℕ) → n ≤ length rest → slice_get signs k ≡ Some (take n rest) → NoLongerFront signs rest n → sign_front rest ≡ Ok (Sign k, n)
sign_found rest k n within at longest =
    let size = length-take-le n rest within in
    let above = fold-ge-each rest 0 signs k (take n rest) at (take_starts rest n within) in
    let same : longest_len signs rest ≡ n =
    ⊎_elim (λ none. omega (arith, none, above, size))
    (λ found. ⊎_elim (λ more. absurd (longest (length found.1) (omega (arith, more, found.4)) (starts_le rest found.1 found.3) (found.0, found.2 ∙ ap Some (starts_take rest found.1 found.3)))) (λ le. omega (arith, le, above, size)) (cases_lt n (longest_len signs rest)))
    (fold_is rest 0 signs) in
    ap (λ m. sign_of_place (place_in signs (take m rest)) m) same ∙ ap (λ p. sign_of_place p n) (place_in-found signs signs_differ k (take n rest) at)

empty_no_sign : place_in signs [] ≡ None
empty_no_sign = refl

pub sign_none : (rest : List ℕ) → NoLongerFront signs rest 0 → sign_front rest ≡ Err BadToken
sign_none rest longest =
    let same : longest_len signs rest ≡ 0 =
    ⊎_elim (λ none. none)
    (λ found. ⊎_elim (λ more. absurd (longest (length found.1) (omega (arith, more, found.4)) (starts_le rest found.1 found.3) (found.0, found.2 ∙ ap Some (starts_take rest found.1 found.3)))) (λ le. omega (arith, le)) (cases_lt 0 (longest_len signs rest)))
    (fold_is rest 0 signs) in
    ap (λ m. sign_of_place (place_in signs (take m rest)) m) same ∙ ap (λ p. sign_of_place p 0) empty_no_sign

pub sign-lt : (k : ℕ) (bytes : List ℕ) → slice_get signs k ≡ Some bytes → k < 62
sign-lt k bytes at = slice_get_within signs k bytes at

-- no longer sign stands where one is taken
pub longest_len_longest : (rest : List ℕ) → NoLongerFront signs rest (longest_len signs rest)
longest_len_longest rest m more within is_in =
    let size = length-take-le m rest within in
    let above = fold-ge-each rest 0 signs is_in.0 (take m rest) is_in.1 (take_starts rest m within) in
    omega (arith, size, above, more)

-- where the bytes stand, some place is found
pub place_in-some : (table : List (List ℕ)) (k : ℕ) (bytes : List ℕ) → slice_get table k ≡ Some bytes → is_some (place_in table bytes) ≡ true
place_in-some table k bytes at =
    let n = prefix_len (λ t. not (bytes_eq t bytes)) table in
    let inside = slice_get_within table k bytes at in
    let below : n ≤ k = ⊎_elim (λ beyond. absurd (false≢true (sym (not-true _ (prefix_len_passes (λ t. not (bytes_eq t bytes)) table k [] beyond)) ∙ (bytes_eq-Decides (get_or table k []) bytes).1 (get_or_from_slice_get table k bytes [] at)))) (λ h. h) (cases_lt k n) in
    let short : n < length table = omega (arith, below, inside) in
    ap is_some (cond-true (nat_lt n (length table)) (Some n) None (lt-ltb n (length table) short))

is_some-place : (table : List (List ℕ)) (bytes : List ℕ) (r : Option ℕ) → place_in table bytes ≡ r → is_some r ≡ true → IsIn table bytes
is_some-place table bytes None e some = absurd (false≢true some)
is_some-place table bytes (Some k) e some = (k, place_in-slice_get table bytes k e)

pub is_in-IsIn : (table : List (List ℕ)) (bytes : List ℕ) → (is_in table bytes ≡ true) ↔ IsIn table bytes
is_in-IsIn table bytes = (is_some-place table bytes (place_in table bytes) refl, λ h. place_in-some table h.0 bytes h.1)
