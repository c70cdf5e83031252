-- What stands at a place of a table.
use Rattle.std.proofs.Common.{◌≡◌, ℕ, ◌+◌, ◌<◌, ◌≤◌, Bool, true, false, cond, List, [], ◌∷◌, map, length, get_or, take, Option, Some, None, IfSome, IfNone, ◌↔◌, is_some, slice_get, sym, refl, ap, ◌∙◌, subst, arith, below_more}
use Rattle.std.specs.Borrow.{Bor}
use Rattle.std.specs.List.{prefix_len}
use Rattle.std.specs.Prelude.{not, nat_lt, position}
use Rattle.std.specs.Str.{bytes_eq}
use Rattle.std.specs.Option.{option_map}
use Rattle.std.proofs.lemmas.Bool.{false≢true}
use Rattle.std.proofs.lemmas.List.{length-map}
use Rattle.std.proofs.lemmas.Option.{slice_get-map, slice_get_within, slice_get-get_or, same_Some}
use Rattle.std.proofs.lemmas.Slice.Eq.{bytes_eq-Decides}
use Rattle.zw_token.specs.Tables.{texts, IsIn, place_in, NoLongerFront}

-- the bytes of the text at a place
pub slice_get-texts : (table : List (Bor (List ℕ))) (k : ℕ) (d : Bor (List ℕ)) → k < length table → slice_get (texts table) k ≡ Some (get_or table k d).now
slice_get-texts table k d h = slice_get-map (λ text. text.now) table k ∙ ap (option_map (λ text. text.now)) (slice_get-get_or table k d h)

-- a place with bytes is inside the table
pub texts_within : (table : List (Bor (List ℕ))) (k : ℕ) (bytes : List ℕ) → slice_get (texts table) k ≡ Some bytes → k < length table
texts_within table k bytes h = subst (λ n. k < n) (length-map table (λ text. text.now)) (slice_get_within (texts table) k bytes h)

-- the text at a place has the bytes that were compared
pub place-from_eq : (table : List (Bor (List ℕ))) (k : ℕ) (d : Bor (List ℕ)) (text word : List ℕ) → k < length table → text ≡ (get_or table k d).now → bytes_eq text word ≡ true → slice_get (texts table) k ≡ Some word
place-from_eq table k d text word h is same = slice_get-texts table k d h ∙ ap Some (sym is ∙ (bytes_eq-Decides text word).0 same)

-- it hasn't the bytes that were found to be others
pub other_place : (table : List (Bor (List ℕ))) (k : ℕ) (d : Bor (List ℕ)) (text word : List ℕ) → k < length table → text ≡ (get_or table k d).now → bytes_eq text word ≡ false → slice_get (texts table) k ≡ Some word → ⊥
other_place table k d text word h is other e = false≢true (sym other ∙ (bytes_eq-Decides text word).1 (is ∙ same_Some _ _ (sym (slice_get-texts table k d h) ∙ e)))

-- no text before the k-th is a front of more than n bytes
abbrev pub NoneLongerBefore : List (Bor (List ℕ)) → List ℕ → ℕ → ℕ → Type 0
NoneLongerBefore table rest k n = (j : ℕ) → j < k → (m : ℕ) → n < m → m ≤ length rest → slice_get (texts table) j ≡ Some (take m rest) → ⊥

-- nor is the k-th, where its own front isn't longer
pub longest_more : (table : List (Bor (List ℕ))) (rest : List ℕ) (k n front now : ℕ) (d : Bor (List ℕ)) → NoneLongerBefore table rest k n → k < length table → ((m : ℕ) → front < m → m ≤ length rest → (get_or table k d).now ≡ take m rest → ⊥) → n ≤ now → front ≤ now → NoneLongerBefore table rest (k + 1) now
longest_more table rest k n front now d before h none n_le front_le =
    below_more _ _
    (λ j below m longer within at. before j below m (omega arith) within at)
    (λ m longer within at. none m (omega arith) within (same_Some _ _ (sym (slice_get-texts table k d h) ∙ at)))

-- then no text of the table is
pub longest_all : (table : List (Bor (List ℕ))) (rest : List ℕ) (k n : ℕ) → NoneLongerBefore table rest k n → length table ≤ k → NoLongerFront (texts table) rest n
longest_all table rest k n before all m longer within is_in =
    before is_in.0 (omega (arith, texts_within table is_in.0 (take m rest) is_in.1)) m longer within is_in.1

-- what was found stands in the table, and nothing else
pub IsIn-from_place : (table : List (List ℕ)) (word : List ℕ) (r : Option ℕ) → IfSome r (λ k. slice_get table k ≡ Some word) → IfNone r (IsIn table word → ⊥) → (is_some r ≡ true) ↔ IsIn table word
IsIn-from_place table word (Some k) at none = (λ some. (k, at), λ is_in. refl)
IsIn-from_place table word None at none = (λ some. absurd (false≢true some), λ is_in. absurd (none is_in))

prefix_len-map : {X Y : Type 0} (p : Y → Bool) (f : X → Y) (xs : List X) → prefix_len (λ x. p (f x)) xs ≡ prefix_len p (map f xs)
prefix_len-map p f [] = refl
prefix_len-map p f (x ∷ xs) = ap (λ n. cond (p (f x)) (1 + n) 0) (prefix_len-map p f xs)

-- the place in the table is that of its bytes
pub position-texts : (table : List (Bor (List ℕ))) (word : List ℕ) → position (λ text. bytes_eq text.now word) table ≡ place_in (texts table) word
position-texts table word =
    let same = prefix_len-map (λ bytes. not (bytes_eq bytes word)) (λ (text : Bor (List ℕ)). text.now) table in
    let size = length-map table (λ text. text.now) in
    ap (λ n. cond (nat_lt n (length table)) (Some n) None) same ∙ ap (λ m. cond (nat_lt (prefix_len (λ bytes. not (bytes_eq bytes word)) (texts table)) m) (Some (prefix_len (λ bytes. not (bytes_eq bytes word)) (texts table))) None) (sym size)
