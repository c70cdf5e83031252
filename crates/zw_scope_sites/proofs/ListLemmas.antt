-- Lists that share their ends stay when links are added, and a label is open in one where a look-up finds it.
use Rattle.std.proofs.Common.{◌≡◌, ℕ, zero, suc, ◌≤◌, List, [], ◌∷◌, ◌++◌, Option, Some, None, MatchOption, Bor, Bool, true, false, ◌||◌, if◌then◌else◌, length, slice_get, refl, sym, ap, ◌∙◌, arith}
use Rattle.std.proofs.lemmas.Option.{slice_get_past, slice_get_read, slice_get_within}
use Rattle.std.specs.Option.{is_some, option_map}
use Rattle.std.specs.Slice.{IsItemAt}
use Rattle.std.specs.Str.{bytes_eq}
use Rattle.zw_scope_sites.specs.Lists.{IsList, at_end, at_link}
use Rattle.zw_scope_sites.specs.Scopes.{is_open, open_label}
use Rattle.zw_scope_sites.specs.declared.lists.OpenLabel.{OpenLabel}

module _ {L : Type 0} where
  pub got-kept : (xs ys : List L) (n : ℕ) (x : L) → slice_get xs n ≡ Some x → slice_get (xs ++ ys) n ≡ Some x
  got-kept [] ys n x h = absurd (cc)
  got-kept (z ∷ xs) ys zero x h = h
  got-kept (z ∷ xs) ys (suc n) x h = got-kept xs ys n x h

  pub got-last : (xs : List L) (x : L) → slice_get (xs ++ x ∷ []) (length xs) ≡ Some x
  got-last [] x = refl
  got-last (z ∷ xs) x = got-last xs x

  -- what a look-up at an index gives
  pub item-got : (xs : List L) (i : ℕ) (r : Option (Bor L)) → IsItemAt xs i r → slice_get xs i ≡ option_map (λ (l : Bor L). l.now) r
  item-got xs i None h = slice_get_past xs i h.3
  item-got xs i (Some l) h = slice_get_read xs (length xs) i l.now refl h.3.0 h.1

module _ {L T : Type 0} (item : L → T) (next : L → ℕ) where
  pub list-kept : (links more : List L) (head : ℕ) (ts : List T) → IsList item next links head ts → IsList item next (links ++ more) head ts
  list-kept links more _ _ at_end = at_end
  list-kept links more _ _ (at_link n l ts at le rest) = at_link n l ts (got-kept links more n l at) le (list-kept links more (next l) ts rest)

  pub list-within : (links : List L) (head : ℕ) (ts : List T) → IsList item next links head ts → head ≤ length links
  list-within links _ _ at_end = omega arith
  list-within links _ _ (at_link n l ts at le rest) = let within = slice_get_within links n l at in omega arith

  pub list-put : (links : List L) (l : L) (ts : List T) → IsList item next links (next l) ts → IsList item next (links ++ l ∷ []) (suc (length links)) (item l ∷ ts)
  list-put links l ts rest =
      at_link (length links) l ts (got-last links l) (list-within links (next l) ts rest) (list-kept links (l ∷ []) (next l) ts rest)

step-open : (l : OpenLabel) (ls : List OpenLabel) (name : List ℕ) (t : Bool) → bytes_eq l.name name ≡ t → open_label (l ∷ ls) name ≡ (if t then Some l else open_label ls name)
step-open l ls name t e = ap (λ (u : Bool). if u then Some l else open_label ls name) e

none-by : (l : OpenLabel) (ls : List OpenLabel) (name : List ℕ) (t : Bool) → bytes_eq l.name name ≡ t → open_label (l ∷ ls) name ≡ None → (open_label ls name ≡ None → is_open ls name ≡ false) → (bytes_eq l.name name || is_open ls name) ≡ false
none-by l ls name true e h rest = let found = step-open l ls name true e in absurd (cc)
none-by l ls name false e h rest = rw e (rest (sym (step-open l ls name false e) ∙ h))

open-none : (ls : List OpenLabel) (name : List ℕ) → open_label ls name ≡ None → is_open ls name ≡ false
open-none [] name h = refl
open-none (l ∷ ls) name h = none-by l ls name (bytes_eq l.name name) refl h (open-none ls name)

some-by : (l found : OpenLabel) (ls : List OpenLabel) (name : List ℕ) (t : Bool) → bytes_eq l.name name ≡ t → open_label (l ∷ ls) name ≡ Some found → (open_label ls name ≡ Some found → is_open ls name ≡ true) → (bytes_eq l.name name || is_open ls name) ≡ true
some-by l found ls name true e h rest = rw e refl
some-by l found ls name false e h rest = rw e (rest (sym (step-open l ls name false e) ∙ h))

open-some : (ls : List OpenLabel) (name : List ℕ) (found : OpenLabel) → open_label ls name ≡ Some found → is_open ls name ≡ true
open-some [] name found h = absurd (cc)
open-some (l ∷ ls) name found h = some-by l found ls name (bytes_eq l.name name) refl h (open-some ls name found)

-- a label is open where a look-up finds it
pub open-found : {X : Type 0} (label_of : X → OpenLabel) (o : Option X) (ls : List OpenLabel) (name : List ℕ) → MatchOption o (open_label ls name ≡ None) (λ x. open_label ls name ≡ Some (label_of x)) → is_some o ≡ is_open ls name
open-found label_of None ls name h = sym (open-none ls name h)
open-found label_of (Some x) ls name h = sym (open-some ls name (label_of x) h)
