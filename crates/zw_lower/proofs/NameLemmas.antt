-- Lists of names: when names are the same, a name's number, and each name once.
use Rattle.std.proofs.Common.{◌≡◌, ◌≢◌, ◌⊎◌, inl, inr, ℕ, suc, ◌<◌, Bool, true, false, cond, List, [], ◌∷◌, length, Some, All, Contains, refl, sym, ap, subst, arith}
use Rattle.std.specs.Prelude.{slice_get}
use Rattle.std.specs.List.{list_any}
use Rattle.std.specs.Str.{bytes_eq}
use Rattle.std.proofs.lemmas.Bool.{cond_both, false_from_ne_true}
use Rattle.std.proofs.lemmas.List.Elements.{All-cons, All-head, All-tail}
use Rattle.std.proofs.lemmas.Map.Views.{Contains-from_any}
use Rattle.std.proofs.lemmas.Option.{slice_get_within}
use Rattle.std.proofs.lemmas.Slice.Eq.{bytes_eq-Decides}
use Rattle.zw_names.specs.NameSets.{number_in}
use Rattle.zw_form.specs.Programs.{first_of_each}
use Rattle.zw_lower.proofs.ListLemmas.{Contains-cases, Contains-head, Contains-tail}

-- ---- names that are the same

pub same_name : (x y : List ℕ) → bytes_eq x y ≡ true → x ≡ y
same_name x y = (bytes_eq-Decides x y).0

pub is_name : (x y : List ℕ) → x ≡ y → bytes_eq x y ≡ true
is_name x y = (bytes_eq-Decides x y).1

pub other_name : (x y : List ℕ) → x ≢ y → bytes_eq x y ≡ false
other_name x y h = false_from_ne_true (bytes_eq x y) (λ e. h (same_name x y e))

pub differ_too : (x y : List ℕ) → bytes_eq x y ≡ false → bytes_eq y x ≡ false
differ_too x y h = other_name y x (λ e. let same : bytes_eq x y ≡ true = is_name x y (sym e) in absurd (cc))

-- ---- a name's number

-- a name that isn't the first one stands behind it
pub contains_other : (other : List ℕ) (names : List (List ℕ)) (name : List ℕ) → bytes_eq other name ≡ false → Contains (other ∷ names) name → Contains names name
contains_other other names name differ h =
    elim (Contains-cases other names name h) [
      | inl same ↦ let equal : bytes_eq other name ≡ true = is_name other name same in absurd (cc)
      | inr behind ↦ behind
    ]

-- the name with a name's number is that name
pub number_is : (names : List (List ℕ)) (name : List ℕ) → Contains names name → slice_get names (number_in names name) ≡ Some name
number_is [] name h = absurd (omega (arith, h.1))
number_is (other ∷ names) name h =
    cond_both (bytes_eq other name) 0 (suc (number_in names name)) (λ n. slice_get (other ∷ names) n ≡ Some name)
    (λ e. ap (λ (x : List ℕ). Some x) (same_name other name e))
    (λ e. number_is names name (contains_other other names name e h))

-- a name that is there has a number below the list's length
pub number_in-below : (names : List (List ℕ)) (name : List ℕ) → Contains names name → number_in names name < length names
number_in-below names name h = slice_get_within names (number_in names name) name (number_is names name h)

-- ---- each name once

-- a name among them is seen or is kept
kept_or_seen_at : (b : Bool) (seen names : List (List ℕ)) (n x : List ℕ) → list_any (bytes_eq n) seen ≡ b → (Contains names x → Contains seen x ⊎ Contains (first_of_each seen names) x) → (Contains names x → Contains (n ∷ seen) x ⊎ Contains (first_of_each (n ∷ seen) names) x) → Contains (n ∷ names) x → Contains seen x ⊎ Contains (cond b (first_of_each seen names) (n ∷ first_of_each (n ∷ seen) names)) x
kept_or_seen_at true seen names n x e old new h =
    elim (Contains-cases n names x h) [
      | inl same ↦ inl (subst (λ (y : List ℕ). Contains seen y) same (Contains-from_any same_name n seen e))
      | inr behind ↦ old behind
    ]
kept_or_seen_at false seen names n x e old new h =
    let rest = first_of_each (n ∷ seen) names in
    let here : n ≡ x → Contains (n ∷ rest) x = λ same. subst (λ (y : List ℕ). Contains (n ∷ rest) y) same (Contains-head n rest) in
    elim (Contains-cases n names x h) [
      | inl same ↦ inr (here same)
      | inr behind ↦ elim (new behind) [
        | inl s ↦ elim (Contains-cases n seen x s) [ inl same ↦ inr (here same) | inr before ↦ inl before ]
        | inr kept ↦ inr (Contains-tail n rest x kept)
      ]
    ]

kept_or_seen : (seen names : List (List ℕ)) (x : List ℕ) → Contains names x → Contains seen x ⊎ Contains (first_of_each seen names) x
kept_or_seen seen [] x h = absurd (omega (arith, h.1))
kept_or_seen seen (n ∷ names) x h = kept_or_seen_at (list_any (bytes_eq n) seen) seen names n x refl (kept_or_seen seen names x) (kept_or_seen (n ∷ seen) names x) h

-- each name is kept once
pub name_is_kept : (names : List (List ℕ)) (x : List ℕ) → Contains names x → Contains (first_of_each [] names) x
name_is_kept names x h = elim (kept_or_seen [] names x h) [ inl seen ↦ absurd (omega (arith, seen.1)) | inr kept ↦ kept ]

-- and no other
kept_are_at : (b : Bool) (P : List ℕ → Type 0) (n : List ℕ) (old new : List (List ℕ)) → P n → All P old → All P new → All P (cond b old (n ∷ new))
kept_are_at true P n old new here olds news = olds
kept_are_at false P n old new here olds news = All-cons P n new here news

pub kept_are : (P : List ℕ → Type 0) (seen names : List (List ℕ)) → All P names → All P (first_of_each seen names)
kept_are P seen [] h = h
kept_are P seen (n ∷ names) h =
    let rest = All-tail P n names h in
    kept_are_at (list_any (bytes_eq n) seen) P n (first_of_each seen names) (first_of_each (n ∷ seen) names) (All-head P n names h) (kept_are P seen names rest) (kept_are P (n ∷ seen) names rest)
