-- The names of a list, each once, in the order in which they first come.
use Rattle.std.proofs.Common.{◌≡◌, ◌≢◌, ℕ, ◌+◌, ◌<◌, ◌≤◌, Bool, true, false, ◌||◌, if◌then◌else◌, List, [], ◌∷◌, ◌++◌, length, get_or, take, MatchBool, All, AllPairs, Contains, refl, sym, ap, ◌∙◌, subst, append-nil, append_assoc}
use Rattle.std.specs.List.{list_any}
use Rattle.std.specs.Str.{bytes_eq}
use Rattle.std.proofs.lemmas.List.Elements.{All-head, All-tail}
use Rattle.std.proofs.lemmas.List.Folds.{list_any-append}
use Rattle.zw_form.specs.Programs.{first_of_each}
use Rattle.zw_form.proofs.Items.{take-item, take-whole, AllPairs-head, AllPairs-tail}
use Rattle.zw_names.proofs.SetLemmas.{same_bytes, bytes_eq-apart, Contains-any, any-Contains, any-absent}

or_swap : (a b c : Bool) → (a || (b || c)) ≡ (b || (a || c))
or_swap true true c = refl
or_swap true false c = refl
or_swap false true c = refl
or_swap false false c = refl

or_flip : (a b : Bool) → (a || b) ≡ (b || a)
or_flip true true = refl
or_flip true false = refl
or_flip false true = refl
or_flip false false = refl

-- it matters which names are seen, and not in which order
pub first_of_each-seen : (seen other xs : List (List ℕ)) → ((x : List ℕ) → list_any (bytes_eq x) seen ≡ list_any (bytes_eq x) other) → first_of_each seen xs ≡ first_of_each other xs
first_of_each-seen seen other [] same = refl
first_of_each-seen seen other (x ∷ xs) same =
    let rest = first_of_each-seen seen other xs same in
    let more = first_of_each-seen (x ∷ seen) (x ∷ other) xs (λ y. ap (λ b. bytes_eq y x || b) (same y)) in
    λ i. if same x i then rest i else x ∷ more i

module _ (seen xs : List (List ℕ)) (x : List ℕ) where
  first_of_each-old : list_any (bytes_eq x) seen ≡ true → first_of_each seen (x ∷ xs) ≡ first_of_each seen xs
  first_of_each-old e = ap (λ b. if b then first_of_each seen xs else x ∷ first_of_each (x ∷ seen) xs) e

  first_of_each-new : list_any (bytes_eq x) seen ≡ false → first_of_each seen (x ∷ xs) ≡ x ∷ first_of_each (x ∷ seen) xs
  first_of_each-new e = ap (λ b. if b then first_of_each seen xs else x ∷ first_of_each (x ∷ seen) xs) e

-- the names of two lists: those of the first, and of the second those that the first doesn't have
abbrev Splits : List (List ℕ) → List (List ℕ) → List (List ℕ) → Type 0
Splits seen xs ys = first_of_each seen (xs ++ ys) ≡ first_of_each seen xs ++ first_of_each (first_of_each seen xs ++ seen) ys

first_of_each-append : (seen xs ys : List (List ℕ)) → Splits seen xs ys
first_of_each-append seen [] ys = refl
first_of_each-append seen (x ∷ xs) ys = by (list_any (bytes_eq x) seen) refl (first_of_each-append seen xs ys) (first_of_each-append (x ∷ seen) xs ys)
  where
    by : (b : Bool) → list_any (bytes_eq x) seen ≡ b → Splits seen xs ys → Splits (x ∷ seen) xs ys → Splits seen (x ∷ xs) ys
    by true e rest more =
        first_of_each-old seen (xs ++ ys) x e ∙ rest ∙ ap (λ firsts. firsts ++ first_of_each (firsts ++ seen) ys) (sym (first_of_each-old seen xs x e))
    by false e rest more =
        let firsts = first_of_each (x ∷ seen) xs in
        let same : first_of_each (firsts ++ x ∷ seen) ys ≡ first_of_each (x ∷ (firsts ++ seen)) ys =
        first_of_each-seen (firsts ++ x ∷ seen) (x ∷ (firsts ++ seen)) ys
        (λ y. list_any-append (bytes_eq y) firsts (x ∷ seen) ∙ or_swap (list_any (bytes_eq y) firsts) (bytes_eq y x) (list_any (bytes_eq y) seen) ∙ ap (λ b. bytes_eq y x || b) (sym (list_any-append (bytes_eq y) firsts seen))) in
        first_of_each-new seen (xs ++ ys) x e
        ∙ ap (λ l. x ∷ l) (more ∙ ap (λ l. firsts ++ l) same)
        ∙ ap (λ l. l ++ first_of_each (l ++ seen) ys) (sym (first_of_each-new seen xs x e))

-- one more name of a list
first_of_each-push : (seen xs : List (List ℕ)) (x : List ℕ) → first_of_each seen (xs ++ x ∷ []) ≡ first_of_each seen xs ++ first_of_each (seen ++ first_of_each seen xs) (x ∷ [])
first_of_each-push seen xs x =
    let firsts = first_of_each seen xs in
    first_of_each-append seen xs (x ∷ [])
    ∙ ap (λ l. firsts ++ l)
    (first_of_each-seen (firsts ++ seen) (seen ++ firsts) (x ∷ [])
    (λ y. list_any-append (bytes_eq y) firsts seen ∙ or_flip (list_any (bytes_eq y) firsts) (list_any (bytes_eq y) seen) ∙ sym (list_any-append (bytes_eq y) seen firsts)))

-- one more name that is put into a set
pub first_of_each-insert : (seen set set' xs : List (List ℕ)) (x : List ℕ) (is_new : Bool) → set ≡ seen ++ first_of_each seen xs
    → MatchBool is_new ((set' ≡ set ++ x ∷ []) × (Contains set x → ⊥)) ((set' ≡ set) × Contains set x) → set' ≡ seen ++ first_of_each seen (xs ++ x ∷ [])
first_of_each-insert seen set set' xs x true before put =
    let firsts = first_of_each seen xs in
    let none = any-absent x (seen ++ firsts) (subst (λ s. Contains s x → ⊥) before put.1) in
    put.0 ∙ ap (λ s. s ++ x ∷ []) before ∙ append_assoc seen firsts (x ∷ [])
    ∙ ap (λ l. seen ++ l) (ap (λ l. firsts ++ l) (sym (first_of_each-new (seen ++ firsts) [] x none)) ∙ sym (first_of_each-push seen xs x))
first_of_each-insert seen set set' xs x false before put =
    let firsts = first_of_each seen xs in
    let found = any-Contains x (seen ++ firsts) (subst (λ s. Contains s x) before put.1) in
    put.0 ∙ before
    ∙ ap (λ l. seen ++ l) (sym (append-nil firsts) ∙ ap (λ l. firsts ++ l) (sym (first_of_each-old (seen ++ firsts) [] x found)) ∙ sym (first_of_each-push seen xs x))

pub first_of_each-item : (seen set set' xs : List (List ℕ)) (i : ℕ) (x : List ℕ) (is_new : Bool) → i < length xs → x ≡ get_or xs i x → set ≡ seen ++ first_of_each seen (take i xs)
    → MatchBool is_new ((set' ≡ set ++ x ∷ []) × (Contains set x → ⊥)) ((set' ≡ set) × Contains set x) → set' ≡ seen ++ first_of_each seen (take (i + 1) xs)
first_of_each-item seen set set' xs i x is_new within is before put =
    first_of_each-insert seen set set' (take i xs) x is_new before put ∙ ap (λ l. seen ++ first_of_each seen l) (sym (take-item xs i x within is))

-- names that are put into a set behind others
pub first_of_each-more : (set set' xs ys : List (List ℕ)) → set ≡ first_of_each [] xs → set' ≡ set ++ first_of_each set ys → set' ≡ first_of_each [] (xs ++ ys)
first_of_each-more set set' xs ys before put =
    put ∙ ap (λ l. l ++ first_of_each l ys) before ∙ ap (λ l. first_of_each [] xs ++ first_of_each l ys) (sym (append-nil (first_of_each [] xs))) ∙ sym (first_of_each-append [] xs ys)

pub first_of_each-whole : (seen set xs : List (List ℕ)) (i : ℕ) → length xs ≤ i → set ≡ seen ++ first_of_each seen (take i xs) → set ≡ seen ++ first_of_each seen xs
first_of_each-whole seen set xs i past before = before ∙ ap (λ l. seen ++ first_of_each seen l) (take-whole xs i past)

-- a name is among them or seen exactly if it is in the list or seen
or_known : (a b c : Bool) → (a ≡ true → c ≡ true) → (b || c) ≡ ((a || b) || c)
or_known true true c known = refl
or_known true false c known = known refl
or_known false b c known = refl

or_turn : (a b c : Bool) → ((a || b) || c) ≡ (b || (a || c))
or_turn true true c = refl
or_turn true false c = refl
or_turn false b c = refl

or_none : (a : Bool) → (a || false) ≡ a
or_none true = refl
or_none false = refl

abbrev KeepsAny : List ℕ → List (List ℕ) → List (List ℕ) → Type 0
KeepsAny q seen xs = (list_any (bytes_eq q) (first_of_each seen xs) || list_any (bytes_eq q) seen) ≡ (list_any (bytes_eq q) xs || list_any (bytes_eq q) seen)

first_of_each-any : (q : List ℕ) (seen xs : List (List ℕ)) → KeepsAny q seen xs
first_of_each-any q seen [] = refl
first_of_each-any q seen (x ∷ xs) = by (list_any (bytes_eq x) seen) refl (first_of_each-any q seen xs) (first_of_each-any q (x ∷ seen) xs)
  where
    by : (b : Bool) → list_any (bytes_eq x) seen ≡ b → KeepsAny q seen xs → KeepsAny q (x ∷ seen) xs → KeepsAny q seen (x ∷ xs)
    by true e rest more =
        ap (λ l. list_any (bytes_eq q) l || list_any (bytes_eq q) seen) (first_of_each-old seen xs x e) ∙ rest
        ∙ or_known (bytes_eq q x) (list_any (bytes_eq q) xs) (list_any (bytes_eq q) seen) (λ same. ap (λ y. list_any (bytes_eq y) seen) (same_bytes q x same) ∙ e)
    by false e rest more =
        ap (λ l. list_any (bytes_eq q) l || list_any (bytes_eq q) seen) (first_of_each-new seen xs x e)
        ∙ or_turn (bytes_eq q x) (list_any (bytes_eq q) (first_of_each (x ∷ seen) xs)) (list_any (bytes_eq q) seen) ∙ more
        ∙ sym (or_turn (bytes_eq q x) (list_any (bytes_eq q) xs) (list_any (bytes_eq q) seen))

module _ (q : List ℕ) (xs : List (List ℕ)) where
  same_any : list_any (bytes_eq q) (first_of_each [] xs) ≡ list_any (bytes_eq q) xs
  same_any = sym (or_none (list_any (bytes_eq q) (first_of_each [] xs))) ∙ first_of_each-any q [] xs ∙ or_none (list_any (bytes_eq q) xs)

  pub Contains-from_first : Contains (first_of_each [] xs) q → Contains xs q
  Contains-from_first there = Contains-any q xs (sym same_any ∙ any-Contains q (first_of_each [] xs) there)

  pub Contains-first : Contains xs q → Contains (first_of_each [] xs) q
  Contains-first there = Contains-any q (first_of_each [] xs) (same_any ∙ any-Contains q xs there)

-- names that differ are each the first
first_of_each-unseen : (seen xs : List (List ℕ)) → AllPairs (λ x y. x ≢ y) xs → All (λ (x : List ℕ). list_any (bytes_eq x) seen ≡ false) xs → first_of_each seen xs ≡ xs
first_of_each-unseen seen [] differ new = refl
first_of_each-unseen seen (x ∷ xs) differ new =
    first_of_each-new seen xs x (All-head (λ (y : List ℕ). list_any (bytes_eq y) seen ≡ false) x xs new)
    ∙ ap (λ l. x ∷ l)
    (first_of_each-unseen (x ∷ seen) xs (AllPairs-tail (λ y z. y ≢ z) x xs differ)
    (λ k d within.
    let apart = AllPairs-head (λ y z. y ≢ z) x xs differ k d within in
    let none = All-tail (λ (y : List ℕ). list_any (bytes_eq y) seen ≡ false) x xs new k d within in
    apart_bytes (get_or xs k d) x (λ same. apart (sym same)) (list_any (bytes_eq (get_or xs k d)) seen) none))
  where
    apart_bytes : (y x : List ℕ) → y ≢ x → (b : Bool) → b ≡ false → (bytes_eq y x || b) ≡ false
    apart_bytes y x apart b none = ap (λ c. c || b) (bytes_eq-apart y x apart) ∙ none

pub first_of_each-differ : (xs : List (List ℕ)) → AllPairs (λ x y. x ≢ y) xs → first_of_each [] xs ≡ xs
first_of_each-differ xs differ = first_of_each-unseen [] xs differ (λ k d within. refl)
