-- Names that differ, in lists of them.
use Rattle.std.proofs.Common.{◌≡◌, ◌≢◌, ℕ, ◌+◌, ◌<◌, List, length, get_or, take, AllPairs, Contains, sym, ◌∙◌, subst, arith}
use Rattle.std.proofs.lemmas.List.{length-take-le, get_or-take}
use Rattle.std.proofs.lemmas.List.Elements.{Contains-get_or}
use Rattle.std.proofs.lemmas.List.Quantifiers.{all_pairs_push}
use Rattle.zw_form.proofs.Items.{take-item}

-- names that differ, as far as a loop has come
pub AllPairs-item : (xs : List (List ℕ)) (i : ℕ) (x : List ℕ) → i < length xs → x ≡ get_or xs i x → AllPairs (λ y z. y ≢ z) (take i xs) → (Contains (take i xs) x → ⊥) → AllPairs (λ y z. y ≢ z) (take (i + 1) xs)
AllPairs-item xs i x within is differ new =
    subst (AllPairs (λ y z. y ≢ z)) (sym (take-item xs i x within is))
    (all_pairs_push (λ y z. y ≢ z) (take i xs) x differ (λ k d w e. new (subst (Contains (take i xs)) e (Contains-get_or (take i xs) k d w))))

-- a name that stands further in front too
pub AllPairs-doubled : (xs : List (List ℕ)) (i : ℕ) (x : List ℕ) → i < length xs → x ≡ get_or xs i x → Contains (take i xs) x → AllPairs (λ y z. y ≢ z) xs → ⊥
AllPairs-doubled xs i x within is there differ =
    let before : there.0 < i = omega (arith, length-take-le i xs (omega arith)) in
    differ there.0 i x before within (sym (get_or-take i xs there.0 x before) ∙ there.2 ∙ is)
