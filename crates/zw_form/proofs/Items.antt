-- Loops over a list, item by item.
use Rattle.std.proofs.Common.{◌≡◌, ℕ, ◌+◌, ◌<◌, ◌≤◌, List, [], ◌∷◌, ◌++◌, length, get_or, take, map, All, AllPairs, Contains, append-nil, sym, ap, ◌∙◌, refl, subst, suc, zero, arith}
use Rattle.std.specs.List.{flat_map}
use Rattle.std.proofs.lemmas.List.{take_more, take_all, map_push, length-map}
use Rattle.std.proofs.lemmas.List.Concat.{flat_map-append}
use Rattle.std.proofs.lemmas.List.Elements.{All-push, All-append, All-contains}

module _ {X : Type 0} (xs : List X) (i : ℕ) where
  pub take-whole : length xs ≤ i → take i xs ≡ xs
  take-whole past = take_all i xs past

  pub All-whole : (P : X → Type 0) → length xs ≤ i → All P (take i xs) → All P xs
  All-whole P past all = subst (All P) (take-whole past) all

  module _ (x : X) (within : i < length xs) (is : x ≡ get_or xs i x) where
    pub take-item : take (i + 1) xs ≡ take i xs ++ x ∷ []
    take-item = take_more xs i x within ∙ ap (λ y. take i xs ++ y ∷ []) (sym is)

    pub Contains-item : Contains xs x
    Contains-item = (i, within, sym is)

    pub All-item : (P : X → Type 0) → All P (take i xs) → P x → All P (take (i + 1) xs)
    All-item P before here = subst (All P) (sym take-item) (All-push P (take i xs) x before here)

    pub All-at_item : (P : X → Type 0) → All P xs → P x
    All-at_item P all = All-contains P xs x all Contains-item

    pub map-item : {Y : Type 0} (f : X → Y) (ys : List Y) (y : Y) → ys ≡ map f (take i xs) → y ≡ f x → ys ++ y ∷ [] ≡ map f (take (i + 1) xs)
    map-item f ys y before here = (λ j. before j ++ here j ∷ []) ∙ sym (map_push f (take i xs) x) ∙ ap (map f) (sym take-item)

    pub flat_map-item : {Y : Type 0} (f : X → List Y) → flat_map f (take (i + 1) xs) ≡ flat_map f (take i xs) ++ f x
    flat_map-item f =
        ap (flat_map f) take-item ∙ flat_map-append f (take i xs) (x ∷ []) ∙ ap (λ ys. flat_map f (take i xs) ++ ys) (append-nil (f x))

    -- a loop that takes what f gives of each item: nothing, or what holds P
    pub flat_map-same : {Y : Type 0} (f : X → List Y) → f x ≡ [] → flat_map f (take (i + 1) xs) ≡ flat_map f (take i xs)
    flat_map-same f none = flat_map-item f ∙ ap (λ ys. flat_map f (take i xs) ++ ys) none ∙ append-nil (flat_map f (take i xs))

    pub All-flat_map : {Y : Type 0} (f : X → List Y) (P : Y → Type 0) → All P (flat_map f (take i xs)) → All P (f x) → All P (flat_map f (take (i + 1) xs))
    All-flat_map f P before here = subst (All P) (sym (flat_map-item f)) (All-append P (flat_map f (take i xs)) (f x) before here)

-- the items of a list that a function maps
get_or-map : {X Y : Type 0} (f : X → Y) (xs : List X) (i : ℕ) (d : X) → get_or (map f xs) i (f d) ≡ f (get_or xs i d)
get_or-map f [] i d = refl
get_or-map f (x ∷ xs) zero d = refl
get_or-map f (x ∷ xs) (suc i) d = get_or-map f xs i d

module _ {X Y : Type 0} (f : X → Y) (xs : List X) (i : ℕ) where
  pub within-map : i < length xs → i < length (map f xs)
  within-map within = let size = length-map xs f in omega arith

  pub past-map : length xs ≤ i → length (map f xs) ≤ i
  past-map past = let size = length-map xs f in omega arith

  pub is-map : (x : X) (y : Y) → x ≡ get_or xs i x → y ≡ f x → y ≡ get_or (map f xs) i y
  is-map x y is named =
      subst (λ z. z ≡ get_or (map f xs) i z) (sym named) (ap f is ∙ sym (get_or-map f xs i x))

-- what differs from all behind it, and they from each other
module _ {X : Type 0} (R : X → X → Type 0) (x : X) (xs : List X) (pairs : AllPairs R (x ∷ xs)) where
  pub AllPairs-head : All (R x) xs
  AllPairs-head k d within = pairs 0 (suc k) d (omega arith) (omega arith)

  pub AllPairs-tail : AllPairs R xs
  AllPairs-tail i j d before within = pairs (suc i) (suc j) d (omega arith) (omega arith)
