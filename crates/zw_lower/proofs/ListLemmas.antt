-- General lemmas on lists: parts of joined lists, what a list contains, and the item at a place.
use Rattle.std.proofs.Common.{◌≡◌, ◌⊎◌, inl, inr, ℕ, zero, suc, ◌+◌, ◌<◌, Bool, true, List, [], ◌∷◌, ◌++◌, length, map, get_or, Some, All, Contains, refl, ap, ◌∙◌, subst, arith}
use Rattle.std.specs.Prelude.{slice_get}
use Rattle.std.specs.List.{AllByRecursion, flat_map, list_any}
use Rattle.std.specs.Option.{option_map}
use Rattle.std.proofs.lemmas.List.{length-map, get_or-map, take_at, drop_at}
use Rattle.std.proofs.lemmas.List.Elements.{All-nil, All-cons, All-head, All-tail, All-take, All-drop, All-append, All-get_or}
use Rattle.std.proofs.lemmas.List.Folds.{list_any_at}
use Rattle.std.proofs.lemmas.Option.{slice_get-map, slice_get_within, get_or_from_slice_get}

-- ---- parts of lists

pub All-left : {X : Type 0} (P : X → Type 0) (xs ys : List X) → All P (xs ++ ys) → All P xs
All-left {X} P xs ys h = subst (λ (zs : List X). All P zs) (take_at xs ys (length xs) refl) (All-take P (length xs) (xs ++ ys) h)

pub All-right : {X : Type 0} (P : X → Type 0) (xs ys : List X) → All P (xs ++ ys) → All P ys
All-right {X} P xs ys h = subst (λ (zs : List X). All P zs) (drop_at xs ys (length xs) refl) (All-drop P (length xs) (xs ++ ys) h)

-- what holds of each item of each list
pub All-parts : {X Y : Type 0} (P : Y → Type 0) (g : X → List Y) (xs : List X) → All P (flat_map g xs) → All (λ x. All P (g x)) xs
All-parts P g [] h = All-nil (λ x. All P (g x))
All-parts P g (x ∷ xs) h = All-cons (λ y. All P (g y)) x xs (All-left P (g x) (flat_map g xs) h) (All-parts P g xs (All-right P (g x) (flat_map g xs) h))

pub All-joined : {X Y : Type 0} (P : Y → Type 0) (g : X → List Y) (xs : List X) → All (λ x. All P (g x)) xs → All P (flat_map g xs)
All-joined P g [] h = All-nil P
All-joined P g (x ∷ xs) h = All-append P (g x) (flat_map g xs) (All-head (λ y. All P (g y)) x xs h) (All-joined P g xs (All-tail (λ y. All P (g y)) x xs h))

pub all-append : {X : Type 0} (P : X → Type 0) (xs ys : List X) → AllByRecursion P xs → AllByRecursion P ys → AllByRecursion P (xs ++ ys)
all-append P [] ys h k = k
all-append P (x ∷ xs) ys h k = (h.0, all-append P xs ys h.1 k)

-- ---- what a list contains

-- what is in a list is its first item or stands behind it
pub Contains-cases : {X : Type 0} (y : X) (ys : List X) (x : X) → Contains (y ∷ ys) x → (y ≡ x) ⊎ Contains ys x
Contains-cases y ys x (zero, below, is) = inl is
Contains-cases y ys x (suc k, below, is) = inr (k, omega (arith, below), is)

pub Contains-head : {X : Type 0} (x : X) (xs : List X) → Contains (x ∷ xs) x
Contains-head x xs = (0, omega arith, refl)

pub Contains-tail : {X : Type 0} (y : X) (xs : List X) (x : X) → Contains xs x → Contains (y ∷ xs) x
Contains-tail y xs x h = (suc h.0, omega (arith, h.1), h.2)

-- ---- the item at a place

-- what holds of all holds of what stands at a place
pub All-at : {X : Type 0} (P : X → Type 0) (xs : List X) (k : ℕ) (x : X) → All P xs → slice_get xs k ≡ Some x → P x
All-at P xs k x h is = subst P (get_or_from_slice_get xs k x x is) (All-get_or P xs k x (slice_get_within xs k x is) h)

pub slice_get-append_left : {X : Type 0} (xs ys : List X) (i : ℕ) → i < length xs → slice_get (xs ++ ys) i ≡ slice_get xs i
slice_get-append_left [] ys i h = absurd (omega (arith, h))
slice_get-append_left (x ∷ xs) ys zero h = refl
slice_get-append_left (x ∷ xs) ys (suc i) h = slice_get-append_left xs ys i (omega (arith, h))

pub slice_get-append_right : {X : Type 0} (xs ys : List X) (n i : ℕ) → n ≡ length xs → slice_get (xs ++ ys) (n + i) ≡ slice_get ys i
slice_get-append_right [] ys n i e = ap (slice_get ys) (omega (arith, e))
slice_get-append_right (x ∷ xs) ys n i e =
    let at : n + i ≡ suc (length xs + i) = omega (arith, e) in
    ap (slice_get (x ∷ (xs ++ ys))) at ∙ slice_get-append_right xs ys (length xs) i refl

pub slice_get-map_some : {X Y : Type 0} (f : X → Y) (xs : List X) (i : ℕ) (x : X) → slice_get xs i ≡ Some x → slice_get (map f xs) i ≡ Some (f x)
slice_get-map_some f xs i x is = slice_get-map f xs i ∙ ap (option_map f) is

-- one item settles a test of what the items become
pub list_any-map_at : {X Y : Type 0} (test : Y → Bool) (g : X → Y) (xs : List X) (k : ℕ) (d : X) → k < length xs → test (g (get_or xs k d)) ≡ true → list_any test (map g xs) ≡ true
list_any-map_at test g xs k d within e =
    list_any_at test (map g xs) k (g d) (omega (arith, within, length-map xs g)) (ap test (get_or-map g xs k d (g d) within) ∙ e)
