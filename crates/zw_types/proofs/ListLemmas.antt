-- What lists of types lack in the library.
use Rattle.std.specs.Prelude.{◌≡◌, ◌≢◌, ℕ, zero, suc, ◌<◌, List, [], ◌∷◌, ◌++◌, length, slice_get, slice_index_or, slice_set, Some, refl, AllPairs, ◌⊎◌}
use Rattle.std.proofs.Common.{sym, ap, arith, inl, inr}

pub slice_get_append_left : {X : Type 0} (xs ys : List X) (k : ℕ) (x : X) → slice_get xs k ≡ Some x → slice_get (xs ++ ys) k ≡ Some x
slice_get_append_left [] ys k x h = cc
slice_get_append_left (y ∷ xs) ys zero x h = h
slice_get_append_left (y ∷ xs) ys (suc k) x h = slice_get_append_left xs ys k x h

pub slice_get_push : {X : Type 0} (xs : List X) (x : X) → slice_get (xs ++ x ∷ []) (length xs) ≡ Some x
slice_get_push [] x = refl
slice_get_push (y ∷ xs) x = slice_get_push xs x

-- an element behind a pushed one was there, or is the pushed one
pub slice_get_push_cases : {X : Type 0} (xs : List X) (x y : X) (k : ℕ) → slice_get (xs ++ x ∷ []) k ≡ Some y → (slice_get xs k ≡ Some y) ⊎ ((k ≡ length xs) × (x ≡ y))
slice_get_push_cases [] x y zero h = inr (refl, cc)
slice_get_push_cases [] x y (suc k) h = cc
slice_get_push_cases (z ∷ xs) x y zero h = inl h
slice_get_push_cases (z ∷ xs) x y (suc k) h = elim (slice_get_push_cases xs x y k h) [ inl e ↦ inl e | inr e ↦ inr (ap suc e.0, e.1) ]

pub slice_get_set : {X : Type 0} (xs : List X) (k : ℕ) (x : X) → k < length xs → slice_get (slice_set xs k x) k ≡ Some x
slice_get_set [] k x h = absurd (omega arith)
slice_get_set (y ∷ xs) zero x h = refl
slice_get_set (y ∷ xs) (suc k) x h = slice_get_set xs k x (omega arith)

pub slice_get_set_other : {X : Type 0} (xs : List X) (k j : ℕ) (x : X) → k ≢ j → slice_get (slice_set xs k x) j ≡ slice_get xs j
slice_get_set_other [] k j x h = refl
slice_get_set_other (y ∷ xs) zero zero x h = absurd (h refl)
slice_get_set_other (y ∷ xs) zero (suc j) x h = refl
slice_get_set_other (y ∷ xs) (suc k) zero x h = refl
slice_get_set_other (y ∷ xs) (suc k) (suc j) x h = slice_get_set_other xs k j x (λ e. h (ap suc e))

-- a number stands in two places of a list without repetition only where these are one
pub one_place : {X : Type 0} (xs : List X) (d : X) → AllPairs (λ a b. a ≢ b) xs → (i j : ℕ) → i < length xs → j < length xs → slice_index_or xs i d ≡ slice_index_or xs j d → i ≡ j
one_place xs d once i j h k e = omega (arith, λ (l : i < j). once i j d l k e, λ (l : j < i). once j i d l h (sym e))
