-- What is read of a list in parts.
use Rattle.std.proofs.Common.{◌≡◌, ℕ, zero, suc, ◌+◌, ◌<◌, List, [], ◌∷◌, ◌++◌, length, replicate, Some, refl, ap, arith}
use Rattle.std.specs.Prelude.{slice_get}

pub slice_get_front : {X : Type 0} (xs ys : List X) (i : ℕ) → i < length xs → slice_get (xs ++ ys) i ≡ slice_get xs i
slice_get_front [] ys i inside = absurd (omega arith)
slice_get_front (x ∷ xs) ys zero inside = refl
slice_get_front (x ∷ xs) ys (suc i) inside = slice_get_front xs ys i (omega arith)

pub slice_get_back : {X : Type 0} (xs ys : List X) (i j : ℕ) → i ≡ length xs + j → slice_get (xs ++ ys) i ≡ slice_get ys j
slice_get_back [] ys i j at = let same : i ≡ j = omega arith in ap (slice_get ys) same
slice_get_back (x ∷ xs) ys zero j at = absurd (omega arith)
slice_get_back (x ∷ xs) ys (suc i) j at = slice_get_back xs ys i j (omega arith)

pub slice_get-replicate : {X : Type 0} (n i : ℕ) (x : X) → i < n → slice_get (replicate n x) i ≡ Some x
slice_get-replicate zero i x inside = absurd (omega arith)
slice_get-replicate (suc n) zero x inside = refl
slice_get-replicate (suc n) (suc i) x inside = slice_get-replicate n i x (omega arith)
