-- Whether two types, or two values, are the same: definitions that go by cases on it can be computed.
use Rattle.std.specs.Prelude.{◌≡◌, ℕ, zero, suc, List, [], ◌∷◌, Option, Some, None, refl}
use Rattle.std.proofs.Math.Bool.{Bool-discrete}
use Rattle.std.proofs.Math.Decide.{ℕ_discrete}
use Rattle.std.proofs.Math.IntN.{ℤ_discrete}
use Rattle.zw_types.specs.TypeTrees as tree
use Rattle.zw_types.specs.TypeTrees.{TypeTree}

-- two lists are the same or not, where two elements are
pub list_discrete : {A : Type 0} → Discrete A → Discrete (List A)
list_discrete d [] [] = yes refl
list_discrete d [] (y ∷ ys) = no (λ e. cc)
list_discrete d (x ∷ xs) [] = no (λ e. cc)
list_discrete d (x ∷ xs) (y ∷ ys) = of_parts (d x y) (list_discrete d xs ys)
  where
    of_parts : Dec (x ≡ y) → Dec (xs ≡ ys) → Dec (x ∷ xs ≡ y ∷ ys)
    of_parts (yes p) (yes q) = yes (cc)
    of_parts (no p) q = no (λ e. p (cc))
    of_parts (yes p) (no q) = no (λ e. q (cc))

-- the same of two options
pub option_discrete : {A : Type 0} → Discrete A → Discrete (Option A)
option_discrete d None None = yes refl
option_discrete d None (Some y) = no (λ e. cc)
option_discrete d (Some x) None = no (λ e. cc)
option_discrete d (Some x) (Some y) = of_part (d x y)
  where
    of_part : Dec (x ≡ y) → Dec (Some x ≡ Some y)
    of_part (yes p) = yes (cc)
    of_part (no p) = no (λ e. p (cc))

pub same_type : Discrete TypeTree
same_type = tree.same_tree Bool-discrete ℕ_discrete (list_discrete ℕ_discrete) (option_discrete ℕ_discrete) (list_discrete Bool-discrete) ℤ_discrete

-- the place of a type in a list, or the list's length where it isn't there
unfoldable pub place_of : TypeTree → List TypeTree → ℕ
place_of t [] = zero
place_of t (x ∷ xs) = elim (same_type t x) [ yes _ ↦ zero | no _ ↦ suc (place_of t xs) ]
