-- What the rows say is what the first one says that isn't for other types.
use Rattle.std.specs.Prelude.{◌≡◌, refl, ℕ, zero, suc, ◌+◌, ◌<◌, List, [], ◌∷◌, slice_get, Option, Some, Result, Ok, Err}
use Rattle.std.proofs.Common.{sym, ◌∙◌, ap, arith}
use Rattle.zw_types.specs.TypeTrees.{TypeTree, ValueTree}
use Rattle.zw_values.specs.Coercions.{Row, Applies, Refuses, IsForOthers, by_rows}
use Rattle.zw_coerce.specs.FirstRows.{Rule, IsFirstIn}

module _ (from : TypeTree) (known : Option ValueTree) (to : TypeTree) (number : ℕ) where
  -- what a row says, and what those behind it say
  abbrev told : List Rule → ℕ → Row → Result ℕ ℕ
  told more n r = elim r [ Applies ↦ Ok n | Refuses error ↦ Err error | IsForOthers ↦ by_rows more (n + 1) from known to ]

  same_rule : (a b : Rule) → Some a ≡ Some b → a ≡ b
  same_rule a b h = cc

  same_number : (n : ℕ) → (let a : Result ℕ ℕ = Ok n in a) ≡ Ok number → number ≡ n
  same_number n h = cc

  before_none : (row : Rule) (more : List Rule) (place : ℕ) → place ≡ 0 → (k : ℕ) (other : Rule) → k < place → slice_get (row ∷ more) k ≡ Some other → other from known to ≡ IsForOthers
  before_none row more place z k other l h = absurd (omega arith)

  before_next : (row : Rule) (more : List Rule) (place : ℕ) → row from known to ≡ IsForOthers → ((k : ℕ) (other : Rule) → k < place → slice_get more k ≡ Some other → other from known to ≡ IsForOthers) → (k : ℕ) (other : Rule) → k < suc place → slice_get (row ∷ more) k ≡ Some other → other from known to ≡ IsForOthers
  before_next row more place e each zero other l h = ap (λ (r : Rule). r from known to) (sym (same_rule row other h)) ∙ e
  before_next row more place e each (suc k) other l h = each k other (omega arith) h

  pub first_of_rows : (all : List Rule) (n : ℕ) → by_rows all n from known to ≡ Ok number → IsFirstIn all n from known to number
  first_of_rows [] n h = cc
  first_of_rows (row ∷ more) n h = at (row from known to) refl (first_of_rows more (n + 1)) h
    where
      at : (r : Row) → row from known to ≡ r → (by_rows more (n + 1) from known to ≡ Ok number → IsFirstIn more (n + 1) from known to number) → told more n r ≡ Ok number → IsFirstIn (row ∷ more) n from known to number
      at Applies e behind h = record { place = 0; row = row; counted = omega (arith, same_number n h); stands = refl; applies = e; others_before = before_none row more 0 refl }
      at (Refuses error) e behind h = cc
      at IsForOthers e behind h =
          let found = behind h in
          record { place = suc found.place; row = found.row; counted = omega (arith, found.counted); stands = found.stands; applies = found.applies; others_before = before_next row more found.place e found.others_before }

  pub rows_of_first : (all : List Rule) (n place : ℕ) (row : Rule) → number ≡ n + place → slice_get all place ≡ Some row → row from known to ≡ Applies → ((k : ℕ) (other : Rule) → k < place → slice_get all k ≡ Some other → other from known to ≡ IsForOthers) → by_rows all n from known to ≡ Ok number
  rows_of_first [] n place row counted stands applies before = cc
  rows_of_first (first ∷ more) n zero row counted stands applies before =
      ap (told more n) (ap (λ (r : Rule). r from known to) (same_rule first row stands) ∙ applies) ∙ ap Ok (omega (arith, counted))
  rows_of_first (first ∷ more) n (suc place) row counted stands applies before =
      ap (told more n) (before 0 first (omega arith) refl)
      ∙ rows_of_first more (n + 1) place row (omega (arith, counted)) stands applies (λ k other l h. before (suc k) other (omega arith) h)
