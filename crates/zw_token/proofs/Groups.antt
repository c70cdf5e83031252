-- The signs by their first byte.
use Rattle.std.proofs.Common.{◌≡◌, ℕ, zero, suc, ◌+◌, ◌-◌, ◌<◌, ◌≤◌, Bool, true, false, List, [], ◌∷◌, get_or, take, drop, Some, slice_get, sym, refl, ◌∙◌, subst, arith}
use Rattle.std.specs.Prelude.{◌&&◌, ◌||◌, nat_lt, nat_le}
use Rattle.std.specs.Borrow.{Bor}
use Rattle.std.specs.List.{list_all}
use Rattle.std.proofs.lemmas.Bool.{and_parts}
use Rattle.std.proofs.lemmas.Bool.Decides.{nat_tests}
use Rattle.std.proofs.lemmas.List.{get_or-take}
use Rattle.std.proofs.lemmas.List.Sums.{AllPass-from_list_all}
use Rattle.std.proofs.lemmas.Option.{none-some, same_Some}
use Rattle.zw_token.specs.declared.tables.TheConstants.{SIGN_GROUPS}
use Rattle.zw_token.specs.Tables.{texts, signs, sign_group, NoLongerFront}
use Rattle.zw_token.proofs.Fronts.{choose}

-- a part of a table has what the table has, from its place on
pub part_of : (table : List (Bor (List ℕ))) (from n k : ℕ) (bytes : List ℕ) → slice_get (texts (take n (drop from table))) k ≡ Some bytes → slice_get (texts table) (from + k) ≡ Some bytes
part_of [] zero zero k bytes at = absurd (none-some bytes at)
part_of [] zero (suc n) k bytes at = absurd (none-some bytes at)
part_of [] (suc from) zero k bytes at = absurd (none-some bytes at)
part_of [] (suc from) (suc n) k bytes at = absurd (none-some bytes at)
part_of (x ∷ table) zero zero k bytes at = absurd (none-some bytes at)
part_of (x ∷ table) zero (suc n) zero bytes at = at
part_of (x ∷ table) zero (suc n) (suc k) bytes at =
    let more = part_of table zero n k bytes at in
    let place : zero + suc k ≡ suc (zero + k) = omega arith in
    subst (λ m. slice_get (texts (x ∷ table)) m ≡ Some bytes) (sym place) more
part_of (x ∷ table) (suc from) n k bytes at =
    let more = part_of table from n k bytes at in
    let place : suc from + k ≡ suc (from + k) = omega arith in
    subst (λ m. slice_get (texts (x ∷ table)) m ≡ Some bytes) (sym place) more

pub in_part : (table : List (Bor (List ℕ))) (from n k : ℕ) (bytes : List ℕ) → k < n → slice_get (texts table) (from + k) ≡ Some bytes → slice_get (texts (take n (drop from table))) k ≡ Some bytes
in_part table from zero k bytes below at = absurd (omega arith)
in_part [] zero (suc n) k bytes below at = absurd (none-some bytes at)
in_part [] (suc from) (suc n) k bytes below at = absurd (none-some bytes at)
in_part (x ∷ table) zero (suc n) zero bytes below at = at
in_part (x ∷ table) zero (suc n) (suc k) bytes below at =
    let place : zero + suc k ≡ suc (zero + k) = omega arith in
    in_part table zero n k bytes (omega arith) (subst (λ m. slice_get (texts (x ∷ table)) m ≡ Some bytes) place at)
in_part (x ∷ table) (suc from) (suc n) k bytes below at =
    let place : suc from + k ≡ suc (from + k) = omega arith in
    in_part table from (suc n) k bytes below (subst (λ m. slice_get (texts (x ∷ table)) m ≡ Some bytes) place at)

-- each sign stands in the group of its first byte
in_group : ℕ → ℕ → Bool
in_group k first = nat_le (sign_group first).0 k && nat_lt k (sign_group first).1

all_grouped : ℕ → List (List ℕ) → Bool
all_grouped k [] = true
all_grouped k (s ∷ table) = in_group k (get_or s 0 0) && all_grouped (suc k) table

signs_grouped : all_grouped 0 signs ≡ true
unfolding all_grouped in_group
signs_grouped = refl

grouped : (table : List (List ℕ)) (from k : ℕ) (bytes : List ℕ) → all_grouped from table ≡ true → slice_get table k ≡ Some bytes → in_group (from + k) (get_or bytes 0 0) ≡ true
unfolding all_grouped
grouped [] from k bytes all at = absurd (none-some bytes at)
grouped (s ∷ table) from zero bytes all at =
    let place : from + zero ≡ from = omega arith in
    subst (λ m. in_group m (get_or bytes 0 0) ≡ true) (sym place) (subst (λ b. in_group from (get_or b 0 0) ≡ true) (same_Some _ _ at) (and_parts _ _ all).0)
grouped (s ∷ table) from (suc k) bytes all at =
    let place : suc from + k ≡ from + suc k = omega arith in
    subst (λ m. in_group m (get_or bytes 0 0) ≡ true) place (grouped table (suc from) k bytes (and_parts _ _ all).1 at)

pub group_has : (k : ℕ) (bytes : List ℕ) → slice_get signs k ≡ Some bytes → ((sign_group (get_or bytes 0 0)).0 ≤ k) × (k < (sign_group (get_or bytes 0 0)).1)
unfolding in_group
group_has k bytes at =
    let inside = grouped signs 0 k bytes signs_grouped at in
    let place : 0 + k ≡ k = omega arith in
    let parts = and_parts _ _ (subst (λ m. in_group m (get_or bytes 0 0) ≡ true) place inside) in
    (le _ k parts.0, lt k _ parts.1)
  where
    le : (m n : ℕ) → nat_le m n ≡ true → m ≤ n
    le m n h = grind (arith, nat_tests)

    lt : (m n : ℕ) → nat_lt m n ≡ true → m < n
    lt m n h = grind (arith, nat_tests)

group_fits : ℕ × ℕ → Bool
group_fits g = nat_le g.0 g.1 && nat_le g.1 62

groups_fit : list_all group_fits SIGN_GROUPS ≡ true
unfolding group_fits
groups_fit = refl

pub group_within : (first : ℕ) → ((sign_group first).0 ≤ (sign_group first).1) × ((sign_group first).1 ≤ 62)
unfolding group_fits
group_within first =
    choose (nat_lt first 33 || nat_lt 126 first) (0, 0) (get_or SIGN_GROUPS (first - 33) (0, 0)) (λ (g : ℕ × ℕ). (g.0 ≤ g.1) × (g.1 ≤ 62)) (λ _. (omega arith, omega arith))
    (λ inside. let parts = and_parts _ _ (AllPass-from_list_all group_fits SIGN_GROUPS groups_fit (first - 33) (0, 0) (below first inside)) in (le _ _ parts.0, le _ _ parts.1))
  where
    le : (m n : ℕ) → nat_le m n ≡ true → m ≤ n
    le m n h = grind (arith, nat_tests)

    below : (first : ℕ) → (nat_lt first 33 || nat_lt 126 first) ≡ false → first - 33 < 94
    below first h = grind (arith, nat_tests)

-- what is longest in the group of the first byte is longest of all signs
pub longest_of_group : (table : List (Bor (List ℕ))) (rest : List ℕ) (first n from to : ℕ) → texts table ≡ signs → first ≡ get_or rest 0 0 → from ≡ (sign_group first).0 → to ≡ (sign_group first).1 → NoLongerFront (texts (take (to - from) (drop from table))) rest n → NoLongerFront signs rest n
longest_of_group table rest first n from to same is_first is_from is_to longest m more within is_in =
    let k = is_in.0 in
    let head : get_or (take m rest) 0 0 ≡ first = get_or-take m rest 0 0 (omega arith) ∙ sym is_first in
    let inside = subst (λ b. ((sign_group b).0 ≤ k) × (k < (sign_group b).1)) head (group_has k (take m rest) is_in.1) in
    let place : from + (k - from) ≡ k = omega (arith, inside.0, is_from) in
    longest m more within (k - from, in_part table from (to - from) (k - from) (take m rest) (omega (arith, inside.0, inside.1, is_from, is_to)) (subst (λ t. slice_get t (from + (k - from)) ≡ Some (take m rest)) (sym same) (subst (λ i. slice_get signs i ≡ Some (take m rest)) (sym place) is_in.1)))
