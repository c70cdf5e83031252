-- The items of a literal, one after the other.
use Rattle.std.proofs.Common.{◌≡◌, ℕ, zero, suc, ◌+◌, ◌-◌, ◌<◌, ◌≤◌, List, [], ◌∷◌, ◌++◌, length, drop, Some, None, refl, ap, ◌∙◌, arith}
use Rattle.std.specs.List.{flat_map, sum_by}
use Rattle.std.specs.Option.{option_map_or}
use Rattle.std.proofs.lemmas.List.Sums.{sum_by-cons}
use Rattle.zw_token.specs.Literals.{Item, item_at, item_len, items, items_within, items_len, items_bytes}

items_skip : (quote n : ℕ) (rest : List ℕ) → n ≤ length rest → items_within quote n rest ≡ items quote (drop n rest)
items_skip quote zero rest h = refl
items_skip quote (suc n) [] h = absurd (omega arith)
items_skip quote (suc n) (b ∷ rest) h = items_skip quote n rest (omega arith)

-- the item that stands here, and those behind it
pub items_more : (quote : ℕ) (rest : List ℕ) (n : ℕ) → item_len quote rest ≡ Some n → 0 < n → n ≤ length rest → items quote rest ≡ item_at n rest ∷ items quote (drop n rest)
items_more quote [] n e some h = absurd (omega arith)
items_more quote (b ∷ rest) zero e some h = absurd (omega arith)
items_more quote (b ∷ rest) (suc n) e some h =
    let less : suc n - 1 ≡ n = omega arith in
    ap (λ len. option_map_or (λ n. item_at n (b ∷ rest) ∷ items_within quote (n - 1) rest) len []) e
    ∙ ap (λ m. item_at (suc n) (b ∷ rest) ∷ items_within quote m rest) less
    ∙ ap (λ more. item_at (suc n) (b ∷ rest) ∷ more) (items_skip quote n rest (omega arith))

-- no item stands here
pub items_none : (quote : ℕ) (rest : List ℕ) → item_len quote rest ≡ None → items quote rest ≡ []
items_none quote [] e = refl
items_none quote (b ∷ rest) e = ap (λ len. option_map_or (λ n. item_at n (b ∷ rest) ∷ items_within quote (n - 1) rest) len []) e

pub items_len_more : (quote : ℕ) (rest : List ℕ) (n : ℕ) → item_len quote rest ≡ Some n → 0 < n → n ≤ length rest → items_len quote rest ≡ n + items_len quote (drop n rest)
items_len_more quote rest n e some h = ap (sum_by (λ (item : Item). item.len)) (items_more quote rest n e some h) ∙ sum_by-cons (λ (item : Item). item.len) (item_at n rest) (items quote (drop n rest))

pub items_len_none : (quote : ℕ) (rest : List ℕ) → item_len quote rest ≡ None → items_len quote rest ≡ 0
items_len_none quote rest e = ap (sum_by (λ (item : Item). item.len)) (items_none quote rest e)

-- the bytes that the item here stands for come before those of the others
pub items_bytes_more : (quote : ℕ) (rest : List ℕ) (n : ℕ) → item_len quote rest ≡ Some n → 0 < n → n ≤ length rest → items_bytes quote rest ≡ (item_at n rest).stands_for ++ items_bytes quote (drop n rest)
items_bytes_more quote rest n e some h = ap (flat_map (λ (item : Item). item.stands_for)) (items_more quote rest n e some h)

pub items_bytes_none : (quote : ℕ) (rest : List ℕ) → item_len quote rest ≡ None → items_bytes quote rest ≡ []
items_bytes_none quote rest e = ap (flat_map (λ (item : Item). item.stands_for)) (items_none quote rest e)
