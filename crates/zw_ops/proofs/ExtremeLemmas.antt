-- The least and the greatest of values that are left.
use Rattle.std.proofs.Common.{◌≡◌, ℕ, ℤ, ◌+◌, ◌<◌, ◌≤◌, length, List, map, drop, slice_index_or, Some, None, sym, ◌∙◌, ap, suc, add-one}
use Rattle.std.proofs.Math.Seq.{drop-cons}
use Rattle.std.proofs.lemmas.List.{drop_all}
use Rattle.zw_num.specs.declared.operator.Extreme.{Extreme}
use Rattle.zw_num.specs.Meanings.{extreme}
use Rattle.zw_types.specs.declared.value.Value.{Value}
use Rattle.zw_types.specs.TypeTrees.{TypeTree, NumberValue}
use Rattle.zw_types.specs.Readings.{value_tree}
use Rattle.zw_values.specs.Applied.{Gives, IsWild, number_in, on_number, extreme_from}

module _ (op : Extreme) (types : List TypeTree) (xs : List Value) (i : ℕ) (a : ℤ) (x : Value) (within : i < length xs) (item : x ≡ slice_index_or xs i x) where
  left : extreme_from op a (map (value_tree types) (drop i xs)) ≡ on_number (number_in (value_tree types x)) (λ b. extreme_from op (extreme op a b) (map (value_tree types) (drop (i + 1) xs)))
  left =
      ap (λ ys. extreme_from op a (map (value_tree types) ys)) (drop-cons xs i x within)
      ∙ ap (λ (y : Value). on_number (number_in (value_tree types y)) (λ b. extreme_from op (extreme op a b) (map (value_tree types) (drop (suc i) xs)))) (sym item)
      ∙ ap (λ (k : ℕ). on_number (number_in (value_tree types x)) (λ b. extreme_from op (extreme op a b) (map (value_tree types) (drop k xs)))) (sym (add-one i))

  pub next_number : (n : ℤ) → Some n ≡ number_in (value_tree types x) → extreme_from op a (map (value_tree types) (drop i xs)) ≡ extreme_from op (extreme op a n) (map (value_tree types) (drop (i + 1) xs))
  next_number n is = left ∙ ap (λ o. on_number o (λ b. extreme_from op (extreme op a b) (map (value_tree types) (drop (i + 1) xs)))) (sym is)

  pub no_number : None ≡ number_in (value_tree types x) → extreme_from op a (map (value_tree types) (drop i xs)) ≡ IsWild
  no_number is = left ∙ ap (λ o. on_number o (λ b. extreme_from op (extreme op a b) (map (value_tree types) (drop (i + 1) xs)))) (sym is)

-- the number itself, where no value is left
pub none_left : (op : Extreme) (types : List TypeTree) (xs : List Value) (i : ℕ) (a : ℤ) → length xs ≤ i → extreme_from op a (map (value_tree types) (drop i xs)) ≡ Gives (NumberValue a)
none_left op types xs i a past = ap (λ ys. extreme_from op a (map (value_tree types) ys)) (drop_all i xs past)
