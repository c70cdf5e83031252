-- What tests of operands say of the values that they stand for.
use Rattle.std.proofs.Common.{◌≡◌, List, [], ◌∷◌, All, map, sym, subst}
use Rattle.std.proofs.lemmas.List.Elements.{All-cons, All-nil}
use Rattle.zw_types.specs.declared.value.Value.{Value}
use Rattle.zw_types.specs.TypeTrees.{TypeTree, ValueTree}
use Rattle.zw_types.specs.Readings.{value_tree}

module _ (P : ValueTree → Type 0) (types : List TypeTree) where
  -- what holds of one operand, or of two, holds of all
  pub all_one : (args : List Value) (a : Value) → args ≡ a ∷ [] → P (value_tree types a) → All P (map (value_tree types) args)
  all_one args a e p = subst (λ xs. All P (map (value_tree types) xs)) (sym e) (All-cons P (value_tree types a) [] p (All-nil P))

  pub all_two : (args : List Value) (a b : Value) → args ≡ a ∷ b ∷ [] → P (value_tree types a) → P (value_tree types b) → All P (map (value_tree types) args)
  all_two args a b e p q =
      subst (λ xs. All P (map (value_tree types) xs)) (sym e) (All-cons P (value_tree types a) (value_tree types b ∷ []) p (All-cons P (value_tree types b) [] q (All-nil P)))
