-- What is known of operands, one by one.
use Rattle.std.proofs.Common.{◌≡◌, ℕ, ℤ, ◌<◌, List, [], ◌∷◌, All, sym, ◌∙◌, subst, ap}
use Rattle.std.proofs.lemmas.List.Elements.{All-head, All-tail}
use Rattle.zw_types.specs.declared.value.TypeId.{TypeId}
use Rattle.zw_types.specs.declared.value.Value.{Value}
use Rattle.zw_types.specs.declared.value.Value.TheVariants as v
use Rattle.zw_types.specs.declared.value.Value.TheOpen.{Value-F}
use Rattle.zw_types.specs.TypeTrees as tree
use Rattle.zw_types.specs.TypeTrees.{TypeTree}
use Rattle.zw_types.specs.Readings.{value_tree, types_in}
use Rattle.zw_types.proofs.Agreement.{value_tree-roll, types_in-roll}
use Rattle.zw_ops.specs.Applied.{IsHeld}

types_in-OfType : (ty : TypeId) → types_in (v.OfType ty) ≡ ty.0 ∷ []
types_in-OfType ty = ap types_in (sym (v.rolls-OfType ty)) ∙ types_in-roll (Value-F.OfType ty)

-- the number of the type that a value is
pub held_type : (n : ℕ) (x : Value) (ty : TypeId) → All (λ k. k < n) (types_in x) → x ≡ v.OfType ty → ty.0 < n
held_type n x ty held e = All-head (λ k. k < n) ty.0 [] (subst (All (λ k. k < n)) (ap types_in e ∙ types_in-OfType ty) held)

pub value_tree-Number : (types : List TypeTree) (z : ℤ) → value_tree types (v.Number z) ≡ tree.NumberValue z
value_tree-Number types z = ap (value_tree types) (sym (v.rolls-Number z)) ∙ value_tree-roll types (Value-F.Number z)

-- what is known of all operands is known of one, and of two
pub of_one : (P : Value → Type 0) (xs : List Value) (a : Value) → xs ≡ a ∷ [] → All P xs → P a
of_one P xs a e all = All-head P a [] (subst (All P) e all)

pub of_two : (P : Value → Type 0) (xs : List Value) (a b : Value) → xs ≡ a ∷ b ∷ [] → All P xs → P a × P b
of_two P xs a b e all =
    let both = subst (All P) e all in
    (All-head P a (b ∷ []) both, All-head P b [] (All-tail P a (b ∷ []) both))

pub held_one : (n : ℕ) (xs : List Value) (a : Value) → xs ≡ a ∷ [] → All (IsHeld n) xs → IsHeld n a
held_one n = of_one (IsHeld n)

pub held_two : (n : ℕ) (xs : List Value) (a b : Value) → xs ≡ a ∷ b ∷ [] → All (IsHeld n) xs → IsHeld n a × IsHeld n b
held_two n = of_two (IsHeld n)
