-- Trees inside a forest, and forests of one shape.
use Rattle.std.proofs.Common.{◌≡◌, ℕ, zero, suc, ◌+◌, ◌-◌, ◌<◌, cond, Bool, true, false, nat_lt, List, [], ◌∷◌, ◌++◌, map, length, slice_get, refl, sym, ap, ◌∙◌, arith}
use Rattle.std.proofs.lemmas.List.{map-append}
use Rattle.zw_tree.specs.Trees.{Forest, none, tree, count, trees, preorder, map_forest}
use Rattle.zw_tree.specs.Numbering.{node_at, from, first_root, inside_first, below, roots, children, parent}
use Rattle.zw_tree.specs.Growth.{under, IsOpen}
use Rattle.zw_tree.proofs.Nodes.{node_ind, from-inside, from-behind, count-preorder}
use Rattle.zw_tree.proofs.Growing.{open_ind, under-inside, under-behind}

module _ {X : Type 0} where
  slice_get-left : (xs ys : List X) (m : ℕ) → m < length xs → slice_get (xs ++ ys) m ≡ slice_get xs m
  slice_get-left [] ys m lt = absurd (omega arith)
  slice_get-left (x ∷ xs) ys zero lt = refl
  slice_get-left (x ∷ xs) ys (suc m) lt = slice_get-left xs ys m (omega arith)

  slice_get-right : (xs ys : List X) (m j : ℕ) → j ≡ length xs + m → slice_get (xs ++ ys) j ≡ slice_get ys m
  slice_get-right [] ys m j e = let same : j ≡ m = omega arith in ap (slice_get ys) same
  slice_get-right (x ∷ xs) ys m zero e = absurd (omega arith)
  slice_get-right (x ∷ xs) ys m (suc j) e = slice_get-right xs ys m j (omega arith)

module _ {A : Type 0} where
  -- a node is the root of its tree
  pub node-root : (forest : Forest A) (n : ℕ) → n < count forest → node_at forest n ≡ first_root (from forest n)
  node-root = node_ind (λ forest n. node_at forest n ≡ first_root (from forest n))
      (λ root inside behind. refl)
      (λ root inside behind n lt ih.
      let fits : n < length (preorder inside) = omega (arith, count-preorder inside) in
      rw (from-inside root inside behind n lt) (slice_get-left (preorder inside) (preorder behind) n fits ∙ ih))
      (λ root inside behind n lt ih.
      let e : count inside + n ≡ length (preorder inside) + n = omega (arith, count-preorder inside) in
      rw (from-behind root inside behind n) (slice_get-right (preorder inside) (preorder behind) n (count inside + n) e ∙ ih))

  -- growth below a node leaves the roots
  pub trees-under : (item : A) (forest : Forest A) (n : ℕ) → IsOpen forest n → trees (under forest n item) ≡ trees forest
  trees-under item = open_ind (λ forest n. trees (under forest n item) ≡ trees forest)
      (λ root inside. refl)
      (λ root inside n o ih. rw (under-inside root inside none n item o.within) refl)
      (λ root inside behind n o ih. rw (under-behind root inside behind n item) (ap suc ih))

module _ {A B : Type 0} (f : A → B) where
  pub count-map : (forest : Forest A) → count (map_forest f forest) ≡ count forest
  count-map none = refl
  count-map (tree root inside behind) = rw (count-map inside, count-map behind) refl

  pub preorder-map : (forest : Forest A) → preorder (map_forest f forest) ≡ map f (preorder forest)
  preorder-map none = refl
  preorder-map (tree root inside behind) = rw (preorder-map inside, preorder-map behind) (ap (λ list. f root ∷ list) (sym (map-append f (preorder inside) (preorder behind))))

  pub from-map : (forest : Forest A) (n : ℕ) → from (map_forest f forest) n ≡ map_forest f (from forest n)
  from-map none n = refl
  from-map (tree root inside behind) zero = refl
  from-map (tree root inside behind) (suc n) = rw (count-map inside, from-map inside n, from-map behind (n - count inside)) (by (nat_lt n (count inside)))
    where
      by : (b : Bool) → cond b (map_forest f (from inside n)) (map_forest f (from behind (n - count inside))) ≡ map_forest f (cond b (from inside n) (from behind (n - count inside)))
      by true = refl
      by false = refl

  pub inside_first-map : (forest : Forest A) → inside_first (map_forest f forest) ≡ map_forest f (inside_first forest)
  inside_first-map none = refl
  inside_first-map (tree root inside behind) = refl

  pub below-map : (forest : Forest A) (n : ℕ) → below (map_forest f forest) n ≡ map_forest f (below forest n)
  below-map forest n = ap inside_first (from-map forest n) ∙ inside_first-map (from forest n)

  pub roots-map : (forest : Forest A) (first : ℕ) → roots (map_forest f forest) first ≡ roots forest first
  roots-map none first = refl
  roots-map (tree root inside behind) first = rw (count-map inside) (ap (λ list. first ∷ list) (roots-map behind (suc (first + count inside))))

  pub children-map : (forest : Forest A) (n : ℕ) → children (map_forest f forest) n ≡ children forest n
  children-map forest n = ap (λ lower. roots lower (suc n)) (below-map forest n) ∙ roots-map (below forest n) (suc n)

  pub parent-map : (forest : Forest A) (n : ℕ) → parent (map_forest f forest) n ≡ parent forest n
  parent-map none n = refl
  parent-map (tree root inside behind) zero = refl
  parent-map (tree root inside behind) (suc n) = rw (count-map inside, parent-map inside n, parent-map behind (n - count inside)) refl
