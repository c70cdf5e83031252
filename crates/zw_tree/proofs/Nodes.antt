-- A node by its number: it is the first root, or stands below it, or behind its tree.
use Rattle.std.proofs.Common.{◌≡◌, ℕ, zero, suc, ◌+◌, ◌-◌, ◌<◌, ◌≤◌, ◌⊎◌, inl, inr, cond, nat_lt, length, Some, refl, sym, ap, ◌∙◌, subst, arith, length-append, zero-add}
use Rattle.std.proofs.lemmas.Bool.{cases_lt, cond_below, cond_above}
use Rattle.std.specs.Option.{option_map}
use Rattle.zw_tree.specs.Trees.{Forest, none, tree, beside, count, preorder}
use Rattle.zw_tree.specs.Numbering.{from, below, last, or_root, parent}

module _ {X : Type 0} where
  pub cond_inside : (n m : ℕ) (x y : X) → n < m → cond (nat_lt n m) x y ≡ x
  cond_inside n m x y lt = sym (cond_below n m x y lt)

  pub cond_behind : (m n : ℕ) (x y : X) → cond (nat_lt (m + n) m) x y ≡ y
  cond_behind m n x y = sym (cond_above (m + n) m x y y (omega arith) refl)

pub minus : (m n : ℕ) → (m + n) - m ≡ n
minus m n = omega arith

module _ {A : Type 0} where
  -- induction on the way to a node
  pub node_ind : (P : Forest A → ℕ → Type 0) → ((root : A) (inside behind : Forest A) → P (tree root inside behind) zero) → ((root : A) (inside behind : Forest A) (n : ℕ) → n < count inside → P inside n → P (tree root inside behind) (suc n)) → ((root : A) (inside behind : Forest A) (n : ℕ) → n < count behind → P behind n → P (tree root inside behind) (suc (count inside + n))) → (forest : Forest A) (n : ℕ) → n < count forest → P forest n
  node_ind P here within after none n lt = absurd (omega arith)
  node_ind P here within after (tree root inside behind) zero lt = here root inside behind
  node_ind P here within after (tree root inside behind) (suc n) lt =
      by (cases_lt n (count inside)) (λ l. node_ind P here within after inside n l) (λ k fits. node_ind P here within after behind k fits)
    where
      by : (n < count inside) ⊎ (count inside ≤ n) → (n < count inside → P inside n) → ((k : ℕ) → k < count behind → P behind k) → P (tree root inside behind) (suc n)
      by (inl l) first second = within root inside behind n l (first l)
      by (inr g) first second =
          let k : ℕ = n - count inside in
          let fits : k < count behind = omega arith in
          let e : count inside + k ≡ n = omega arith in
          subst (λ m. P (tree root inside behind) (suc m)) e (after root inside behind k fits (second k fits))

  pub from-inside : (root : A) (inside behind : Forest A) (n : ℕ) → n < count inside → from (tree root inside behind) (suc n) ≡ from inside n
  from-inside root inside behind n lt = cond_inside n (count inside) _ _ lt

  pub from-behind : (root : A) (inside behind : Forest A) (n : ℕ) → from (tree root inside behind) (suc (count inside + n)) ≡ from behind n
  from-behind root inside behind n = cond_behind (count inside) n _ _ ∙ ap (from behind) (minus (count inside) n)

  pub parent-inside : (root : A) (inside behind : Forest A) (n : ℕ) → n < count inside → parent (tree root inside behind) (suc n) ≡ Some (or_root (parent inside n))
  parent-inside root inside behind n lt = cond_inside n (count inside) _ _ lt

  pub parent-behind : (root : A) (inside behind : Forest A) (n : ℕ) → parent (tree root inside behind) (suc (count inside + n)) ≡ option_map (λ m. suc (count inside + m)) (parent behind n)
  parent-behind root inside behind n = cond_behind (count inside) n _ _ ∙ ap (λ m. option_map (λ k. suc (count inside + k)) (parent behind m)) (minus (count inside) n)

  pub count-preorder : (forest : Forest A) → length (preorder forest) ≡ count forest
  count-preorder none = refl
  count-preorder (tree root inside behind) =
      let first = count-preorder inside in
      let second = count-preorder behind in
      let both = length-append (preorder inside) (preorder behind) in
      omega arith

  pub count-beside : (forest others : Forest A) → count (beside forest others) ≡ count forest + count others
  count-beside none others = sym (zero-add (count others))
  count-beside (tree root inside behind) others = let rest = count-beside behind others in omega arith

  -- a node's descendants are among the nodes
  pub last-within : (forest : Forest A) (n : ℕ) → n < count forest → last forest n < count forest
  last-within = node_ind (λ forest n. last forest n < count forest)
      (λ root inside behind. omega arith)
      (λ root inside behind n lt ih. rw (from-inside root inside behind n lt) (omega arith))
      (λ root inside behind n lt ih. rw (from-behind root inside behind n) (omega arith))

  -- what is below a node is numbered on from it
  pub from-below : (forest : Forest A) (n : ℕ) → n < count forest → (k j : ℕ) → j ≡ n + k → k < count (below forest n) → from forest (suc j) ≡ from (below forest n) k
  from-below = node_ind (λ forest n. (k j : ℕ) → j ≡ n + k → k < count (below forest n) → from forest (suc j) ≡ from (below forest n) k)
      (λ root inside behind k j e lt. let same : j ≡ k = omega arith in subst (λ m. from (tree root inside behind) (suc m) ≡ from inside k) (sym same) (from-inside root inside behind k lt))
      (λ root inside behind n here ih k j e lt.
      let eq = from-inside root inside behind n here in
      let lower = rw eq at lt in
      let same : j ≡ suc (n + k) = omega arith in
      let fits : suc (n + k) < count inside = omega (arith, last-within inside n here, lower) in
      rw (eq, same) (from-inside root inside behind (suc (n + k)) fits ∙ ih k (n + k) refl lower))
      (λ root inside behind n here ih k j e lt.
      let eq = from-behind root inside behind n in
      let lower = rw eq at lt in
      let same : j ≡ count inside + suc (n + k) = omega arith in
      rw (eq, same) (from-behind root inside behind (suc (n + k)) ∙ ih k (n + k) refl lower))
