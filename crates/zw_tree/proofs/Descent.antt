-- Parents against children, and descendants against numbers.
use Rattle.std.proofs.Common.{◌≡◌, ℕ, zero, suc, ◌+◌, ◌-◌, ◌<◌, ◌≤◌, ◌⊎◌, inl, inr, Option, Some, None, slice_get, refl, sym, ap, ◌∙◌, subst, arith, zero-add}
use Rattle.std.specs.Option.{option_map}
use Rattle.std.proofs.lemmas.Bool.{cases_lt}
use Rattle.zw_tree.specs.Trees.{Forest, none, tree, count}
use Rattle.zw_tree.specs.Numbering.{inside_first, below, last, roots, child, or_root, parent, IsBelow, child_of, below_child}
use Rattle.zw_tree.proofs.Nodes.{node_ind, from-inside, from-behind, parent-inside, parent-behind, last-within, from-below}
use Rattle.zw_tree.proofs.Families.{IsChild, child_at}

-- the number of what has this number below the node n, and n where there is none
abbrev pub or_at : ℕ → Option ℕ → ℕ
or_at n None = n
or_at n (Some p) = suc (n + p)

or_at-zero : (o : Option ℕ) → or_root o ≡ or_at 0 o
or_at-zero None = refl
or_at-zero (Some p) = ap suc (sym (zero-add p))

or_at-inside : (n : ℕ) (o : Option ℕ) → or_root (Some (or_at n o)) ≡ or_at (suc n) o
or_at-inside n None = refl
or_at-inside n (Some p) = omega arith

or_at-behind : (m n : ℕ) (o : Option ℕ) → suc (m + or_at n o) ≡ or_at (suc (m + n)) o
or_at-behind m n None = refl
or_at-behind m n (Some p) = omega arith

module _ {A : Type 0} where
  -- what is below a node keeps its parents, and its roots are the node's children
  pub parent-below : (forest : Forest A) (n : ℕ) → n < count forest → (k j : ℕ) → j ≡ n + k → k < count (below forest n) → parent forest (suc j) ≡ Some (or_at n (parent (below forest n) k))
  parent-below = node_ind (λ forest n. (k j : ℕ) → j ≡ n + k → k < count (below forest n) → parent forest (suc j) ≡ Some (or_at n (parent (below forest n) k)))
      (λ root inside behind k j e lt.
      let same : j ≡ k = omega arith in
      rw same (parent-inside root inside behind k lt ∙ ap Some (or_at-zero (parent inside k))))
      (λ root inside behind n here ih k j e lt.
      let eq = from-inside root inside behind n here in
      let lower = rw eq at lt in
      let same : j ≡ suc (n + k) = omega arith in
      let fits : suc (n + k) < count inside = omega (arith, last-within inside n here, lower) in
      rw (eq, same) (parent-inside root inside behind (suc (n + k)) fits ∙ ap (λ o. Some (or_root o)) (ih k (n + k) refl lower) ∙ ap Some (or_at-inside n (parent (below inside n) k))))
      (λ root inside behind n here ih k j e lt.
      let eq = from-behind root inside behind n in
      let lower = rw eq at lt in
      let same : j ≡ count inside + suc (n + k) = omega arith in
      rw (eq, same) (parent-behind root inside behind (suc (n + k)) ∙ ap (option_map (λ m. suc (count inside + m))) (ih k (n + k) refl lower) ∙ ap Some (or_at-behind (count inside) n (parent (below behind n) k))))

  pub child-parent : (forest : Forest A) (n k c : ℕ) → n < count forest → child forest n k ≡ Some c → parent forest c ≡ Some n
  child-parent forest n k c lt is = by (child forest n (suc k)) (child_at forest n k c lt is)
    where
      by : (after : Option ℕ) → IsChild forest n c after → parent forest c ≡ Some n
      by after r = ap (parent forest) r.number ∙ parent-below forest n lt r.at (n + r.at) refl r.within ∙ ap (λ o. Some (or_at n o)) r.no_parent

  -- where a node with this parent stands
  record StandsBelow (forest : Forest A) (n c : ℕ) : Type 0 where
    at : ℕ
    number : c ≡ suc (n + at)
    within : at < count (below forest n)
    no_parent : parent (below forest n) at ≡ None
    parent_within : n < count forest

  stands_below : (n : ℕ) (forest : Forest A) (c : ℕ) → c < count forest → (p : ℕ) → parent forest c ≡ Some p → StandsBelow forest p c
  stands_below n = node_ind (λ forest c. (p : ℕ) → parent forest c ≡ Some p → StandsBelow forest p c)
      (λ root inside behind p is. cc)
      (λ root inside behind c here ih p is. inside_of root inside behind c here ih p (parent inside c) refl (sym (parent-inside root inside behind c here) ∙ is))
      (λ root inside behind c here ih p is. behind_of root inside behind c here ih p (parent behind c) refl (sym (parent-behind root inside behind c) ∙ is))
    where
      inside_of : (root : A) (inside behind : Forest A) (c : ℕ) → c < count inside → ((p : ℕ) → parent inside c ≡ Some p → StandsBelow inside p c) → (p : ℕ) (o : Option ℕ) → parent inside c ≡ o → Some (or_root (parent inside c)) ≡ Some p → StandsBelow (tree root inside behind) p (suc c)
      inside_of root inside behind c here ih p None e is =
          let same : 0 ≡ p = (let f = rw e at is in cc) in
          subst (λ q. StandsBelow (tree root inside behind) q (suc c)) same (record { at = c; number = ap suc (sym (zero-add c)); within = here; no_parent = e; parent_within = omega arith })
      inside_of root inside behind c here ih p (Some q) e is =
          let same : suc q ≡ p = (let f = rw e at is in cc) in
          let r = ih q e in
          let eq = from-inside root inside behind q r.parent_within in
          subst (λ m. StandsBelow (tree root inside behind) m (suc c)) same (record { at = r.at; number = let num = r.number in omega arith; within = rw eq r.within; no_parent = rw eq r.no_parent; parent_within = let fits = r.parent_within in omega arith })

      behind_of : (root : A) (inside behind : Forest A) (c : ℕ) → c < count behind → ((p : ℕ) → parent behind c ≡ Some p → StandsBelow behind p c) → (p : ℕ) (o : Option ℕ) → parent behind c ≡ o → option_map (λ m. suc (count inside + m)) (parent behind c) ≡ Some p → StandsBelow (tree root inside behind) p (suc (count inside + c))
      behind_of root inside behind c here ih p None e is = let f = rw e at is in cc
      behind_of root inside behind c here ih p (Some q) e is =
          let same : suc (count inside + q) ≡ p = (let f = rw e at is in cc) in
          let r = ih q e in
          let eq = from-behind root inside behind q in
          subst (λ m. StandsBelow (tree root inside behind) m (suc (count inside + c))) same (record { at = r.at; number = let num = r.number in omega arith; within = rw eq r.within; no_parent = rw eq r.no_parent; parent_within = let fits = r.parent_within in omega arith })

  -- a root is among the roots
  root_listed : (forest : Forest A) (c : ℕ) → c < count forest → parent forest c ≡ None → (first : ℕ) → (k : ℕ) × (slice_get (roots forest first) k ≡ Some (first + c))
  root_listed = node_ind (λ forest c. parent forest c ≡ None → (first : ℕ) → (k : ℕ) × (slice_get (roots forest first) k ≡ Some (first + c)))
      (λ root inside behind is first. (0, (let e : first ≡ first + 0 = omega arith in ap Some e)))
      (λ root inside behind c here ih is first. let f = sym (parent-inside root inside behind c here) ∙ is in cc)
      (λ root inside behind c here ih is first.
      let up = none_of _ (parent behind c) (sym (parent-behind root inside behind c) ∙ is) in
      let r = ih up (suc (first + count inside)) in
      let e : suc (first + count inside) + c ≡ first + suc (count inside + c) = omega arith in
      (suc r.0, r.1 ∙ ap Some e))
    where
      none_of : {B : Type 0} (f : ℕ → B) (o : Option ℕ) → option_map f o ≡ None → o ≡ None
      none_of f None is = refl
      none_of f (Some p) is = cc

  pub parent-child : (forest : Forest A) (n c : ℕ) → c < count forest → parent forest c ≡ Some n → (k : ℕ) × (child forest n k ≡ Some c)
  parent-child forest n c lt is = by (stands_below 0 forest c lt n is)
    where
      by : StandsBelow forest n c → (k : ℕ) × (child forest n k ≡ Some c)
      by s =
          let r = root_listed (below forest n) s.at s.within s.no_parent (suc n) in
          let e : suc n + s.at ≡ c = omega (arith, s.number) in
          (r.0, r.1 ∙ ap Some e)

  -- a parent stands before its children, and ends behind them
  pub parent-before : (forest : Forest A) (n c : ℕ) → c < count forest → parent forest c ≡ Some n → (n < c) × (last forest c ≤ last forest n)
  parent-before forest n c lt is = by (stands_below 0 forest c lt n is)
    where
      by : StandsBelow forest n c → (n < c) × (last forest c ≤ last forest n)
      by s =
          let lower = ap inside_first (from-below forest n s.parent_within s.at (n + s.at) refl s.within) in
          let deep = last-within (below forest n) s.at s.within in
          let number = s.number in
          (omega arith, rw (number, lower) (omega arith))

  pub parent-past : (forest : Forest A) (c : ℕ) → count forest ≤ c → parent forest c ≡ None
  parent-past none c ge = refl
  parent-past (tree root inside behind) zero ge = absurd (omega arith)
  parent-past (tree root inside behind) (suc c) ge =
      let k : ℕ = c - count inside in
      let e : c ≡ count inside + k = omega arith in
      let past : count behind ≤ k = omega arith in
      rw (e, parent-behind root inside behind k, parent-past behind k past) refl

  parent-child_within : (forest : Forest A) (n c : ℕ) → parent forest c ≡ Some n → c < count forest
  parent-child_within forest n c is = by (cases_lt c (count forest))
    where
      by : (c < count forest) ⊎ (count forest ≤ c) → c < count forest
      by (inl lt) = lt
      by (inr ge) = let past = parent-past forest c ge in cc

  pub descendant-numbers : (forest : Forest A) (n m : ℕ) → IsBelow forest n m → (n < m) × (last forest m ≤ last forest n)
  descendant-numbers forest n _ (child_of m is) = parent-before forest n m (parent-child_within forest n m is) is
  descendant-numbers forest n _ (below_child m k is up) =
      let first = descendant-numbers forest n k up in
      let second = parent-before forest k m (parent-child_within forest k m is) is in
      (omega arith, omega arith)

  numbers_below : (forest : Forest A) (n : ℕ) → n < count forest → (bound k : ℕ) → k < bound → k < count (below forest n) → IsBelow forest n (suc (n + k))
  numbers_below forest n lt zero k small within = absurd (omega arith)
  numbers_below forest n lt (suc bound) k small within = by (parent (below forest n) k) refl (λ p low in_. numbers_below forest n lt bound p low in_)
    where
      by : (o : Option ℕ) → parent (below forest n) k ≡ o → ((p : ℕ) → p < bound → p < count (below forest n) → IsBelow forest n (suc (n + p))) → IsBelow forest n (suc (n + k))
      by None e rest = child_of (suc (n + k)) (parent-below forest n lt k (n + k) refl within ∙ ap (λ o. Some (or_at n o)) e)
      by (Some p) e rest =
          let up = parent-before (below forest n) p k within e in
          below_child (suc (n + k)) (suc (n + p)) (parent-below forest n lt k (n + k) refl within ∙ ap (λ o. Some (or_at n o)) e) (rest p (omega arith) (omega arith))

  pub numbers-descendant : (forest : Forest A) (n m : ℕ) → n < count forest → n < m → m ≤ last forest n → IsBelow forest n m
  numbers-descendant forest n m lt low high =
      let k : ℕ = m - suc n in
      let e : suc (n + k) ≡ m = omega arith in
      let within : k < count (below forest n) = omega arith in
      subst (IsBelow forest n) e (numbers_below forest n lt (suc k) k (omega arith) within)
