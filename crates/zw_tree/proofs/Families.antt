-- Parents, children and descendants.
use Rattle.std.proofs.Common.{◌≡◌, ℕ, zero, suc, ◌+◌, ◌-◌, ◌<◌, ◌≤◌, ◌⊎◌, inl, inr, cond, nat_lt, Option, Some, None, slice_get, refl, sym, ap, ◌∙◌, arith}
use Rattle.std.specs.Option.{option_map}
use Rattle.std.proofs.lemmas.Bool.{cases_lt, cond_below, cond_above}
use Rattle.zw_tree.specs.Trees.{Forest, none, tree, count}
use Rattle.zw_tree.specs.Numbering.{inside_first, below, last, roots, child, parent}
use Rattle.zw_tree.proofs.Nodes.{from-behind, parent-behind, from-below}

-- the number of the first node behind a tree that ends here, where there is one before the end
abbrev following : (last end : ℕ) → Option ℕ
following last end = cond (nat_lt last end) (Some (suc last)) None

module _ {A : Type 0} where
  roots-first : (forest : Forest A) (first : ℕ) → slice_get (roots forest first) 0 ≡ cond (nat_lt 0 (count forest)) (Some first) None
  roots-first none first = refl
  roots-first (tree root inside behind) first = cond_below 0 (suc (count inside + count behind)) (Some first) None (omega arith)

  -- a root among others: where it stands, and which comes next
  record IsRoot (forest : Forest A) (first c : ℕ) (after : Option ℕ) : Type 0 where
    at : ℕ
    number : c ≡ first + at
    within : at < count forest
    no_parent : parent forest at ≡ None
    next : after ≡ following (first + last forest at) (first + count forest - 1)

  root_at : (forest : Forest A) (first k c : ℕ) → slice_get (roots forest first) k ≡ Some c → IsRoot forest first c (slice_get (roots forest first) (suc k))
  root_at none first k c is = cc
  root_at (tree root inside behind) first zero c is = record {
    at = zero;
    number = let same : first ≡ c = cc in omega arith;
    within = omega arith;
    no_parent = refl;
    next = roots-first behind (suc (first + count inside)) ∙ by (cases_lt 0 (count behind));
  }
    where
      by : (0 < count behind) ⊎ (count behind ≤ 0) → cond (nat_lt 0 (count behind)) (Some (suc (first + count inside))) None ≡ following (first + (0 + count inside)) (first + suc (count inside + count behind) - 1)
      by (inl some) =
          let l : first + (0 + count inside) ≡ first + count inside = omega arith in
          sym (cond_below 0 (count behind) _ _ some) ∙ rw l (cond_below (first + count inside) (first + suc (count inside + count behind) - 1) _ _ (omega arith))
      by (inr ends) = sym (cond_above 0 (count behind) _ _ _ ends refl) ∙ cond_above (first + (0 + count inside)) (first + suc (count inside + count behind) - 1) _ _ _ (omega arith) refl
  root_at (tree root inside behind) first (suc k) c is =
      let r = root_at behind (suc (first + count inside)) k c is in
      record {
        at = suc (count inside + r.at);
        number = r.number ∙ (let e : suc (first + count inside) + r.at ≡ first + suc (count inside + r.at) = omega arith in e);
        within = let fits = r.within in omega arith;
        no_parent = parent-behind root inside behind r.at ∙ ap (option_map (λ m. suc (count inside + m))) r.no_parent;
        next = r.next ∙ (
            let eq = from-behind root inside behind r.at in
            let l : suc (first + count inside) + last behind r.at ≡ first + (suc (count inside + r.at) + count (below behind r.at)) = omega arith in
            let e : suc (first + count inside) + count behind - 1 ≡ first + suc (count inside + count behind) - 1 = omega arith in
            rw (eq, l, e) refl);
      }

  -- a child, by where it stands below its parent
  pub record IsChild (forest : Forest A) (n c : ℕ) (after : Option ℕ) : Type 0 where
    pub at : ℕ
    pub number : c ≡ suc (n + at)
    pub within : at < count (below forest n)
    pub no_parent : parent (below forest n) at ≡ None
    pub last_is : last forest c ≡ suc (n + last (below forest n) at)
    pub next : after ≡ following (last forest c) (last forest n)

  child_of_root : (forest : Forest A) (n c : ℕ) (after : Option ℕ) → n < count forest → IsRoot (below forest n) (suc n) c after → IsChild forest n c after
  child_of_root forest n c after lt r =
      let number : c ≡ suc (n + r.at) = r.number ∙ (let e : suc n + r.at ≡ suc (n + r.at) = omega arith in e) in
      let lower = ap inside_first (from-below forest n lt r.at (n + r.at) refl r.within) in
      let last_is : last forest c ≡ suc (n + last (below forest n) r.at) = rw (number, lower) (omega arith) in
      record {
        at = r.at;
        number = number;
        within = r.within;
        no_parent = r.no_parent;
        last_is = last_is;
        next = r.next ∙ (
            let l : suc n + last (below forest n) r.at ≡ last forest c = omega (arith, last_is) in
            let e : suc n + count (below forest n) - 1 ≡ last forest n = omega arith in
            rw (l, e) refl);
      }

  pub child_at : (forest : Forest A) (n k c : ℕ) → n < count forest → child forest n k ≡ Some c → IsChild forest n c (child forest n (suc k))
  child_at forest n k c lt is = child_of_root forest n c _ lt (root_at (below forest n) (suc n) k c is)

  pub child-first : (forest : Forest A) (n : ℕ) → child forest n 0 ≡ following n (last forest n)
  child-first forest n = roots-first (below forest n) (suc n) ∙ by (cases_lt 0 (count (below forest n)))
    where
      by : (0 < count (below forest n)) ⊎ (count (below forest n) ≤ 0) → cond (nat_lt 0 (count (below forest n))) (Some (suc n)) None ≡ following n (last forest n)
      by (inl some) = sym (cond_below 0 (count (below forest n)) _ _ some) ∙ cond_below n (last forest n) _ _ (omega arith)
      by (inr ends) = sym (cond_above 0 (count (below forest n)) _ _ _ ends refl) ∙ cond_above n (last forest n) _ _ _ (omega arith) refl

  pub child-next : (forest : Forest A) (n k c : ℕ) → n < count forest → child forest n k ≡ Some c → child forest n (suc k) ≡ following (last forest c) (last forest n)
  child-next forest n k c lt is = (child_at forest n k c lt is).next
