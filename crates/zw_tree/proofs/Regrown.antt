-- A tree grows by its nodes in preorder.
use Rattle.std.proofs.Common.{◌≡◌, ℕ, zero, suc, ◌+◌, ◌-◌, ◌<◌, ◌≤◌, min, Option, Some, None, refl, sym, ap, ◌∙◌, subst, arith}
use Rattle.std.specs.Option.{option_map}
use Rattle.std.proofs.lemmas.Option.{slice_get_within}
use Rattle.zw_tree.specs.Trees.{Forest, none, tree, leaf, count, trees, preorder}
use Rattle.zw_tree.specs.Numbering.{node_at, from, first_root, or_root, parent}
use Rattle.zw_tree.specs.Growth.{under, grown, IsOpen, MayGrow, first_nodes}
use Rattle.zw_tree.proofs.Nodes.{node_ind, from-inside, from-behind, parent-inside, parent-behind, count-preorder}
use Rattle.zw_tree.proofs.Growing.{under-inside, under-behind}
use Rattle.zw_tree.proofs.Descent.{parent-before}
use Rattle.zw_tree.proofs.Subtrees.{node-root}

module _ {A : Type 0} where
  first_nodes-none : (forest : Forest A) → first_nodes forest zero ≡ none
  first_nodes-none none = refl
  first_nodes-none (tree root inside behind) = refl

  pub first_nodes-all : (forest : Forest A) (n : ℕ) → count forest ≤ n → first_nodes forest n ≡ forest
  first_nodes-all none n ge = refl
  first_nodes-all (tree root inside behind) zero ge = absurd (omega arith)
  first_nodes-all (tree root inside behind) (suc n) ge = rw (first_nodes-all inside n (omega arith), first_nodes-all behind (n - count inside) (omega arith)) refl

  pub count-first_nodes : (forest : Forest A) (n : ℕ) → count (first_nodes forest n) ≡ min n (count forest)
  count-first_nodes none n = omega arith
  count-first_nodes (tree root inside behind) zero = omega arith
  count-first_nodes (tree root inside behind) (suc n) = omega (arith, count-first_nodes inside n, count-first_nodes behind (n - count inside))

  -- the nodes up to one below the root, and up to one behind the first tree
  cut-inside : (root : A) (inside behind : Forest A) (n : ℕ) → n ≤ count inside → first_nodes (tree root inside behind) (suc n) ≡ tree root (first_nodes inside n) none
  cut-inside root inside behind n le =
      let e : n - count inside ≡ 0 = omega arith in
      ap (λ m. tree root (first_nodes inside n) (first_nodes behind m)) e ∙ ap (tree root (first_nodes inside n)) (first_nodes-none behind)

  cut-behind : (root : A) (inside behind : Forest A) (n m : ℕ) → m ≡ count inside + n → first_nodes (tree root inside behind) (suc m) ≡ tree root inside (first_nodes behind n)
  cut-behind root inside behind n m is =
      let e : m - count inside ≡ n = omega arith in
      rw (first_nodes-all inside m (omega arith), e) refl

  open-top : (root : A) (inside : Forest A) → IsOpen (tree root inside none) zero
  open-top root inside = record { within = omega arith; at_end = omega arith }

  open-inside : (root : A) (inside : Forest A) (n : ℕ) → IsOpen inside n → IsOpen (tree root inside none) (suc n)
  open-inside root inside n o = record {
    within = let fits = o.within in omega arith;
    at_end = rw (from-inside root inside none n o.within) (omega (arith, o.at_end));
  }

  open-behind : (root : A) (inside behind : Forest A) (n : ℕ) → IsOpen behind n → IsOpen (tree root inside behind) (suc (count inside + n))
  open-behind root inside behind n o = record {
    within = let fits = o.within in omega arith;
    at_end = rw (from-behind root inside behind n) (omega (arith, o.at_end));
  }

  -- the next node of the forest, and where it joins
  record Joins (forest : Forest A) (n : ℕ) : Type 0 where
    grows : (item : A) → first_root (from forest n) ≡ Some item → first_nodes forest (suc n) ≡ grown (first_nodes forest n) (parent forest n) item
    is_open : (p : ℕ) → parent forest n ≡ Some p → IsOpen (first_nodes forest n) p

  joins : (forest : Forest A) (n : ℕ) → n < count forest → Joins forest n
  joins = node_ind Joins top within after
    where
      top : (root : A) (inside behind : Forest A) → Joins (tree root inside behind) zero
      top root inside behind = record {
        grows = λ item is. let same : root ≡ item = cc in cut-inside root inside behind zero (omega arith) ∙ ap (λ lower. tree root lower none) (first_nodes-none inside) ∙ ap leaf same;
        is_open = λ p is. cc;
      }

      within_grows : (root item : A) (inside behind : Forest A) (n : ℕ) → n < count inside → (o : Option ℕ) → parent inside n ≡ o → first_nodes inside (suc n) ≡ grown (first_nodes inside n) o item → tree root (first_nodes inside (suc n)) none ≡ under (tree root (first_nodes inside n) none) (or_root o) item
      within_grows root item inside behind n lt None up ih = ap (λ lower. tree root lower none) ih
      within_grows root item inside behind n lt (Some p) up ih =
          let before = parent-before inside p n lt up in
          let fits : p < count (first_nodes inside n) = omega (arith, count-first_nodes inside n) in
          ap (λ lower. tree root lower none) ih ∙ sym (under-inside root (first_nodes inside n) none p item fits)

      within_open : (root : A) (inside : Forest A) (n : ℕ) (o : Option ℕ) → ((p : ℕ) → o ≡ Some p → IsOpen (first_nodes inside n) p) → IsOpen (tree root (first_nodes inside n) none) (or_root o)
      within_open root inside n None open_ = open-top root (first_nodes inside n)
      within_open root inside n (Some p) open_ = open-inside root (first_nodes inside n) p (open_ p refl)

      within : (root : A) (inside behind : Forest A) (n : ℕ) → n < count inside → Joins inside n → Joins (tree root inside behind) (suc n)
      within root inside behind n lt ih = record {
        grows = λ item is.
            let lower = rw (from-inside root inside behind n lt) at is in
            rw (cut-inside root inside behind (suc n) (omega arith), cut-inside root inside behind n (omega arith), parent-inside root inside behind n lt)
            (within_grows root item inside behind n lt (parent inside n) refl (ih.grows item lower));
        is_open = λ p is.
            let up = rw (parent-inside root inside behind n lt) at is in
            let same : or_root (parent inside n) ≡ p = cc in
            rw (cut-inside root inside behind n (omega arith), ← same) (within_open root inside n (parent inside n) ih.is_open);
      }

      after_grows : (root item : A) (inside behind : Forest A) (n : ℕ) (o : Option ℕ) → first_nodes behind (suc n) ≡ grown (first_nodes behind n) o item → tree root inside (first_nodes behind (suc n)) ≡ grown (tree root inside (first_nodes behind n)) (option_map (λ m. suc (count inside + m)) o) item
      after_grows root item inside behind n None ih = ap (tree root inside) ih
      after_grows root item inside behind n (Some p) ih = ap (tree root inside) ih ∙ sym (under-behind root inside (first_nodes behind n) p item)

      after_open : (root : A) (inside behind : Forest A) (n : ℕ) (o : Option ℕ) → ((p : ℕ) → o ≡ Some p → IsOpen (first_nodes behind n) p) → (p : ℕ) → option_map (λ m. suc (count inside + m)) o ≡ Some p → IsOpen (tree root inside (first_nodes behind n)) p
      after_open root inside behind n None open_ p is = cc
      after_open root inside behind n (Some q) open_ p is =
          let same : suc (count inside + q) ≡ p = cc in
          subst (IsOpen (tree root inside (first_nodes behind n))) same (open-behind root inside (first_nodes behind n) q (open_ q refl))

      after : (root : A) (inside behind : Forest A) (n : ℕ) → n < count behind → Joins behind n → Joins (tree root inside behind) (suc (count inside + n))
      after root inside behind n lt ih = record {
        grows = λ item is.
            let lower = rw (from-behind root inside behind n) at is in
            let e : suc (count inside + n) ≡ count inside + suc n = omega arith in
            rw (cut-behind root inside behind (suc n) (suc (count inside + n)) e, cut-behind root inside behind n (count inside + n) refl, parent-behind root inside behind n)
            (after_grows root item inside behind n (parent behind n) (ih.grows item lower));
        is_open = λ p is.
            let up = rw (parent-behind root inside behind n) at is in
            rw (cut-behind root inside behind n (count inside + n) refl) (after_open root inside behind n (parent behind n) ih.is_open p up);
      }

  pub grows-next : (forest : Forest A) (n : ℕ) (item : A) → node_at forest n ≡ Some item → first_nodes forest (suc n) ≡ grown (first_nodes forest n) (parent forest n) item
  grows-next forest n item is =
      let lt : n < count forest = omega (arith, slice_get_within (preorder forest) n item is, count-preorder forest) in
      (joins forest n lt).grows item (sym (node-root forest n lt) ∙ is)

  only_root : (forest : Forest A) (n : ℕ) → trees forest ≡ 1 → n < count forest → parent forest n ≡ None → n ≡ 0
  only_root none n one lt is = absurd (omega arith)
  only_root (tree root inside none) zero one lt is = refl
  only_root (tree root inside none) (suc n) one lt is = let up = sym (parent-inside root inside none n (omega arith)) ∙ is in cc
  only_root (tree root inside (tree other lower behind)) n one lt is = absurd (omega arith)

  pub may_grow-next : (forest : Forest A) (n : ℕ) → trees forest ≡ 1 → n < count forest → MayGrow (first_nodes forest n) (parent forest n)
  may_grow-next forest n one lt = by (parent forest n) refl
    where
      by : (o : Option ℕ) → parent forest n ≡ o → MayGrow (first_nodes forest n) o
      by None is = omega (arith, only_root forest n one lt is, count-first_nodes forest n)
      by (Some p) is = (joins forest n lt).is_open p is
