-- Trees of a forest by the numbers of their roots.
use Rattle.std.proofs.Common.{◌≡◌, ℕ, zero, suc, ◌+◌, ◌-◌, ◌<◌, ◌≤◌, ◌⊎◌, inl, inr, List, [], ◌∷◌, map, length, Some, None, MatchOption, slice_get, refl, sym, ap, ◌∙◌, subst, arith}
use Rattle.std.proofs.lemmas.Bool.{cases_lt}
use Rattle.zw_tree.specs.Trees.{Forest, none, tree, count}
use Rattle.zw_tree.specs.Numbering.{from, inside_first, below, last, roots, children, child, siblings, after}
use Rattle.zw_tree.proofs.Nodes.{node_ind, from-inside, from-behind, last-within}

pub last_get : {X : Type 0} (xs : List X) (x : X) → slice_get xs (length xs - 1) ≡ Some x → (length xs - 1) + 1 ≡ length xs
last_get [] x at = absurd (cc)
last_get (y ∷ ys) x at = omega arith

module _ {A : Type 0} where
  -- a number past the last node is of no tree
  pub from-past : (forest : Forest A) (n : ℕ) → count forest ≤ n → from forest n ≡ none
  from-past none n h = refl
  from-past (tree root inside behind) zero h = absurd (omega arith)
  from-past (tree root inside behind) (suc n) h =
      let k : ℕ = n - count inside in
      let e : count inside + k ≡ n = omega arith in
      let past : count behind ≤ k = omega arith in
      subst (λ m. from (tree root inside behind) (suc m) ≡ none) e (from-behind root inside behind k ∙ from-past behind k past)

  pub from-there : (forest : Forest A) (n : ℕ) → 0 < count (from forest n) → n < count forest
  from-there forest n h = by (cases_lt n (count forest))
    where
      by : (n < count forest) ⊎ (count forest ≤ n) → n < count forest
      by (inl lt) = lt
      by (inr past) = let gone = ap count (from-past forest n past) in absurd (omega (arith, gone, h))

  -- what stands at a number ends within the forest, and what stands in it is numbered on
  count-from : (forest : Forest A) (n : ℕ) → n < count forest → n + count (from forest n) ≤ count forest
  count-from = node_ind (λ forest n. n + count (from forest n) ≤ count forest)
      (λ root inside behind. omega arith)
      (λ root inside behind n lt ih. rw (from-inside root inside behind n lt) (omega arith))
      (λ root inside behind n lt ih. rw (from-behind root inside behind n) (omega arith))

  pub from-from : (forest : Forest A) (n : ℕ) → n < count forest → (j m : ℕ) → m ≡ n + j → j < count (from forest n) → from forest m ≡ from (from forest n) j
  from-from = node_ind (λ forest n. (j m : ℕ) → m ≡ n + j → j < count (from forest n) → from forest m ≡ from (from forest n) j)
      (λ root inside behind j m e lt. let same : m ≡ j = omega arith in ap (from (tree root inside behind)) same)
      (λ root inside behind n here ih j m e lt.
      let eq = from-inside root inside behind n here in
      let lower = rw eq at lt in
      let same : m ≡ suc (n + j) = omega arith in
      let fits : n + j < count inside = omega (arith, count-from inside n here, lower) in
      rw (eq, same) (from-inside root inside behind (n + j) fits ∙ ih j (n + j) refl lower))
      (λ root inside behind n here ih j m e lt.
      let eq = from-behind root inside behind n in
      let lower = rw eq at lt in
      let same : m ≡ suc (count inside + (n + j)) = omega arith in
      rw (eq, same) (from-behind root inside behind (n + j) ∙ ih j (n + j) refl lower))

  -- these trees stand side by side from a number on
  abbrev pub Stands : Forest A → ℕ → Forest A → Type 0
  Stands forest k none = Unit {0}
  Stands forest k (tree root inside behind) = from forest k ≡ tree root inside behind

  stands-there : (forest : Forest A) (k : ℕ) (root : A) (inside behind : Forest A) → from forest k ≡ tree root inside behind → k < count forest
  stands-there forest k root inside behind h = let size = ap count h in from-there forest k (omega (arith, size))

  pub stands-inside : (forest : Forest A) (k : ℕ) (root : A) (inside behind : Forest A) → from forest k ≡ tree root inside behind → Stands forest (suc k) inside
  stands-inside forest k root none behind h = tt
  stands-inside forest k root (tree r i b) behind h =
      let size = ap count h in
      let there = stands-there forest k root (tree r i b) behind h in
      from-from forest k there 1 (suc k) (omega arith) (omega (arith, size)) ∙ ap (λ f. from f 1) h ∙ from-inside root (tree r i b) behind 0 (omega arith)

  pub stands-behind : (forest : Forest A) (k : ℕ) (root : A) (inside behind : Forest A) → from forest k ≡ tree root inside behind → Stands forest (suc (k + count inside)) behind
  stands-behind forest k root inside none h = tt
  stands-behind forest k root inside (tree r i b) h =
      let size = ap count h in
      let there = stands-there forest k root inside (tree r i b) h in
      let e : count inside ≡ count inside + 0 = omega arith in
      from-from forest k there (suc (count inside)) (suc (k + count inside)) (omega arith) (omega (arith, size))
      ∙ ap (λ f. from f (suc (count inside))) h
      ∙ ap (λ m. from (tree root inside (tree r i b)) (suc m)) e
      ∙ from-behind root inside (tree r i b) 0

  pub below-stands : (forest : Forest A) (n : ℕ) → Stands forest (suc n) (inside_first (from forest n))
  below-stands forest n = by (from forest n) refl
    where
      by : (f : Forest A) → from forest n ≡ f → Stands forest (suc n) (inside_first f)
      by none h = tt
      by (tree root inside behind) h = stands-inside forest n root inside behind h

  -- the roots of trees that stand somewhere
  pub siblings-stand : (forest f : Forest A) (k : ℕ) → Stands forest k f → map (from forest) (roots f k) ≡ siblings f
  siblings-stand forest none k h = refl
  siblings-stand forest (tree root inside behind) k h =
      let rest = siblings-stand forest behind (suc (k + count inside)) (stands-behind forest k root inside behind h) in
      λ i. h i ∷ rest i

  pub after-none : (j : ℕ) → after {A = A} j none ≡ none
  after-none zero = refl
  after-none (suc j) = after-none j

  pub child-stands : (forest f : Forest A) (k j : ℕ) → Stands forest k f → MatchOption (slice_get (roots f k) j) (after j f ≡ none) (λ c. (from forest c ≡ after j f) × (0 < count (from forest c)))
  child-stands forest none k j h = after-none j
  child-stands forest (tree root inside behind) k zero h = let size = ap count h in (h, omega (arith, size))
  child-stands forest (tree root inside behind) k (suc j) h =
      child-stands forest behind (suc (k + count inside)) j (stands-behind forest k root inside behind h)

  -- the nodes below a node
  pub children-are : (forest : Forest A) (n : ℕ) → map (from forest) (children forest n) ≡ siblings (inside_first (from forest n))
  children-are forest n = siblings-stand forest (below forest n) (suc n) (below-stands forest n)

  pub child-is : (forest : Forest A) (n j : ℕ) → MatchOption (child forest n j) (after j (inside_first (from forest n)) ≡ none) (λ c. (from forest c ≡ after j (inside_first (from forest n))) × (0 < count (from forest c)))
  child-is forest n j = child-stands forest (below forest n) (suc n) j (below-stands forest n)

  pub inside-past : (forest : Forest A) (n : ℕ) → count forest ≤ n → inside_first (from forest n) ≡ none
  inside-past forest n past = ap inside_first (from-past forest n past)

  -- the last tree of a forest ends where the forest does
  last-root : (forest f : Forest A) (k c : ℕ) → Stands forest k f → (j : ℕ) → j + 1 ≡ length (roots f k) → slice_get (roots f k) j ≡ Some c → (k ≤ c) × (suc (c + count (inside_first (from forest c))) ≡ k + count f)
  last-root forest none k c h j e at = absurd (cc)
  last-root forest (tree root inside none) k c h zero e at =
      let same : k ≡ c = cc in
      let size = ap (λ f. count (inside_first f)) h in
      subst (λ d. (k ≤ d) × (suc (d + count (inside_first (from forest d))) ≡ k + suc (count inside + 0))) same (omega arith, omega (arith, size))
  last-root forest (tree root inside none) k c h (suc j) e at = absurd (omega arith)
  last-root forest (tree root inside (tree r i b)) k c h zero e at = absurd (omega arith)
  last-root forest (tree root inside (tree r i b)) k c h (suc j) e at =
      let rest = last-root forest (tree r i b) (suc (k + count inside)) c (stands-behind forest k root inside (tree r i b) h) j (omega arith) at in
      (omega (arith, rest.0), omega (arith, rest.1))

  -- the last node below a node is the last one below its last child
  pub last-child : (forest : Forest A) (n c : ℕ) → n < count forest → Some c ≡ slice_get (children forest n) (length (children forest n) - 1) → (n < c) × (c < count forest) × (last forest c ≡ last forest n)
  last-child forest n c lt at =
      let r = last-root forest (below forest n) (suc n) c (below-stands forest n) (length (children forest n) - 1) (last_get (children forest n) c (sym at)) (sym at) in
      let within = last-within forest n lt in
      (omega (arith, r.0), omega (arith, r.1, within), omega (arith, r.1))

  pub no-child : (forest : Forest A) (n : ℕ) → None ≡ slice_get (children forest n) (length (children forest n) - 1) → last forest n ≡ n
  no-child forest n at = by (below forest n) at
    where
      by : (f : Forest A) → None ≡ slice_get (roots f (suc n)) (length (roots f (suc n)) - 1) → n + count f ≡ n
      by none at = omega arith
      by (tree root inside behind) at = absurd (some (suc n) (roots behind (suc (suc n + count inside))) at)
        where
          there : (xs : List ℕ) (x : ℕ) (j : ℕ) → j ≡ length xs → None ≡ slice_get (x ∷ xs) j → ⊥
          there [] x zero e h = cc
          there [] x (suc j) e h = omega arith
          there (y ∷ ys) x zero e h = omega arith
          there (y ∷ ys) x (suc j) e h = there ys y j (omega arith) h

          some : (x : ℕ) (xs : List ℕ) → None ≡ slice_get (x ∷ xs) (length (x ∷ xs) - 1) → ⊥
          some x xs h = there xs x (length (x ∷ xs) - 1) (omega arith) h
