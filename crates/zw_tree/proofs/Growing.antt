-- A forest that grows by a leaf behind all others.
use Rattle.std.proofs.Common.{◌≡◌, ◌≢◌, ℕ, zero, suc, ◌+◌, ◌-◌, ◌<◌, ◌≤◌, ◌⊎◌, inl, inr, [], ◌∷◌, ◌++◌, Some, None, refl, sym, ap, ◌∙◌, subst, arith, append_assoc, append-nil, add-zero}
use Rattle.std.proofs.lemmas.Bool.{cases_lt}
use Rattle.zw_tree.specs.Trees.{Forest, none, tree, leaf, beside, count, preorder}
use Rattle.zw_tree.specs.Numbering.{from, below, last, roots, children, parent}
use Rattle.zw_tree.specs.Growth.{under, IsOpen}
use Rattle.zw_tree.proofs.Nodes.{cond_inside, cond_behind, minus, node_ind, from-inside, from-behind, parent-inside, parent-behind, count-beside, last-within}

module _ {A : Type 0} where
  pub none_when_empty : (forest : Forest A) → count forest ≡ 0 → forest ≡ none
  none_when_empty none e = refl
  none_when_empty (tree root inside behind) e = absurd (omega arith)

  pub under-inside : (root : A) (inside behind : Forest A) (n : ℕ) (item : A) → n < count inside → under (tree root inside behind) (suc n) item ≡ tree root (under inside n item) behind
  under-inside root inside behind n item lt = cond_inside n (count inside) _ _ lt

  pub under-behind : (root : A) (inside behind : Forest A) (n : ℕ) (item : A) → under (tree root inside behind) (suc (count inside + n)) item ≡ tree root inside (under behind n item)
  under-behind root inside behind n item = cond_behind (count inside) n _ _ ∙ ap (λ m. tree root inside (under behind m item)) (minus (count inside) n)

  -- induction on the way to an open node: nothing stands behind the trees that it is in
  pub open_ind : (P : Forest A → ℕ → Type 0) → ((root : A) (inside : Forest A) → P (tree root inside none) zero) → ((root : A) (inside : Forest A) (n : ℕ) → IsOpen inside n → P inside n → P (tree root inside none) (suc n)) → ((root : A) (inside behind : Forest A) (n : ℕ) → IsOpen behind n → P behind n → P (tree root inside behind) (suc (count inside + n))) → (forest : Forest A) (n : ℕ) → IsOpen forest n → P forest n
  open_ind P here within after forest n open_ = node_ind (λ forest n. IsOpen forest n → P forest n)
      (λ root inside behind o.
      let at_end = o.at_end in
      let empty : count behind ≡ 0 = omega arith in
      subst (λ rest. P (tree root inside rest) zero) (sym (none_when_empty behind empty)) (here root inside))
      (λ root inside behind n lt ih o.
      let at_end = rw (from-inside root inside behind n lt) at o.at_end in
      let deep = last-within inside n lt in
      let empty : count behind ≡ 0 = omega arith in
      let ends : suc (last inside n) ≡ count inside = omega arith in
      subst (λ rest. P (tree root inside rest) (suc n)) (sym (none_when_empty behind empty)) (let inner : IsOpen inside n = record { within = lt; at_end = ends } in within root inside n inner (ih inner)))
      (λ root inside behind n lt ih o.
      let at_end = rw (from-behind root inside behind n) at o.at_end in
      let ends : suc (last behind n) ≡ count behind = omega arith in
      let inner : IsOpen behind n = record { within = lt; at_end = ends } in after root inside behind n inner (ih inner))
      forest n open_.within open_

  -- one node more
  pub count-under : (item : A) (forest : Forest A) (n : ℕ) → n < count forest → count (under forest n item) ≡ suc (count forest)
  count-under item = node_ind (λ forest n. count (under forest n item) ≡ suc (count forest))
      (λ root inside behind. let both = count-beside inside (leaf item) in omega arith)
      (λ root inside behind n lt ih. rw (under-inside root inside behind n item lt) (omega arith))
      (λ root inside behind n lt ih. rw (under-behind root inside behind n item) (omega arith))

  pub preorder-beside : (forest others : Forest A) → preorder (beside forest others) ≡ preorder forest ++ preorder others
  preorder-beside none others = refl
  preorder-beside (tree root inside behind) others =
      ap (λ list. root ∷ (preorder inside ++ list)) (preorder-beside behind others) ∙ sym (ap (λ list. root ∷ list) (append_assoc (preorder inside) (preorder behind) (preorder others)))

  -- the leaf is the last one in preorder
  pub preorder-under : (item : A) (forest : Forest A) (n : ℕ) → IsOpen forest n → preorder (under forest n item) ≡ preorder forest ++ item ∷ []
  preorder-under item = open_ind (λ forest n. preorder (under forest n item) ≡ preorder forest ++ item ∷ [])
      (λ root inside. simp (append-nil, preorder-beside))
      (λ root inside n o ih. rw (under-inside root inside none n item o.within) (simp (append-nil, ih)))
      (λ root inside behind n o ih. rw (under-behind root inside behind n item) (simp (ih, append_assoc)))

  -- what is below the node
  pub below-under-same : (item : A) (forest : Forest A) (n : ℕ) → n < count forest → below (under forest n item) n ≡ beside (below forest n) (leaf item)
  below-under-same item = node_ind (λ forest n. below (under forest n item) n ≡ beside (below forest n) (leaf item))
      (λ root inside behind. refl)
      (λ root inside behind n lt ih.
      let more = count-under item inside n lt in
      let fits : n < count (under inside n item) = omega arith in
      rw (under-inside root inside behind n item lt, from-inside root (under inside n item) behind n fits, from-inside root inside behind n lt) ih)
      (λ root inside behind n lt ih. rw (under-behind root inside behind n item, from-behind root inside (under behind n item) n, from-behind root inside behind n) ih)

  pub from-beside-end : (forest others : Forest A) → from (beside forest others) (count forest) ≡ others
  from-beside-end none none = refl
  from-beside-end none (tree root inside behind) = refl
  from-beside-end (tree root inside behind) others = from-behind root inside (beside behind others) (count behind) ∙ from-beside-end behind others

  pub below-beside : (others forest : Forest A) (n : ℕ) → n < count forest → below (beside forest others) n ≡ below forest n
  below-beside others = node_ind (λ forest n. below (beside forest others) n ≡ below forest n)
      (λ root inside behind. refl)
      (λ root inside behind n lt ih. rw (from-inside root inside (beside behind others) n lt, from-inside root inside behind n lt) refl)
      (λ root inside behind n lt ih. rw (from-behind root inside (beside behind others) n, from-behind root inside behind n) ih)

  -- the leaf itself has nothing below it
  pub below-under-new : (item : A) (forest : Forest A) (n : ℕ) → IsOpen forest n → below (under forest n item) (count forest) ≡ none
  below-under-new item = open_ind (λ forest n. below (under forest n item) (count forest) ≡ none)
      (λ root inside.
      let more = count-beside inside (leaf item) in
      let fits : count inside < count (beside inside (leaf item)) = omega arith in
      rw (add-zero, from-inside root (beside inside (leaf item)) none (count inside) fits, from-beside-end inside (leaf item)) refl)
      (λ root inside n o ih.
      let more = count-under item inside n o.within in
      let fits : count inside < count (under inside n item) = omega arith in
      rw (under-inside root inside none n item o.within, add-zero, from-inside root (under inside n item) none (count inside) fits) ih)
      (λ root inside behind n o ih. rw (under-behind root inside behind n item, from-behind root inside (under behind n item) (count behind)) ih)

  -- the roots keep their numbers
  pub roots-under : (item : A) (forest : Forest A) (n : ℕ) → IsOpen forest n → (first : ℕ) → roots (under forest n item) first ≡ roots forest first
  roots-under item = open_ind (λ forest n. (first : ℕ) → roots (under forest n item) first ≡ roots forest first)
      (λ root inside first. refl)
      (λ root inside n o ih first. rw (under-inside root inside none n item o.within) refl)
      (λ root inside behind n o ih first. rw (under-behind root inside behind n item) (ap (λ list. first ∷ list) (ih (suc (first + count inside)))))

  pub roots-beside : (forest others : Forest A) (first : ℕ) → roots (beside forest others) first ≡ roots forest first ++ roots others (first + count forest)
  roots-beside none others first = rw add-zero refl
  roots-beside (tree root inside behind) others first =
      let shift : suc (first + count inside) + count behind ≡ first + suc (count inside + count behind) = omega arith in
      ap (λ list. first ∷ list) (roots-beside behind others (suc (first + count inside)) ∙ ap (λ k. roots behind (suc (first + count inside)) ++ roots others k) shift)

  -- the other nodes keep their children
  pub children-under-other : (item : A) (forest : Forest A) (n : ℕ) → IsOpen forest n → (m : ℕ) → m < count forest → m ≢ n → (first : ℕ) → roots (below (under forest n item) m) first ≡ roots (below forest m) first
  children-under-other item = open_ind (λ forest n. (m : ℕ) → m < count forest → m ≢ n → (first : ℕ) → roots (below (under forest n item) m) first ≡ roots (below forest m) first)
      here
      within
      after
    where
      here : (root : A) (inside : Forest A) (m : ℕ) → m < count (tree root inside none) → m ≢ zero → (first : ℕ) → roots (below (tree root (beside inside (leaf item)) none) m) first ≡ roots (below (tree root inside none) m) first
      here root inside zero lt ne first = absurd (ne refl)
      here root inside (suc m) lt ne first =
          let fits : m < count inside = omega arith in
          let more = count-beside inside (leaf item) in
          let fits_too : m < count (beside inside (leaf item)) = omega arith in
          rw (from-inside root (beside inside (leaf item)) none m fits_too, from-inside root inside none m fits, below-beside (leaf item) inside m fits) refl

      within : (root : A) (inside : Forest A) (n : ℕ) → IsOpen inside n → ((m : ℕ) → m < count inside → m ≢ n → (first : ℕ) → roots (below (under inside n item) m) first ≡ roots (below inside m) first) → (m : ℕ) → m < count (tree root inside none) → m ≢ suc n → (first : ℕ) → roots (below (under (tree root inside none) (suc n) item) m) first ≡ roots (below (tree root inside none) m) first
      within root inside n o ih zero lt ne first = rw (under-inside root inside none n item o.within) (roots-under item inside n o first)
      within root inside n o ih (suc m) lt ne first =
          let fits : m < count inside = omega arith in
          let more = count-under item inside n o.within in
          let fits_too : m < count (under inside n item) = omega arith in
          let apart : m ≢ n = λ e. ne (ap suc e) in
          rw (under-inside root inside none n item o.within, from-inside root (under inside n item) none m fits_too, from-inside root inside none m fits) (ih m fits apart first)

      after_at : (root : A) (inside behind : Forest A) (n : ℕ) → ((m : ℕ) → m < count behind → m ≢ n → (first : ℕ) → roots (below (under behind n item) m) first ≡ roots (below behind m) first) → (m : ℕ) → m < count inside + count behind → m ≢ count inside + n → (first : ℕ) → (m < count inside) ⊎ (count inside ≤ m) → roots (below (tree root inside (under behind n item)) (suc m)) first ≡ roots (below (tree root inside behind) (suc m)) first
      after_at root inside behind n ih m lt ne first (inl l) = rw (from-inside root inside (under behind n item) m l, from-inside root inside behind m l) refl
      after_at root inside behind n ih m lt ne first (inr g) =
          let k : ℕ = m - count inside in
          let fits : k < count behind = omega arith in
          let e : m ≡ count inside + k = omega arith in
          let apart : k ≢ n = λ same. ne (omega arith) in
          rw (e, from-behind root inside (under behind n item) k, from-behind root inside behind k) (ih k fits apart first)

      after : (root : A) (inside behind : Forest A) (n : ℕ) → IsOpen behind n → ((m : ℕ) → m < count behind → m ≢ n → (first : ℕ) → roots (below (under behind n item) m) first ≡ roots (below behind m) first) → (m : ℕ) → m < count (tree root inside behind) → m ≢ suc (count inside + n) → (first : ℕ) → roots (below (under (tree root inside behind) (suc (count inside + n)) item) m) first ≡ roots (below (tree root inside behind) m) first
      after root inside behind n o ih zero lt ne first = rw (under-behind root inside behind n item) refl
      after root inside behind n o ih (suc m) lt ne first =
          let fits : m < count inside + count behind = omega arith in
          let apart : m ≢ count inside + n = λ e. ne (ap suc e) in
          rw (under-behind root inside behind n item) (after_at root inside behind n ih m fits apart first (cases_lt m (count inside)))

  -- parents
  pub parent-beside : (others forest : Forest A) (n : ℕ) → n < count forest → parent (beside forest others) n ≡ parent forest n
  parent-beside others = node_ind (λ forest n. parent (beside forest others) n ≡ parent forest n)
      (λ root inside behind. refl)
      (λ root inside behind n lt ih. rw (parent-inside root inside (beside behind others) n lt, parent-inside root inside behind n lt) refl)
      (λ root inside behind n lt ih. rw (parent-behind root inside (beside behind others) n, parent-behind root inside behind n, ih) refl)

  pub parent-beside-end : (item : A) (forest : Forest A) → parent (beside forest (leaf item)) (count forest) ≡ None
  parent-beside-end item none = refl
  parent-beside-end item (tree root inside behind) = rw (parent-behind root inside (beside behind (leaf item)) (count behind), parent-beside-end item behind) refl

  -- the leaf's parent is the node
  pub parent-under-new : (item : A) (forest : Forest A) (n : ℕ) → IsOpen forest n → parent (under forest n item) (count forest) ≡ Some n
  parent-under-new item = open_ind (λ forest n. parent (under forest n item) (count forest) ≡ Some n)
      (λ root inside.
      let more = count-beside inside (leaf item) in
      let fits : count inside < count (beside inside (leaf item)) = omega arith in
      rw (add-zero, parent-inside root (beside inside (leaf item)) none (count inside) fits, parent-beside-end item inside) refl)
      (λ root inside n o ih.
      let more = count-under item inside n o.within in
      let fits : count inside < count (under inside n item) = omega arith in
      rw (under-inside root inside none n item o.within, add-zero, parent-inside root (under inside n item) none (count inside) fits, ih) refl)
      (λ root inside behind n o ih. rw (under-behind root inside behind n item, parent-behind root inside (under behind n item) (count behind), ih) refl)

  -- the other nodes keep theirs
  pub parent-under-other : (item : A) (forest : Forest A) (n : ℕ) → IsOpen forest n → (m : ℕ) → m < count forest → parent (under forest n item) m ≡ parent forest m
  parent-under-other item = open_ind (λ forest n. (m : ℕ) → m < count forest → parent (under forest n item) m ≡ parent forest m)
      here
      within
      after
    where
      here : (root : A) (inside : Forest A) (m : ℕ) → m < count (tree root inside none) → parent (tree root (beside inside (leaf item)) none) m ≡ parent (tree root inside none) m
      here root inside zero lt = refl
      here root inside (suc m) lt =
          let fits : m < count inside = omega arith in
          let more = count-beside inside (leaf item) in
          let fits_too : m < count (beside inside (leaf item)) = omega arith in
          rw (parent-inside root (beside inside (leaf item)) none m fits_too, parent-inside root inside none m fits, parent-beside (leaf item) inside m fits) refl

      within : (root : A) (inside : Forest A) (n : ℕ) → IsOpen inside n → ((m : ℕ) → m < count inside → parent (under inside n item) m ≡ parent inside m) → (m : ℕ) → m < count (tree root inside none) → parent (under (tree root inside none) (suc n) item) m ≡ parent (tree root inside none) m
      within root inside n o ih zero lt = rw (under-inside root inside none n item o.within) refl
      within root inside n o ih (suc m) lt =
          let fits : m < count inside = omega arith in
          let more = count-under item inside n o.within in
          let fits_too : m < count (under inside n item) = omega arith in
          rw (under-inside root inside none n item o.within, parent-inside root (under inside n item) none m fits_too, parent-inside root inside none m fits, ih m fits) refl

      after_at : (root : A) (inside behind : Forest A) (n : ℕ) → ((m : ℕ) → m < count behind → parent (under behind n item) m ≡ parent behind m) → (m : ℕ) → m < count inside + count behind → (m < count inside) ⊎ (count inside ≤ m) → parent (tree root inside (under behind n item)) (suc m) ≡ parent (tree root inside behind) (suc m)
      after_at root inside behind n ih m lt (inl l) = rw (parent-inside root inside (under behind n item) m l, parent-inside root inside behind m l) refl
      after_at root inside behind n ih m lt (inr g) =
          let k : ℕ = m - count inside in
          let fits : k < count behind = omega arith in
          let e : m ≡ count inside + k = omega arith in
          rw (e, parent-behind root inside (under behind n item) k, parent-behind root inside behind k, ih k fits) refl

      after : (root : A) (inside behind : Forest A) (n : ℕ) → IsOpen behind n → ((m : ℕ) → m < count behind → parent (under behind n item) m ≡ parent behind m) → (m : ℕ) → m < count (tree root inside behind) → parent (under (tree root inside behind) (suc (count inside + n)) item) m ≡ parent (tree root inside behind) m
      after root inside behind n o ih zero lt = rw (under-behind root inside behind n item) refl
      after root inside behind n o ih (suc m) lt =
          let fits : m < count inside + count behind = omega arith in
          rw (under-behind root inside behind n item) (after_at root inside behind n ih m fits (cases_lt m (count inside)))

  -- in numbers: the leaf is the last child of its parent
  pub children-under-same : (item : A) (forest : Forest A) (n : ℕ) → IsOpen forest n → children (under forest n item) n ≡ children forest n ++ count forest ∷ []
  children-under-same item forest n o =
      let e : suc n + count (below forest n) ≡ count forest = omega (arith, o.at_end) in
      rw (below-under-same item forest n o.within, roots-beside (below forest n) (leaf item) (suc n), e) refl

  pub children-under-new : (item : A) (forest : Forest A) (n : ℕ) → IsOpen forest n → children (under forest n item) (count forest) ≡ []
  children-under-new item forest n o = rw (below-under-new item forest n o) refl
