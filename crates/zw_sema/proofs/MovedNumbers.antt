-- The numbers of nodes where a declaration is exchanged for one of another size: in front of it they stay, and behind it they move by the difference.
use Rattle.std.proofs.Common.{◌≡◌, refl, ℕ, zero, suc, ◌+◌, ◌-◌, ◌<◌, ◌≤◌, ◌⊎◌, inl, inr, Bool, true, false, nat_eq, List, ◌∷◌, ap, sym, subst, ◌∙◌, arith, add-zero}
use Rattle.std.specs.Prelude.{if◌then◌else◌, nat_le, nat_lt, cond, map}
use Rattle.std.proofs.lemmas.Bool.{eqb-true, eqb-false, eq-eqb, ne_eqb, le-leb, leb-true, leb-false, lt-ltb, ltb-true, ltb-false}
use Rattle.zw_tree.specs.Trees.{Forest, none, tree, count, beside}
use Rattle.zw_tree.specs.Numbering.{from, roots}
use Rattle.zw_tree.specs.declared.ast.Entry.{Entry}
use Rattle.zw_env.specs.Children.{first_tree, tree_at, root_numbered, is_among}
use Rattle.zw_sema.specs.Exchanged.{SayTheSame}
use Rattle.zw_sema.proofs.MovedTrees.{IsApart, Fits, Goes, past, count-same, root-moves}

-- ---- numbers

-- Where the declaration has number `d` and this many nodes, and the other one that many: numbers up to it stay, and those behind it move. The numbers below it,
-- which the other file doesn't have, become the root's.
abbrev pub moves_to : ℕ → ℕ → ℕ → ℕ → ℕ
moves_to d size other n = if nat_le n d then n else (if nat_lt n (d + size) then 0 else ((n + other) - size))

pub record AreSizes (size other : ℕ) : Type 0 where
  pub size_least : 1 ≤ size
  pub other_least : 1 ≤ other

pub front-stays : (d size other n : ℕ) → n ≤ d → moves_to d size other n ≡ n
front-stays d size other n h = ap (λ (t : Bool). if t then n else (if nat_lt n (d + size) then 0 else ((n + other) - size))) (le-leb n d h)

-- the three cases
abbrev pub Cases : ℕ → ℕ → ℕ → ℕ → ℕ → Type 0
Cases d size other n m = ((n ≤ d) × (m ≡ n)) ⊎ (((d < n) × ((n < d + size) × (m ≡ 0))) ⊎ ((d + size ≤ n) × (m + size ≡ n + other)))

cases-of : (d size other n : ℕ) → Cases d size other n (moves_to d size other n)
cases-of d size other n = by_front (nat_le n d) refl
  where
    by_behind : d < n → (inside : Bool) → nat_lt n (d + size) ≡ inside → Cases d size other n (if inside then 0 else ((n + other) - size))
    by_behind h true e = inr (inl (h, (ltb-true n (d + size) e, refl)))
    by_behind h false e = let least : d + size ≤ n = ltb-false n (d + size) e in inr (inr (least, omega arith))

    by_front : (front : Bool) → nat_le n d ≡ front → Cases d size other n (if front then n else (if nat_lt n (d + size) then 0 else ((n + other) - size)))
    by_front true e = inl (leb-true n d e, refl)
    by_front false e = by_behind (leb-false n d e) (nat_lt n (d + size)) refl

pub behind-moves : (d size other n : ℕ) → AreSizes size other → d + size ≤ n → moves_to d size other n + size ≡ n + other
behind-moves d size other n s h = by_cases (moves_to d size other n) (cases-of d size other n)
  where
    by_cases : (m : ℕ) → Cases d size other n m → m + size ≡ n + other
    by_cases m (inl (a, e)) = let least : 1 ≤ size = s.size_least in absurd (omega arith)
    by_cases m (inr (inl (a, (b, e)))) = absurd (omega arith)
    by_cases m (inr (inr (a, e))) = e

-- a node's number: in front, or the declaration's, or behind
abbrev pub IsNode : ℕ → ℕ → ℕ → Type 0
IsNode d size n = ((1 ≤ n) × (n ≤ d)) ⊎ (d + size ≤ n)

same_tests : (x y n m : ℕ) → (x ≡ y → n ≡ m) → (n ≡ m → x ≡ y) → nat_eq x y ≡ nat_eq n m
same_tests x y n m back forth = by_tests (nat_eq x y) (nat_eq n m) refl refl
  where
    by_tests : (t u : Bool) → nat_eq x y ≡ t → nat_eq n m ≡ u → t ≡ u
    by_tests true true e d = refl
    by_tests false false e d = refl
    by_tests true false e d = absurd (eqb-false n m d (back (eqb-true x y e)))
    by_tests false true e d = absurd (eqb-false x y e (forth (eqb-true n m d)))

pub node-apart : (d size other n : ℕ) → AreSizes size other → IsNode d size n → IsApart (moves_to d size other) n
node-apart d size other n s node m =
    same_tests (moves_to d size other n) (moves_to d size other m) n m (λ e. by_node node (moves_to d size other n) (moves_to d size other m) (cases-of d size other n) (cases-of d size other m) e) (λ e. ap (λ (k : ℕ). moves_to d size other k) e)
  where
    by_node : IsNode d size n → (x y : ℕ) → Cases d size other n x → Cases d size other m y → x ≡ y → n ≡ m
    by_node node x y (inr (inl (a, (b, c)))) ys e = absurd (no_node node a b)
      where
        no_node : IsNode d size n → d < n → n < d + size → ⊥
        no_node (inl (h, k)) a b = omega arith
        no_node (inr h) a b = omega arith
    by_node node x y (inl (a, b)) (inl (a', b')) e = omega arith
    by_node (inl (h, k)) x y (inl (a, b)) (inr (inl (a', (b', c')))) e = omega arith
    by_node (inr h) x y (inl (a, b)) (inr (inl (a', (b', c')))) e = let least : 1 ≤ size = s.size_least in omega arith
    by_node node x y (inl (a, b)) (inr (inr (a', b'))) e = let least : 1 ≤ other = s.other_least in omega arith
    by_node node x y (inr (inr (a, b))) (inl (a', b')) e = let least : 1 ≤ other = s.other_least in omega arith
    by_node node x y (inr (inr (a, b))) (inr (inl (a', (b', c')))) e = let least : 1 ≤ other = s.other_least in omega arith
    by_node node x y (inr (inr (a, b))) (inr (inr (a', b'))) e = omega arith

-- ---- forests in front and behind

front-fits : (d size other : ℕ) → AreSizes size other → (f : Forest Entry) (n : ℕ) → 1 ≤ n → n + count f ≤ d → Fits (moves_to d size other) n f
front-fits d size other s none n h k = tt
front-fits d size other s (tree root inside behind) n h k = (
  node-apart d size other n s (inl (h, omega arith)),
  (
    front-stays d size other (suc n) (omega arith) ∙ ap (λ (m : ℕ). suc m) (sym (front-stays d size other n (omega arith))),
    (
      front-stays d size other (suc (n + count inside)) (omega arith) ∙ ap (λ (m : ℕ). suc (m + count inside)) (sym (front-stays d size other n (omega arith))),
      (front-fits d size other s inside (suc n) (omega arith) (omega arith), front-fits d size other s behind (suc (n + count inside)) (omega arith) (omega arith)),
    ),
  ),
)

pub behind-fits : (d size other : ℕ) → AreSizes size other → (f : Forest Entry) (n : ℕ) → d + size ≤ n → Fits (moves_to d size other) n f
behind-fits d size other s none n h = tt
behind-fits d size other s (tree root inside behind) n h =
    (node-apart d size other n s (inr h), (next, (last, (behind-fits d size other s inside (suc n) (omega arith), behind-fits d size other s behind (suc (n + count inside)) (omega arith)))))
  where
    next : moves_to d size other (suc n) ≡ suc (moves_to d size other n)
    next = let here = behind-moves d size other n s h in let there = behind-moves d size other (suc n) s (omega arith) in omega arith

    last : moves_to d size other (suc (n + count inside)) ≡ suc (moves_to d size other n + count inside)
    last = let here = behind-moves d size other n s h in let there = behind-moves d size other (suc (n + count inside)) s (omega arith) in omega arith

-- the roots
pub roots-move : (to : ℕ → ℕ) (f g : Forest Entry) → SayTheSame f g → (n : ℕ) → Fits to n f → roots g (to n) ≡ map to (roots f n)
roots-move to none none s n h = refl
roots-move to none (tree root inside behind) s n h = absurd s
roots-move to (tree root inside behind) none s n h = absurd s
roots-move to (tree root inside behind) (tree root' inside' behind') (r, (i, b)) n (apart, (next, (last, (hi, hb)))) =
    ap (λ (k : ℕ). to n ∷ roots behind' k) (ap (λ (k : ℕ). suc (to n + k)) (count-same inside inside' i) ∙ sym last)
    ∙ ap (λ (ns : List ℕ). to n ∷ ns) (roots-move to behind behind' b (past n inside) hb)

goes-first : (to : ℕ → ℕ) (n : ℕ) (f g : Forest Entry) → Goes to n f g → Goes to n (first_tree f) (first_tree g)
goes-first to n none none (s, h) = (tt, tt)
goes-first to n none (tree root inside behind) (s, h) = absurd s
goes-first to n (tree root inside behind) none (s, h) = absurd s
goes-first to n (tree root inside behind) (tree root' inside' behind') ((r, (i, b)), (apart, (next, (last, (hi, hb))))) = ((r, (i, tt)), (apart, (next, (last, (hi, tt)))))

-- ---- roots and their trees

root-least : (f : Forest Entry) (n k : ℕ) → is_among (roots f n) k ≡ true → n ≤ k
root-least none n k among = cc
root-least (tree root inside behind) n k among = by_test (nat_eq n k) refl among (λ there. root-least behind (past n inside) k there)
  where
    by_test : (same : Bool) → nat_eq n k ≡ same → (if same then true else is_among (roots behind (past n inside)) k) ≡ true → (is_among (roots behind (past n inside)) k ≡ true → past n inside ≤ k) → n ≤ k
    by_test true e there later = let same : n ≡ k = eqb-true n k e in omega arith
    by_test false e there later = let least : suc (n + count inside) ≤ k = later there in omega arith

root-below : (f : Forest Entry) (n k : ℕ) → is_among (roots f n) k ≡ true → k < n + count f
root-below none n k among = cc
root-below (tree root inside behind) n k among = by_test (nat_eq n k) refl among (λ there. root-below behind (past n inside) k there)
  where
    by_test : (same : Bool) → nat_eq n k ≡ same → (if same then true else is_among (roots behind (past n inside)) k) ≡ true → (is_among (roots behind (past n inside)) k ≡ true → k < past n inside + count behind) →
        k < n + suc (count inside + count behind)
    by_test true e there later = let same : n ≡ k = eqb-true n k e in omega arith
    by_test false e there later = let below : k < suc (n + count inside) + count behind = later there in omega arith

-- the tree of a root
at-root : (f : Forest Entry) (n k m : ℕ) → is_among (roots f n) k ≡ true → k ≡ n + m → first_tree (from f m) ≡ first_tree (root_numbered f n k)
at-root none n k m among e = refl
at-root (tree root inside behind) n k zero among e =
    sym (ap (λ (same : Bool). first_tree (elim same [ true ↦ tree root inside behind | false ↦ root_numbered behind (past n inside) k ])) (eq-eqb n k (omega arith)))
at-root (tree root inside behind) n k (suc j) among e =
    ap (λ (inner : Bool). first_tree (cond inner (from inside j) (from behind (j - count inside)))) outer
    ∙ at-root behind (past n inside) k (j - count inside) there (let h : suc (n + count inside) ≤ k = root-least behind (past n inside) k there in omega arith)
    ∙ sym (ap (λ (same : Bool). first_tree (elim same [ true ↦ tree root inside behind | false ↦ root_numbered behind (past n inside) k ])) other)
  where
    other : nat_eq n k ≡ false
    other = ne_eqb n k (λ same. omega arith)

    there : is_among (roots behind (past n inside)) k ≡ true
    there = sym (ap (λ (same : Bool). if same then true else is_among (roots behind (past n inside)) k) other) ∙ among

    outer : nat_lt j (count inside) ≡ false
    outer = not_below (nat_lt j (count inside)) refl
      where
        not_below : (inner : Bool) → nat_lt j (count inside) ≡ inner → inner ≡ false
        not_below false d = refl
        not_below true d = let below : j < count inside = ltb-true j (count inside) d in let h : suc (n + count inside) ≤ k = root-least behind (past n inside) k there in absurd (omega arith)

-- a member's tree is that of a root of what is below the file's root
pub member-tree : (root : Entry) (inside : Forest Entry) (k : ℕ) → is_among (roots inside 1) k ≡ true → tree_at (tree root inside none) k ≡ first_tree (root_numbered inside 1 k)
member-tree root inside zero among = absurd (let least : 1 ≤ 0 = root-least inside 1 0 among in omega arith)
member-tree root inside (suc m) among =
    ap (λ (inner : Bool). first_tree (cond inner (from inside m) (from none (m - count inside)))) (lt-ltb m (count inside) (let below : suc m < 1 + count inside = root-below inside 1 (suc m) among in omega arith))
    ∙ at-root inside 1 (suc m) m among (omega arith)

-- ---- what is below the file's root

-- the declaration stands behind those in front
pub declaration-among : (f : Forest Entry) (declaration : Entry) (inside behind : Forest Entry) (n : ℕ) → is_among (roots (beside f (tree declaration inside behind)) n) (n + count f) ≡ true
declaration-among none declaration inside behind n = ap (λ (same : Bool). if same then true else is_among (roots behind (past n inside)) (n + 0)) (eq-eqb n (n + 0) (omega arith))
declaration-among (tree root below later) declaration inside behind n =
    by_test (nat_eq n (n + suc (count below + count later)))
    (subst (λ (k : ℕ). is_among (roots (beside later (tree declaration inside behind)) (past n below)) k ≡ true) (omega arith) (declaration-among later declaration inside behind (past n below)))
  where
    by_test : (same : Bool) → is_among (roots (beside later (tree declaration inside behind)) (past n below)) (n + suc (count below + count later)) ≡ true →
        (if same then true else is_among (roots (beside later (tree declaration inside behind)) (past n below)) (n + suc (count below + count later))) ≡ true
    by_test true there = refl
    by_test false there = there

-- its tree
pub declaration-tree : (f : Forest Entry) (rest : Forest Entry) (n k : ℕ) → n + count f ≡ k → first_tree (root_numbered (beside f rest) n k) ≡ first_tree (root_numbered rest k k)
declaration-tree none rest n k e = ap (λ (m : ℕ). first_tree (root_numbered rest m k)) (sym (add-zero n) ∙ e)
declaration-tree (tree root inside behind) rest n k e =
    ap (λ (same : Bool). first_tree (elim same [ true ↦ tree root inside (beside behind rest) | false ↦ root_numbered (beside behind rest) (past n inside) k ])) (ne_eqb n k (λ same. omega arith))
    ∙ declaration-tree behind rest (past n inside) k (omega arith)

-- each root is a node that both files have
pub root-node : (size : ℕ) (f : Forest Entry) (declaration : Entry) (inside behind : Forest Entry) → size ≡ suc (count inside) → (n d k : ℕ) → 1 ≤ n → n + count f ≡ d →
    is_among (roots (beside f (tree declaration inside behind)) n) k ≡ true → IsNode d size k
root-node size none declaration inside behind e n d k h at among = by_test (nat_eq n k) refl among
  where
    by_test : (same : Bool) → nat_eq n k ≡ same → (if same then true else is_among (roots behind (past n inside)) k) ≡ true → IsNode d size k
    by_test true is there = let same : n ≡ k = eqb-true n k is in inl (omega arith, omega arith)
    by_test false is there = let least : suc (n + count inside) ≤ k = root-least behind (past n inside) k there in inr (omega arith)
root-node size (tree root below later) declaration inside behind e n d k h at among =
    by_test (nat_eq n k) refl among (λ there. root-node size later declaration inside behind e (past n below) d k (omega arith) (omega arith) there)
  where
    by_test : (same : Bool) → nat_eq n k ≡ same → (if same then true else is_among (roots (beside later (tree declaration inside behind)) (past n below)) k) ≡ true →
        (is_among (roots (beside later (tree declaration inside behind)) (past n below)) k ≡ true → IsNode d size k) → IsNode d size k
    by_test true is there later_node = let same : n ≡ k = eqb-true n k is in inl (omega arith, omega arith)
    by_test false is there later_node = later_node there

-- the second file's roots are the first one's by their other numbers
abbrev pub BehindMoves : ℕ → ℕ → ℕ → Forest Entry → Forest Entry → Type 0
BehindMoves d size other behind along = roots along (d + other) ≡ map (moves_to d size other) (roots behind (d + size))

pub front-roots : (d size other : ℕ) → AreSizes size other → (f g : Forest Entry) → SayTheSame f g → (declaration declaration' : Entry) (inside inside' behind behind' : Forest Entry) →
    size ≡ suc (count inside) → other ≡ suc (count inside') → BehindMoves d size other behind behind' → (n : ℕ) → n + count f ≡ d →
    roots (beside g (tree declaration' inside' behind')) n ≡ map (moves_to d size other) (roots (beside f (tree declaration inside behind)) n)
front-roots d size other s none none says declaration declaration' inside inside' behind behind' e e' moved n at =
    ap (λ (k : ℕ). k ∷ roots behind' (past n inside')) (sym (front-stays d size other n (omega arith)))
    ∙ ap (λ (k : ℕ). moves_to d size other n ∷ roots behind' k) (let p : past n inside' ≡ d + other = omega arith in p)
    ∙ ap (λ (ns : List ℕ). moves_to d size other n ∷ ns) moved
    ∙ ap (λ (k : ℕ). moves_to d size other n ∷ map (moves_to d size other) (roots behind k)) (let p : d + size ≡ past n inside = omega arith in p)
front-roots d size other s none (tree root' below' later') says declaration declaration' inside inside' behind behind' e e' moved n at = absurd says
front-roots d size other s (tree root below later) none says declaration declaration' inside inside' behind behind' e e' moved n at = absurd says
front-roots d size other s (tree root below later) (tree root' below' later') (r, (i, b)) declaration declaration' inside inside' behind behind' e e' moved n at =
    ap (λ (k : ℕ). k ∷ roots (beside later' (tree declaration' inside' behind')) (past n below')) (sym (front-stays d size other n (omega arith)))
    ∙ ap (λ (k : ℕ). moves_to d size other n ∷ roots (beside later' (tree declaration' inside' behind')) (suc (n + k))) (count-same below below' i)
    ∙ ap (λ (ns : List ℕ). moves_to d size other n ∷ ns)
    (front-roots d size other s later later' b declaration declaration' inside inside' behind behind' e e' moved (past n below) (omega arith))

-- the trees of all other roots say the same
pub other-tree : (d size other : ℕ) → AreSizes size other → (declaration declaration' : Entry) (inside inside' behind behind' : Forest Entry) → SayTheSame behind behind' →
    size ≡ suc (count inside) → other ≡ suc (count inside') → 1 ≤ d → (k : ℕ) → nat_eq d k ≡ false →
    Goes (moves_to d size other) k (first_tree (root_numbered (tree declaration inside behind) d k)) (first_tree (root_numbered (tree declaration' inside' behind') d (moves_to d size other k)))
other-tree d size other s declaration declaration' inside inside' behind behind' says e e' h k apart =
    subst (λ (f : Forest Entry). Goes to k (first_tree f) (first_tree (root_numbered (tree declaration' inside' behind') d (to k)))) here
    (subst (λ (g : Forest Entry). Goes to k (first_tree (root_numbered behind (d + size) k)) (first_tree g)) there
    (goes-first to k (root_numbered behind (d + size) k) (root_numbered behind' (to (d + size)) (to k))
    (root-moves to behind behind' says (d + size) (behind-fits d size other s behind (d + size) (omega arith)) k)))
  where
    to : ℕ → ℕ
    to n = moves_to d size other n

    here : root_numbered behind (d + size) k ≡ root_numbered (tree declaration inside behind) d k
    here =
        ap (λ (m : ℕ). root_numbered behind m k) (let p : d + size ≡ past d inside = omega arith in p)
        ∙ sym (ap (λ (same : Bool). elim same [ true ↦ tree declaration inside behind | false ↦ root_numbered behind (past d inside) k ]) apart)

    moved_apart : nat_eq d (to k) ≡ false
    moved_apart = ap (λ (m : ℕ). nat_eq m (to k)) (sym (front-stays d size other d (omega arith))) ∙ node-apart d size other d s (inl (h, omega arith)) k ∙ apart

    there : root_numbered behind' (to (d + size)) (to k) ≡ root_numbered (tree declaration' inside' behind') d (to k)
    there =
        ap (λ (m : ℕ). root_numbered behind' m (to k)) (let p : moves_to d size other (d + size) + size ≡ (d + size) + other = behind-moves d size other (d + size) s (omega arith) in let q : to (d + size) ≡ past d inside' = omega arith in q)
        ∙ sym (ap (λ (same : Bool). elim same [ true ↦ tree declaration' inside' behind' | false ↦ root_numbered behind' (past d inside') (to k) ]) moved_apart)

pub front-tree : (d size other : ℕ) → AreSizes size other → (f g rest rest' : Forest Entry) → SayTheSame f g → (n : ℕ) → 1 ≤ n → n + count f ≡ d → (k : ℕ) →
    Goes (moves_to d size other) k (first_tree (root_numbered rest d k)) (first_tree (root_numbered rest' d (moves_to d size other k))) →
    Goes (moves_to d size other) k (first_tree (root_numbered (beside f rest) n k)) (first_tree (root_numbered (beside g rest') n (moves_to d size other k)))
front-tree d size other s none none rest rest' says n h at k later =
    subst (λ (m : ℕ). Goes (moves_to d size other) k (first_tree (root_numbered rest m k)) (first_tree (root_numbered rest' m (moves_to d size other k)))) (let p : d ≡ n = omega arith in p) later
front-tree d size other s none (tree root' inside' behind') rest rest' says n h at k later = absurd says
front-tree d size other s (tree root inside behind) none rest rest' says n h at k later = absurd says
front-tree d size other s (tree root inside behind) (tree root' inside' behind') rest rest' (r, (i, b)) n h at k later =
    subst (λ (same : Bool). Goes to k (first_tree (root_numbered (beside (tree root inside behind) rest) n k)) (first_tree (elim same [ true ↦ tree root' inside' (beside behind' rest') | false ↦ root_numbered (beside behind' rest') (past n inside') (to k) ]))) (sym tests)
    (subst (λ (m : ℕ). Goes to k (first_tree (root_numbered (beside (tree root inside behind) rest) n k)) (first_tree (elim (nat_eq n k) [ true ↦ tree root' inside' (beside behind' rest') | false ↦ root_numbered (beside behind' rest') (suc (n + m)) (to k) ]))) (sym (count-same inside inside' i))
    (by_test (nat_eq n k) refl (front-tree d size other s behind behind' rest rest' b (past n inside) (omega arith) (omega arith) k later)))
  where
    to : ℕ → ℕ
    to m = moves_to d size other m

    tests : nat_eq n (to k) ≡ nat_eq n k
    tests = ap (λ (m : ℕ). nat_eq m (to k)) (sym (front-stays d size other n (omega arith))) ∙ node-apart d size other n s (inl (h, omega arith)) k

    by_test : (same : Bool) → nat_eq n k ≡ same → Goes to k (first_tree (root_numbered (beside behind rest) (past n inside) k)) (first_tree (root_numbered (beside behind' rest') (past n inside) (to k))) →
        Goes to k (first_tree (elim same [ true ↦ tree root inside (beside behind rest) | false ↦ root_numbered (beside behind rest) (past n inside) k ]))
        (first_tree (elim same [ true ↦ tree root' inside' (beside behind' rest') | false ↦ root_numbered (beside behind' rest') (past n inside) (to k) ]))
    by_test true e goes =
        ((r, (i, tt)), subst (λ (m : ℕ). Fits to m (tree root inside none)) (eqb-true n k e) (front-fits d size other s (tree root inside none) n h (omega arith)))
    by_test false e goes = goes
