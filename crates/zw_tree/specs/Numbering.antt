-- The numbers of nodes: from 0, in preorder, that is, in the order of the text.
use Rattle.std.specs.Prelude.{◌≡◌, ℕ, zero, suc, ◌+◌, ◌-◌, nat_lt, cond, List, [], ◌∷◌, Option, Some, None, slice_get}
use Rattle.std.specs.Option.{option_map}
use Rattle.zw_tree.specs.Trees.{Forest, none, tree, count, preorder}

-- what the node with this number says
abbrev pub node_at : {A : Type 0} → Forest A → ℕ → Option A
node_at forest n = slice_get (preorder forest) n

-- the tree of the node with this number, and the trees behind it below the same parent
abbrev pub from : {A : Type 0} → Forest A → ℕ → Forest A
from none n = none
from (tree root inside behind) zero = tree root inside behind
from (tree root inside behind) (suc n) = cond (nat_lt n (count inside)) (from inside n) (from behind (n - count inside))

-- the first root
abbrev pub first_root : {A : Type 0} → Forest A → Option A
first_root none = None
first_root (tree root inside behind) = Some root

-- what is below the first root
abbrev pub inside_first : {A : Type 0} → Forest A → Forest A
inside_first none = none
inside_first (tree root inside behind) = inside

-- the trees behind the first one, and those behind the first k
abbrev pub behind_first : {A : Type 0} → Forest A → Forest A
behind_first none = none
behind_first (tree root inside behind) = behind

abbrev pub after : {A : Type 0} → ℕ → Forest A → Forest A
after zero forest = forest
after (suc k) forest = after k (behind_first forest)

-- the trees of a forest, each with those behind it
abbrev pub siblings : {A : Type 0} → Forest A → List (Forest A)
siblings none = []
siblings (tree root inside behind) = tree root inside behind ∷ siblings behind

-- the trees below a node
abbrev pub below : {A : Type 0} → Forest A → ℕ → Forest A
below forest n = inside_first (from forest n)

-- the number of the last of its descendants, or its own where it has none
abbrev pub last : {A : Type 0} → Forest A → ℕ → ℕ
last forest n = n + count (below forest n)

-- the numbers of the roots, where the first node has this number: each other root follows the last descendant of the one before
abbrev pub roots : {A : Type 0} → Forest A → ℕ → List ℕ
roots none first = []
roots (tree root inside behind) first = first ∷ roots behind (suc (first + count inside))

-- the numbers of a node's children, in order
abbrev pub children : {A : Type 0} → Forest A → ℕ → List ℕ
children forest n = roots (below forest n) (suc n)

-- the number of its k-th child, from 0
abbrev pub child : {A : Type 0} → Forest A → ℕ → ℕ → Option ℕ
child forest n k = slice_get (children forest n) k

-- the number in a tree of what has this number below its root, and the root's where there is none
abbrev pub or_root : Option ℕ → ℕ
or_root None = 0
or_root (Some n) = suc n

-- the number of its parent; a root has none
abbrev pub parent : {A : Type 0} → Forest A → ℕ → Option ℕ
parent none n = None
parent (tree root inside behind) zero = None
parent (tree root inside behind) (suc n) =
    cond (nat_lt n (count inside)) (Some (or_root (parent inside n))) (option_map (λ m. suc (count inside + m)) (parent behind (n - count inside)))

-- the node is another's descendant: a child of it, or of one of its descendants
pub data IsBelow {A : Type 0} (forest : Forest A) (n : ℕ) : ℕ → Type 0 where
  child_of : (m : ℕ) → parent forest m ≡ Some n → IsBelow forest n m
  below_child : (m k : ℕ) → parent forest m ≡ Some k → IsBelow forest n k → IsBelow forest n m
