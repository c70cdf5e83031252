-- Trees: what the root says, and the trees below it in order. All is said of forests, trees side by side, since what is below a
-- root is one. A tree is a forest of one root.
use Rattle.std.specs.Prelude.{ℕ, suc, ◌+◌, List, [], ◌∷◌, ◌++◌}

-- none, or a first tree (its root, and the trees below that) and the trees behind it
pub data Forest (A : Type 0) : Type 0 where
  none : Forest A
  tree : (root : A) (below : Forest A) (behind : Forest A) → Forest A

-- a node without children
abbrev pub leaf : {A : Type 0} → A → Forest A
leaf root = tree root none none

-- the trees of both, in order
abbrev pub beside : {A : Type 0} → Forest A → Forest A → Forest A
beside none others = others
beside (tree root below behind) others = tree root below (beside behind others)

-- how many nodes there are
abbrev pub count : {A : Type 0} → Forest A → ℕ
count none = 0
count (tree root below behind) = suc (count below + count behind)

-- how many trees there are
abbrev pub trees : {A : Type 0} → Forest A → ℕ
trees none = 0
trees (tree root below behind) = suc (trees behind)

-- what the nodes say, each before those below it
abbrev pub preorder : {A : Type 0} → Forest A → List A
preorder none = []
preorder (tree root below behind) = root ∷ (preorder below ++ preorder behind)

-- the forest of this shape whose nodes say something else
abbrev pub map_forest : {A B : Type 0} → (A → B) → Forest A → Forest B
map_forest f none = none
map_forest f (tree root below behind) = tree (f root) (map_forest f below) (map_forest f behind)
