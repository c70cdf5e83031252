-- How a forest grows by one node behind all others.
use Rattle.std.specs.Prelude.{◌≡◌, ℕ, zero, suc, ◌-◌, ◌<◌, nat_lt, cond, Option, Some, None}
use Rattle.zw_tree.specs.Trees.{Forest, none, tree, leaf, beside, count}
use Rattle.zw_tree.specs.Numbering.{last}

-- the node with this number has one more child, a leaf behind its other children
abbrev pub under : {A : Type 0} → Forest A → ℕ → A → Forest A
under none n item = none
under (tree root inside behind) zero item = tree root (beside inside (leaf item)) behind
under (tree root inside behind) (suc n) item =
    cond (nat_lt n (count inside)) (tree root (under inside n item) behind) (tree root inside (under behind (n - count inside) item))

-- a leaf more: the last child of its parent, or the last root
abbrev pub grown : {A : Type 0} → Forest A → Option ℕ → A → Forest A
grown forest None item = beside forest (leaf item)
grown forest (Some n) item = under forest n item

-- the node is the last one, or an ancestor of it: nothing stands behind its last descendant
pub record IsOpen {A : Type 0} (forest : Forest A) (n : ℕ) : Type 0 where
  pub within : n < count forest
  pub at_end : suc (last forest n) ≡ count forest

-- the first node has no parent, and each other one is a child of an open node
abbrev pub MayGrow : {A : Type 0} → Forest A → Option ℕ → Type 0
MayGrow forest None = count forest ≡ 0
MayGrow forest (Some n) = IsOpen forest n

-- the first nodes in preorder, as many as this
abbrev pub first_nodes : {A : Type 0} → Forest A → ℕ → Forest A
first_nodes none n = none
first_nodes (tree root inside behind) zero = none
first_nodes (tree root inside behind) (suc n) = tree root (first_nodes inside n) (first_nodes behind (n - count inside))
