-- Nodes in preorder, and trees that are still to come.
use Rattle.std.specs.Prelude.{◌≡◌, ℕ, suc, ◌+◌, List, [], ◌∷◌, ◌++◌, length, Option, Some, None}
use Rattle.zw_tree.specs.Trees.{Forest, none, tree, beside, count, trees}
use Rattle.zw_grammar.specs.Building.{Span}
use Rattle.zw_grammar.specs.Nodes.{built, nodes}
use Rattle.zw_grammar.specs.declared.builder.Built.{Built}
use Rattle.zw_parse.specs.declared.order.Next.{Next}
use Rattle.zw_parse.specs.declared.order.Waiting.{Waiting}

-- the nodes of a forest in preorder, each with its parent's number, where the first has this number and the roots this parent
abbrev pub in_order : Forest Span → Option ℕ → ℕ → List Next
in_order none parent number = []
in_order (tree root below behind) parent number =
    record { node = built root (suc (count below)); parent = parent } ∷ (in_order below (Some number) (suc number) ++ in_order behind parent (suc number + count below))

-- the list has the nodes of one tree
pub record IsTree (list : List Built) (forest : Forest Span) : Type 0 where
  pub one : trees forest ≡ 1
  pub listed : list ≡ nodes forest

-- up to this place the list has the nodes of a tree with this root
pub record EndsAt (list : List Built) (at : ℕ) (root : Span) (below : Forest Span) : Type 0 where
  pub before : List Built
  pub after : List Built
  pub listed : list ≡ before ++ (nodes below ++ (built root (suc (count below)) ∷ after))
  pub place : at ≡ length before + count below

abbrev pub HasTree : List Built → ℕ → Type 0
HasTree list at = (root : Span) × (below : Forest Span) × EndsAt list at root below

-- a tree that waits, with those behind it: what they give in preorder from this number on
pub record Stands (list : List Built) (at : ℕ) (parent : Option ℕ) (number : ℕ) (order : List Next) (Others : ℕ → List Next → Type 0) : Type 0 where
  pub root : Span
  pub below : Forest Span
  pub rest : List Next
  pub ends : EndsAt list at root below
  pub others : Others (suc number + count below) rest
  pub gives : order ≡ in_order (tree root below none) parent number ++ rest

-- what waits, from the top on, gives this in preorder from this number on
abbrev pub StandsFor : List Built → List Waiting → ℕ → List Next → Type 0
StandsFor list [] number order = order ≡ []
StandsFor list (w ∷ waiting) number order = Stands list w.at w.parent number order (StandsFor list waiting)

-- which of the trees below a node wait already: all but the first ones
pub record Pushed {list : List Built} {at : ℕ} {root : Span} {below : Forest Span} (ends : EndsAt list at root below) (begin end parent : ℕ) (old new : List Waiting) : Type 0 where
  pub left : Forest Span
  pub right : Forest Span
  pub parts : below ≡ beside left right
  pub begin_is : begin ≡ length ends.before
  pub end_is : end ≡ begin + count left
  pub stands : (rest : List Next) → StandsFor list old (suc parent + count below) rest → StandsFor list new (suc parent + count left) (in_order right (Some parent) (suc parent + count left) ++ rest)

-- what is in order already, and what waits, is the forest in preorder
pub record Kept (list : List Built) (forest : Forest Span) (waiting : List Waiting) (order : List Next) : Type 0 where
  pub rest : List Next
  pub stands : StandsFor list waiting (length order) rest
  pub whole : order ++ rest ≡ in_order forest None 0
