-- Trees whose nodes stand in the order of their terminals: a node has its children's, and what stands behind it has later ones.
use Rattle.std.specs.Prelude.{ℕ, suc, ◌≤◌}
use Rattle.zw_tree.specs.Trees.{Forest, none, tree}
use Rattle.zw_grammar.specs.Building.{Span}

-- the trees have terminals from this one on and before that one: each node at least one, and with it all of the nodes below it
abbrev pub AreInOrder : ℕ → Forest Span → ℕ → Type 0
AreInOrder from none to = from ≤ to
AreInOrder from (tree root below behind) to =
    (from ≤ root.first) × (root.first ≤ root.last) × AreInOrder root.first below (suc root.last) × AreInOrder (suc root.last) behind to
