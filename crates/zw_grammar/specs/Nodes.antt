-- The nodes of trees in the order in which they end.
use Rattle.std.specs.Prelude.{◌≡◌, ℕ, suc, ◌+◌, List, [], ◌∷◌, ◌++◌, length}
use Rattle.zw_tree.specs.Trees.{Forest, none, tree, count}
use Rattle.zw_grammar.specs.declared.builder.Built.{Built}
use Rattle.zw_grammar.specs.declared.builder.Opened.{Opened}
use Rattle.zw_grammar.specs.declared.builder.Builder.{Builder}
use Rattle.zw_grammar.specs.Building.{Span, Begun, Building}

-- a node and how many nodes its tree has
abbrev pub built : Span → ℕ → Built
built span size = record { kind = span.kind; first = span.first; last = span.last; size = size }

-- each node behind its children
abbrev pub nodes : Forest Span → List Built
nodes none = []
nodes (tree root below behind) = nodes below ++ (built root (suc (count below)) ∷ nodes behind)

-- the nodes that have ended
abbrev pub all_nodes : List Begun → Forest Span → List Built
all_nodes [] ended = nodes ended
all_nodes (node ∷ outer) ended = all_nodes outer node.before ++ nodes ended

-- of these, those that had ended before the innermost open node began
abbrev pub older_nodes : List Begun → List Built
older_nodes [] = []
older_nodes (node ∷ outer) = all_nodes outer node.before

-- the open nodes from the outside in, each with the number of nodes that had ended before its first child, behind so many older ones
abbrev pub opened : ℕ → List Begun → List Opened
opened older [] = []
opened older (node ∷ outer) = opened older outer ++ (record { kind = node.kind; first = node.first; before = older + length (all_nodes outer node.before) } ∷ [])

-- the nodes that stand in a builder
abbrev pub nodes_of : Builder → List Built
nodes_of builder = builder.nodes.items

-- The builder holds what is built, behind these older nodes, which no mark touches. A node's number of nodes doesn't hang on where it stands.
pub record HoldsBehind (older : List Built) (builder : Builder) (b : Building) : Type 0 where
  pub nodes : builder.nodes.items ≡ older ++ all_nodes b.begun b.ended
  pub opened : builder.opened.items ≡ opened (length older) b.begun
  pub older_are : builder.older ≡ length older
  pub depth : builder.depth ≡ b.depth
  pub passed : builder.passed ≡ b.passed

-- the builder holds what is built, and nothing else
abbrev pub Holds : Builder → Building → Type 0
Holds builder b = HoldsBehind [] builder b
