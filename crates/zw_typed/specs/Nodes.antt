-- Typed nodes: what is left to do at run time (this project's own). A node is the tree of what it needs; numbers of nodes are a way of
-- writing these trees down, as those of types are.
use Rattle.std.specs.Prelude.{ℕ, List, [], ◌∷◌}
use Rattle.zw_num.specs.declared.operator.Operator.{Operator}
use Rattle.zw_types.specs.TypeTrees.{TypeTree, ValueTree}

-- a function of the host: its name, and the types of its parameters and of its result
pub record Import : Type 0 where
  pub name : List ℕ
  pub params : List TypeTree
  pub result : TypeTree

-- the operators that evaluate their second operand where the first one doesn't decide
pub data Logic : Type 0 where
  And Or : Logic

-- what a node does
pub data Op : Type 0 where
  -- it is this value, or the argument with this number
  Constant : ValueTree → Op
  Argument : ℕ → Op
  -- this operator, on the values of all its kids in order
  Operate : Operator → Op
  -- the value of its one kid becomes one of the node's type
  Become : Op
  -- `and` and `or`: the first of two kids decides whether the second is evaluated
  Decide : Logic → Op
  -- a call of a function of the host, after its arguments
  CallHost : Import → Op
  -- one kid after the other
  InOrder : Op
  -- the function returns the value of its one kid
  Return : Op

mutual
  -- what it does, its type, and its kids
  pub data TypedNode : Type 0 where
    node : Op → TypeTree → TypedNodes → TypedNode

  pub data TypedNodes : Type 0 where
    no_nodes : TypedNodes
    node_and : TypedNode → TypedNodes → TypedNodes

abbrev pub nodes_from : List TypedNode → TypedNodes
nodes_from [] = no_nodes
nodes_from (n ∷ ns) = node_and n (nodes_from ns)

abbrev pub type_of : TypedNode → TypeTree
type_of (node op ty kids) = ty

abbrev pub types_of : TypedNodes → List TypeTree
types_of no_nodes = []
types_of (node_and n ns) = type_of n ∷ types_of ns
