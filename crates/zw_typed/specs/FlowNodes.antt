-- Typed nodes of functions with statements, variables and calls: what is left to do at run time (this project's own). Source forms are many,
-- nodes few. A node is the tree of what it needs; numbers of nodes are a way of writing these trees down.
--
-- `while (c) : (step) body else e` is a target `out` round a `Repeat` of: choose by c between the body (a target `again`, which `continue` leaves
-- to) with the step (a target of its own) behind it, and leaving to `out` with e. A `for` is a target `out` round a `Count`, of which each turn is
-- a target `again`, and leaving to `out` with e behind it.
use Rattle.std.specs.Prelude.{ℕ, Bool, List, [], ◌∷◌, Option}
use Rattle.zw_num.specs.declared.operator.Operator.{Operator}
use Rattle.zw_types.specs.TypeTrees.{TypeTree, ValueTree}
use Rattle.zw_typed.specs.Nodes.{Import, Logic}

-- A place at run time: so far a variable of the function by its number, parameters first.
pub data RunPlace : Type 0 where
  Variable : ℕ → RunPlace

-- A range of a `for`: the variable that is its capture, where it has one that isn't `_`, and whether it has an end.
pub record Range : Type 0 where
  pub capture : Option ℕ
  pub has_end : Bool

mutual
  -- whether the node stands for an occurrence of the source (others are helpers, which count no visit), its type, and what it does
  pub data FlowNode : Type 0 where
    node : Bool → TypeTree → Form → FlowNode

  pub data FlowNodes : Type 0 where
    no_nodes : FlowNodes
    node_and : FlowNode → FlowNodes → FlowNodes

  pub data Form : Type 0 where
    -- it is this value
    Constant : ValueTree → Form
    -- the value at a place; a value into a place; and from here on the variable is a new object with this value, writable or not
    Read : RunPlace → Form
    Write : RunPlace → FlowNode → Form
    Declare : ℕ → Bool → FlowNode → Form
    -- however the node ends, the objects of these variables are no longer live behind it
    Scope : List ℕ → FlowNode → Form
    -- an operator on all values; a value becomes one of the node's type
    Operate : Operator → FlowNodes → Form
    Become : FlowNode → Form
    -- `and` and `or`: the first value decides whether the second is evaluated
    Decide : Logic → FlowNode → FlowNode → Form
    -- one of two, by a truth value; what it gives becomes of the node's type
    Choose : FlowNode → FlowNode → FlowNode → Form
    -- one after the other, whose values nobody takes
    InOrder : FlowNodes → Form
    -- what `Leave` brings here is its value, and else the value that it comes to, become of the node's type
    Target : ℕ → FlowNode → Form
    Leave : ℕ → FlowNode → Form
    -- again and again, until it is left; each return to its start is a turn
    Repeat : FlowNode → Form
    -- over ranges: starts and ends (all in the order of the text), then the body for each number, with new captures
    Count : List Range → FlowNodes → FlowNode → Form
    -- a call of a function of the program by its number, and of one of the host
    Call : ℕ → FlowNodes → Form
    CallHost : Import → FlowNodes → Form
    -- the function returns the value; it panics with a cause (`unreachable` with 6)
    Return : FlowNode → Form
    Stop : ℕ → Form

-- A function: the types of its parameters, of its result, and of its other variables, and its body.
pub record Function : Type 0 where
  pub params : List TypeTree
  pub result : TypeTree
  pub vars : List TypeTree
  pub body : FlowNode

abbrev pub type_of : FlowNode → TypeTree
type_of (node counts ty form) = ty

abbrev pub types_of : FlowNodes → List TypeTree
types_of no_nodes = []
types_of (node_and n ns) = type_of n ∷ types_of ns

abbrev pub nodes_from : List FlowNode → FlowNodes
nodes_from [] = no_nodes
nodes_from (n ∷ ns) = node_and n (nodes_from ns)
