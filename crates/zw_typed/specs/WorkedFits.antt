-- A function with a variable and a loop that fits, and whose visits pay, worked out by hand; and nodes that differ from what fits in one thing.
use Rattle.std.specs.Prelude.{◌≡◌, ℕ, pos, true, false, List, [], ◌∷◌, Some}
use Rattle.zw_types.specs.TypeTrees as tree
use Rattle.zw_types.specs.TypeTrees.{TypeTree}
use Rattle.zw_typed.specs.FlowNodes.{FlowNode, node, nodes_from, Function, Constant, Declare, Scope, Choose, InOrder, Repeat, Count, Stop}
use Rattle.zw_typed.specs.FlowTypes.{Context, Fits, context_in, FunctionFits}
use Rattle.zw_typed.specs.FlowNeeds.{first_visits, need, AreTurnsPaid, IsFunctionPaid}
use Rattle.zw_typed.specs.WorkedFlow.{u8, number, position, truth, get, set, plus, less, block, give, none, loop, range, function, program, told, result}

-- `{ .. }` that never comes to its end
abbrev pub block_out : List FlowNode → FlowNode
block_out statements = node true tree.NoReturnType (InOrder (nodes_from statements))

abbrev pub declare : ℕ → FlowNode → FlowNode
declare k value = node true tree.VoidType (Declare k true value)

-- `{ var x: u8 = 0; while (x < 2) : (x += 1) {} return x; }`
abbrev pub counts_up : Function
counts_up = function [] (u8 ∷ []) (node false tree.NoReturnType (Scope (0 ∷ []) (block_out (
    declare 0 (number 0) ∷ loop 0 1 2 (less (get 0) (number 2)) (set 0 (plus (get 0) (number 1))) (block []) ∷ give (get 0) ∷ []))))

-- its condition, and what a turn of its loop is
abbrev pub turn_of : FlowNode → FlowNode
turn_of body = node false tree.NoReturnType (Repeat body)

abbrev pub within : Context
within = context_in (counts_up ∷ []) counts_up

-- a literal without a type of its own
abbrev pub literal : ℕ → FlowNode
literal n = node true tree.ComptimeIntType (Constant (tree.NumberValue (pos n)))

-- a function of `usize` variables, for captures
abbrev pub with_positions : Context
with_positions = record { params = 0; variables = tree.IntType false 32 true ∷ tree.IntType false 32 true ∷ []; result = u8; functions = [] }

-- `for (0..2, 0..2) |a, b| {}` whose captures are these variables
abbrev pub over_two : ℕ → ℕ → FlowNode
over_two a b = node false tree.VoidType
    (Count (range (Some a) true ∷ range (Some b) true ∷ []) (nodes_from (position 0 ∷ position 2 ∷ position 0 ∷ position 2 ∷ [])) (block []))

pub record WorkedFits : Type 0 where
  -- the variable is declared before it is read and written, and ends with the block; two turns come to 2
  pub fits : FunctionFits (counts_up ∷ []) counts_up
  pub paid : IsFunctionPaid counts_up
  pub two : told 2048 (program (counts_up ∷ [])) [] [] 2 ≡ result 2
  -- The condition is three visits, of which the first two come before anything ends: the order and the read. It needs 144 for the order, 4 for the
  -- read, and nothing for the number, which pays for itself.
  pub first : first_visits (less (get 0) (number 2)) ≡ 2
  pub needs : need (less (get 0) (number 2)) ≡ 148
  -- a variable that isn't declared, and one that is declared twice
  pub undeclared : Fits within [] [] (get 0) → ⊥
  pub twice : Fits within [] (0 ∷ []) (declare 0 (number 1)) → ⊥
  -- a variable that was declared before a scope doesn't end with it
  pub ends_outside : Fits within [] (0 ∷ []) (node false tree.VoidType (Scope (0 ∷ []) (block []))) → ⊥
  -- a number without a type of its own that isn't known
  pub unknown : Fits within [] [] (node true tree.ComptimeIntType (Choose (truth true) (literal 1) (literal 2))) → ⊥
  -- statements that come to their end can't be of type `noreturn`
  pub comes_to_its_end : Fits within [] [] (block_out (block [] ∷ [])) → ⊥
  -- a panic with a message is no node of its own
  pub message : Fits within [] [] (node true tree.NoReturnType (Stop 18)) → ⊥
  -- captures of two variables, and of one variable twice
  pub captures : Fits with_positions [] [] (over_two 0 1)
  pub one_capture : Fits with_positions [] [] (over_two 0 0) → ⊥
  -- a loop whose turns count nothing
  pub uncounted : AreTurnsPaid (turn_of none) → ⊥
