-- What the rule of a form works with: the parts so far, and what it asks for next (this project's own). A rule knows no store, no table
-- and no driver, and of a run-time node only that a part may have one: `N` stands for such nodes.
use Rattle.std.specs.Prelude.{ℕ, Bool, true, false, List, Option, Some, None}
use Rattle.zw_base.specs.declared.stop.StopKind.{StopKind}
use Rattle.zw_num.specs.declared.operator.Operator.{Operator}
use Rattle.zw_types.specs.TypeTrees as tree
use Rattle.zw_types.specs.TypeTrees.{TypeTree, ValueTree}
use Rattle.zw_typed.specs.Nodes.{Op}

-- what came of a part of a form: its type, its value where that is known, and its node where something is left to do at run time
pub record Part (N : Type 0) : Type 0 where
  pub ty : TypeTree
  pub known : Option ValueTree
  pub node : Option N

-- a part that becomes one of a type
pub record Operand (N : Type 0) : Type 0 where
  pub part : Part N
  pub as_type : TypeTree

-- What a form asks for. Each answer is one more of its parts, and then the form is asked again.
pub data Next (N : Type 0) : Type 0 where
  -- the part of a child, with a type that is wanted of it: in the form's own stage; at compile time; without being evaluated
  Visit : ℕ → Option TypeTree → Next N
  VisitKnown : ℕ → Option TypeTree → Next N
  VisitUnevaluated : ℕ → Option TypeTree → Next N
  -- an operator in a result type: a value where all operands are known, and else a node
  Operation : Operator → TypeTree → List (Operand N) → Next N
  -- a node, whatever is known
  Emit : Op → TypeTree → List (Operand N) → Next N
  -- what a name stands for
  Lookup : List ℕ → Next N
  -- from here on this name, of a parameter, stands for the next argument, of this type
  Bind : List ℕ → TypeTree → Next N
  -- from here on the function's result has this type; and which type that is, as a value
  Returns : TypeTree → Next N
  Result : Next N
  -- the branch quota is raised
  Raise : ValueTree → Next N
  -- the form's part; a stop at the form, or at a child
  Done : Part N → Next N
  Halt : StopKind → Next N
  HaltAt : ℕ → StopKind → Next N

abbrev pub a_value : {N : Type 0} → TypeTree → ValueTree → Part N
a_value ty value = record { ty = ty; known = Some value; node = None }

abbrev pub a_node : {N : Type 0} → TypeTree → N → Part N
a_node ty n = record { ty = ty; known = None; node = Some n }

-- an operand in a type, and in its own
abbrev pub in_type : {N : Type 0} → TypeTree → Part N → Operand N
in_type ty part = record { part = part; as_type = ty }

abbrev pub alone : {N : Type 0} → Part N → Operand N
alone part = in_type part.ty part

-- types whose values only the compiler has
abbrev pub is_comptime_only : TypeTree → Bool
is_comptime_only tree.ComptimeIntType = true
is_comptime_only tree.TypeType = true
is_comptime_only _ = false

-- A part of such a type that isn't known is none that can be used. An integer that isn't known may become one, and the first form that uses it
-- is error 16.
abbrev pub is_lost : {N : Type 0} → Part N → Bool
is_lost part = elim (part.known) [ Some value ↦ false | None ↦ is_comptime_only part.ty ]
