-- What the rule of a form works with where there are statements, variables and calls: the parts so far, and what it asks for next (this
-- project's own). A rule knows no store, no table, no names and no driver, and of a run-time node only that a part may have one: `N` stands for such
-- nodes in each rule.
use Rattle.std.specs.Prelude.{ℕ, pos, Bool, true, false, List, [], ◌∷◌, ◌++◌, Option, Some, None}
use Rattle.zw_base.specs.declared.stop.StopKind.{StopKind}
use Rattle.zw_num.specs.declared.operator.Operator.{Operator}
use Rattle.zw_tree.specs.Trees.{Forest}
use Rattle.zw_tree.specs.declared.ast.Entry.{Entry}
use Rattle.zw_types.specs.TypeTrees as tree
use Rattle.zw_types.specs.TypeTrees.{TypeTree, ValueTree}
use Rattle.zw_values.specs.ObjectStore.{Stage}
use Rattle.zw_typed.specs.Nodes.{Logic}
use Rattle.zw_typed.specs.FlowNodes.{RunPlace, Range}
use Rattle.zw_typed.specs.FlowNodes as run

-- ---- parts

-- What a part stands for: a value that is known; what a node gives at run time; a leaving to this target with what is known, and nothing else, by
-- a node; or a place that a node reads or writes, and whether it can be written.
pub data Stands (N : Type 0) : Type 0 where
  Known : ValueTree → Stands N
  Runs : N → Stands N
  Goes : ℕ → N → Stands N
  IsPlace : Bool → RunPlace → Stands N

-- What came of a part of a form: its type, what it stands for, and the target of the form that it left to, where it came by leaving.
pub record Part (N : Type 0) : Type 0 where
  pub ty : TypeTree
  pub stands : Stands N
  pub left_to : Option ℕ

abbrev pub a_value : {N : Type 0} → TypeTree → ValueTree → Part N
a_value ty value = record { ty = ty; stands = Known value; left_to = None }

abbrev pub a_node : {N : Type 0} → TypeTree → N → Part N
a_node ty n = record { ty = ty; stands = Runs n; left_to = None }

abbrev pub a_place : {N : Type 0} → TypeTree → Bool → RunPlace → Part N
a_place ty writable place = record { ty = ty; stands = IsPlace writable place; left_to = None }

-- `void`, with nothing left to do
abbrev pub nothing : {N : Type 0} → Part N
nothing = a_value tree.VoidType (tree.PartsValue tree.no_values)

abbrev pub known_in : {N : Type 0} → Stands N → Option ValueTree
known_in (Known value) = Some value
known_in _ = None

abbrev pub known_of : {N : Type 0} → Part N → Option ValueTree
known_of part = known_in part.stands

abbrev pub is_there : {A : Type 0} → Option A → Bool
is_there None = false
is_there (Some a) = true

abbrev pub is_known : {N : Type 0} → Part N → Bool
is_known part = is_there (known_of part)

abbrev pub all_known : {N : Type 0} → List (Part N) → Bool
all_known [] = true
all_known (p ∷ ps) = elim (is_known p) [ true ↦ all_known ps | false ↦ false ]

-- ---- types of parts

-- types whose values only the compiler has
abbrev pub is_comptime_only : TypeTree → Bool
is_comptime_only tree.ComptimeIntType = true
is_comptime_only tree.TypeType = true
is_comptime_only (tree.FuncType params result comptime outside) = true
is_comptime_only _ = false

-- types whose values there are at run time
abbrev pub has_run_time_form : TypeTree → Bool
has_run_time_form (tree.IntType signed bits size) = true
has_run_time_form tree.BoolType = true
has_run_time_form tree.VoidType = true
has_run_time_form _ = false

abbrev pub is_no_return : TypeTree → Bool
is_no_return tree.NoReturnType = true
is_no_return _ = false

abbrev pub never_ends : {N : Type 0} → Part N → Bool
never_ends part = is_no_return part.ty

-- A part of a type that only the compiler has values of, which isn't known, is none that can be used: the first form that uses it is error 16.
abbrev pub is_lost : {N : Type 0} → Part N → Bool
is_lost part = elim (is_known part) [ true ↦ false | false ↦ is_comptime_only part.ty ]

abbrev pub any_lost : {N : Type 0} → List (Part N) → Bool
any_lost [] = false
any_lost (p ∷ ps) = elim (is_lost p) [ true ↦ true | false ↦ any_lost ps ]

-- the type that a part names, where it is a known type
abbrev pub type_in : Option ValueTree → Option TypeTree
type_in (Some (tree.TypeValue ty)) = Some ty
type_in _ = None

abbrev pub named_type : {N : Type 0} → Part N → Option TypeTree
named_type part = type_in (known_of part)

abbrev pub types_of : {N : Type 0} → List (Part N) → List TypeTree
types_of [] = []
types_of (p ∷ ps) = p.ty ∷ types_of ps

-- a part that becomes one of a type
pub record Operand (N : Type 0) : Type 0 where
  pub part : Part N
  pub as_type : TypeTree

abbrev pub in_type : {N : Type 0} → TypeTree → Part N → Operand N
in_type ty part = record { part = part; as_type = ty }

abbrev pub alone : {N : Type 0} → Part N → Operand N
alone part = in_type part.ty part

abbrev pub all_in : {N : Type 0} → TypeTree → List (Part N) → List (Operand N)
all_in ty [] = []
all_in ty (p ∷ ps) = in_type ty p ∷ all_in ty ps

-- ---- leaving

-- Where a form leaves to: out of the block or loop with this label, or of the innermost loop; to what is next in the loop with this label, or in the
-- innermost one; or out of the function.
pub data Destination : Type 0 where
  OutOf : Option (List ℕ) → Destination
  NextIn : Option (List ℕ) → Destination
  OutOfFunction : Destination

-- What is open inside a child of a block or loop: its label, the target that `break` leaves to and that of `continue` where it is a loop, the type that
-- is wanted of what `break` brings, and the stage.
pub record Open : Type 0 where
  pub label : Option (List ℕ)
  pub out : ℕ
  pub next : Option ℕ
  pub wanted : Option TypeTree
  pub stage : Stage

-- ---- visits

-- the type that is wanted of a child: none, this one, or the one that is wanted of what is brought there
pub data Wanted : Type 0 where
  Nothing : Wanted
  OfType : TypeTree → Wanted
  AsBrought : Destination → Wanted

abbrev pub wanted_of : Option TypeTree → Wanted
wanted_of None = Nothing
wanted_of (Some ty) = OfType ty

-- A visit of a child: its position below the form (and below that, where it stands deeper), the type that is wanted of it, its stage; whether it is
-- evaluated; whether its place is wanted, and not its value; whether the form ends with it where it never comes to its end; whether it stands under a condition
-- that isn't known; and what the form opens inside it.
pub record Visit : Type 0 where
  pub child : List ℕ
  pub wanted : Wanted
  pub stage : Stage
  pub evaluated : Bool
  pub as_place : Bool
  pub ends : Bool
  pub conditional : Bool
  pub opens : List Open

-- ---- what a form emits: a node, whatever is known

pub data Action (N : Type 0) : Type 0 where
  -- `and` and `or` of two parts
  Deciding : Logic → Part N → Part N → Action N
  -- by a condition one part or the other, where there is one
  Choosing : Part N → Part N → Option (Part N) → Action N
  -- one after the other, inside a target where there is one
  Sequence : Option ℕ → List (Part N) → Action N
  -- a `while`: its targets `out`, `again` and `stepped`, its condition, its body, its step and its `else`
  Looping : ℕ → ℕ → ℕ → Part N → Part N → Option (Part N) → Option (Part N) → Action N
  -- a `for`: its targets `out` and `again`, its ranges, their starts and ends, its body and its `else`
  Counting : ℕ → ℕ → List Range → List (Part N) → Part N → Option (Part N) → Action N
  -- the value at a place; a value into one; into one what an operator made of it; and into a new variable
  Reading : RunPlace → Action N
  Writing : RunPlace → Part N → Action N
  Updating : RunPlace → Part N → Action N
  Declaring : Bool → ℕ → Part N → Action N
  -- a value that nobody takes
  Discarding : Part N → Action N
  -- a call of a function that is this value
  Calling : ValueTree → List (Part N) → Action N
  -- a panic with this cause
  Stopping : ℕ → Action N

-- ---- requests

-- What a form asks for. Each answer is one more of its parts, and then the form is asked again.
pub data Next (N : Type 0) : Type 0 where
  -- a child's part
  Ask : Visit → Next N
  -- an operator in a result type: a value where all operands are known, and else a node
  Operate : Operator → TypeTree → List (Operand N) → Next N
  -- a part as one of a type
  Become : TypeTree → Part N → Next N
  -- a node of this type, whatever is known
  Emit : Action N → TypeTree → Next N
  -- what a name stands for here
  Lookup : List ℕ → Next N
  -- from here on the names that this node declares stand for this part; for the next argument, of this type; for a new variable of this type, which
  -- can be written or not. The answer to the last two is the place.
  Bind : Part N → Next N
  Parameter : TypeTree → Next N
  Variable : Bool → TypeTree → Next N
  -- from here on the function's result has this type
  Returns : TypeTree → Next N
  -- a new target, whose number is the answer
  OpenTarget : Next N
  -- it leaves with this part
  Leave : Destination → Part N → Next N
  -- the branch quota is raised
  Raise : ValueTree → Next N
  -- the form's part; a stop at the form, or at a child
  Done : Part N → Next N
  Halt : StopKind → Next N
  HaltAt : List ℕ → StopKind → Next N

-- Where a form stands: its tree and those behind it below the same parent, its number, the type that is wanted of it, its stage, and whether its place is wanted.
pub record Occurrence : Type 0 where
  pub here : Forest Entry
  pub node : ℕ
  pub wanted : Option TypeTree
  pub stage : Stage
  pub as_place : Bool

-- what a form asks for, by where it stands and the parts so far
abbrev pub Rule : Type 0 → Type 0
Rule N = Occurrence → List (Part N) → Next N

-- ---- rules one request after the other

-- a request, and what is due when it was answered, with the parts behind that
abbrev pub take : {N : Type 0} → Next N → List (Part N) → (Part N → List (Part N) → Next N) → Next N
take next [] due = next
take next (part ∷ parts) due = due part parts

-- one request for each of several things, with the answers so far
abbrev pub take_each : {N A : Type 0} → (A → List (Part N) → Next N) → List A → List (Part N) → List (Part N) → (List (Part N) → List (Part N) → Next N) → Next N
take_each next [] taken parts due = due taken parts
take_each next (a ∷ more) taken [] due = next a taken
take_each next (a ∷ more) taken (part ∷ parts) due = take_each next more (taken ++ part ∷ []) parts due

-- A child in which the form opens targets: the parts that left to them come first.
abbrev pub take_open : {N : Type 0} → Next N → List (Part N) → List (Part N) → (List (Part N) → Part N → List (Part N) → Next N) → Next N
take_open next arrived [] due = next
take_open next arrived (part ∷ parts) due =
    elim part.left_to [ None ↦ due arrived part parts | Some target ↦ take_open next (arrived ++ part ∷ []) parts due ]

-- the last request: its answer is the form's part
abbrev pub last_of : {N : Type 0} → Next N → List (Part N) → Next N
last_of next parts = take next parts (λ part more. Done part)

-- a visit of a child in the form's own stage, whose end the form needs
abbrev pub operand_at : Occurrence → ℕ → Wanted → Visit
operand_at site child wanted =
    record { child = child ∷ []; wanted = wanted; stage = site.stage; evaluated = true; as_place = false; ends = true; conditional = false; opens = [] }

-- the number that an answer is
abbrev pub number_in : Option ValueTree → Option ℕ
number_in (Some (tree.NumberValue (pos n))) = Some n
number_in _ = None

abbrev pub number_of : {N : Type 0} → Part N → Option ℕ
number_of part = number_in (known_of part)

abbrev pub number_part : {N : Type 0} → ℕ → Part N
number_part n = a_value tree.ComptimeIntType (tree.NumberValue (pos n))

-- the variable whose place a part is
abbrev pub variable_in : {N : Type 0} → Stands N → Option ℕ
variable_in (IsPlace writable (run.Variable k)) = Some k
variable_in _ = None

abbrev pub variable_of : {N : Type 0} → Part N → Option ℕ
variable_of part = variable_in part.stands
