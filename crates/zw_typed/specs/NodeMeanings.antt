-- The one meaning of typed nodes: which host calls evaluating a node makes, in order, and how it ends. What a node does to the values of
-- its kids is `applied` of `zw_values`, as while the program is compiled.
use Rattle.std.specs.Prelude.{ℕ, ◌%◌, pos, true, false, nat_eq, List, [], ◌∷◌, ◌++◌, slice_get, Option, Some, None}
use Rattle.zw_num.specs.declared.int_ty.IntTy.TheVariants.{Sized}
use Rattle.zw_num.specs.Arithmetic.{wrapped}
use Rattle.zw_session.specs.Sessions.{Scalar, Number, Truth, HostEvent, Halt, Panicked, WantsReply, Wild}
use Rattle.zw_types.specs.TypeTrees as tree
use Rattle.zw_types.specs.TypeTrees.{TypeTree, ValueTree}
use Rattle.zw_values.specs.Applied as operation
use Rattle.zw_values.specs.Applied.{applied}
use Rattle.zw_typed.specs.Nodes.{Logic, And, Or, Import, Constant, Argument, Operate, Become, Decide, CallHost, InOrder, Return, TypedNode, TypedNodes, node, no_nodes, node_and, types_of}

-- How evaluating ends: with a value and the replies that are left; by a return of the function, with its value; or it halts.
pub data End (V : Type 0) : Type 0 where
  Gives : (value : V) (replies : List ℕ) → End V
  Leaves : (value : ValueTree) (replies : List ℕ) → End V
  Stops : (halt : Halt) → End V

-- the host calls that evaluating makes, in order, and its end
pub record Evaluated (V : Type 0) : Type 0 where
  pub events : List HostEvent
  pub end : End V

abbrev pub gives : {V : Type 0} → V → List ℕ → Evaluated V
gives value replies = record { events = []; end = Gives value replies }

abbrev pub stops : {V : Type 0} → Halt → Evaluated V
stops halt = record { events = []; end = Stops halt }

abbrev pub behind : {V : Type 0} → List HostEvent → Evaluated V → Evaluated V
behind events r = record { events = events ++ r.events; end = r.end }

abbrev pub goes_on : {V W : Type 0} → List HostEvent → End V → (V → List ℕ → Evaluated W) → Evaluated W
goes_on events (Gives value replies) go = behind events (go value replies)
goes_on events (Leaves value replies) go = record { events = events; end = Leaves value replies }
goes_on events (Stops halt) go = record { events = events; end = Stops halt }

-- one thing, and then another with its value
abbrev pub and_then : {V W : Type 0} → Evaluated V → (V → List ℕ → Evaluated W) → Evaluated W
and_then r go = goes_on r.events r.end go

-- `void` has one value, which has no parts
abbrev pub nothing : ValueTree
nothing = tree.PartsValue tree.no_values

-- ---- what the host sees, and what it says

-- a number or a truth value, as its type has it; what is undefined isn't shown
abbrev pub scalar_of : ValueTree → Option Scalar
scalar_of (tree.NumberValue z) = Some (Number z)
scalar_of (tree.TruthValue b) = Some (Truth b)
scalar_of _ = None

abbrev pub scalars_and : Option Scalar → Option (List Scalar) → Option (List Scalar)
scalars_and (Some s) (Some more) = Some (s ∷ more)
scalars_and _ _ = None

abbrev pub scalars_of : List ValueTree → Option (List Scalar)
scalars_of [] = Some []
scalars_of (v ∷ vs) = scalars_and (scalar_of v) (scalars_of vs)

-- a reply is taken modulo the width of its type, a `bool` by its lowest bit
abbrev pub value_from : TypeTree → ℕ → ValueTree
value_from (tree.IntType signed bits size) reply = tree.NumberValue (wrapped (Sized signed bits) (pos reply))
value_from tree.BoolType reply = tree.TruthValue (nat_eq (reply % 2) 1)
value_from _ reply = nothing

-- a reply is asked for where a result is wanted
abbrev pub next_reply : TypeTree → List ℕ → End ValueTree
next_reply tree.VoidType replies = Gives nothing replies
next_reply ty [] = Stops WantsReply
next_reply ty (reply ∷ replies) = Gives (value_from ty reply) replies

abbrev pub host_called : Import → Option (List Scalar) → List ℕ → Evaluated ValueTree
host_called import None replies = stops Wild
host_called import (Some args) replies =
    record { events = record { name = import.name; args = args; shown = [] } ∷ []; end = next_reply import.result replies }

-- ---- nodes

-- A limit can't be passed here: it is one of `comptime_int`, which no value has at run time.
abbrev pub outcome_value : operation.Outcome → List ℕ → Evaluated ValueTree
outcome_value (operation.Gives value) replies = gives value replies
outcome_value (operation.Panics cause) replies = stops (Panicked cause [])
outcome_value operation.IsWild replies = stops Wild
outcome_value (operation.Passes limit) replies = stops Wild

abbrev pub argument_value : Option ValueTree → List ℕ → Evaluated ValueTree
argument_value (Some value) replies = gives value replies
argument_value None replies = stops Wild

-- the first value decides alone, or the other one is evaluated and is the result
abbrev pub decided : Logic → ValueTree → List ℕ → (List ℕ → Evaluated ValueTree) → Evaluated ValueTree
decided And (tree.TruthValue false) replies other = gives (tree.TruthValue false) replies
decided And (tree.TruthValue true) replies other = other replies
decided Or (tree.TruthValue true) replies other = gives (tree.TruthValue true) replies
decided Or (tree.TruthValue false) replies other = other replies
decided _ _ replies other = stops Wild

abbrev mutual
  -- a node, with these arguments of the function and these replies
  pub evaluated : List ValueTree → TypedNode → List ℕ → Evaluated ValueTree
  evaluated args (node (Constant value) ty kids) replies = gives value replies
  evaluated args (node (Argument k) ty kids) replies = argument_value (slice_get args k) replies
  evaluated args (node (Operate op) ty kids) replies =
      and_then (all_evaluated args kids replies) (λ values left. outcome_value (applied op (types_of kids) ty values) left)
  evaluated args (node Become ty kids) replies = first_evaluated args kids replies
  evaluated args (node (Decide op) ty kids) replies = deciding args op kids replies
  evaluated args (node (CallHost import) ty kids) replies =
      and_then (all_evaluated args kids replies) (λ values left. host_called import (scalars_of values) left)
  evaluated args (node InOrder ty kids) replies = and_then (all_evaluated args kids replies) (λ values left. gives nothing left)
  evaluated args (node Return ty kids) replies =
      and_then (first_evaluated args kids replies) (λ value left. record { events = []; end = Leaves value left })

  -- several, in order
  pub all_evaluated : List ValueTree → TypedNodes → List ℕ → Evaluated (List ValueTree)
  all_evaluated args no_nodes replies = gives [] replies
  all_evaluated args (node_and n ns) replies =
      and_then (evaluated args n replies) (λ value left. and_then (all_evaluated args ns left) (λ values more. gives (value ∷ values) more))

  pub first_evaluated : List ValueTree → TypedNodes → List ℕ → Evaluated ValueTree
  first_evaluated args no_nodes replies = gives nothing replies
  first_evaluated args (node_and n ns) replies = evaluated args n replies

  pub deciding : List ValueTree → Logic → TypedNodes → List ℕ → Evaluated ValueTree
  deciding args op no_nodes replies = stops Wild
  deciding args op (node_and n ns) replies =
      and_then (evaluated args n replies) (λ value left. decided op value left (λ more. first_evaluated args ns more))
