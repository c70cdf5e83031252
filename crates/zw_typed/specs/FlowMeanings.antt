-- The one meaning of nodes with statements, variables and calls (this project's own, after the Zig Language Reference 0.13.0): how evaluating a
-- node ends, and what a run has then. What an operator does to values is that of `zw_values`, as while the program is compiled.
--
-- It is a recursion on how many calls may be active within this one, and then on the node; a loop goes by the turns that are left. So there is no
-- bound but those of the language: calls within calls, and turns.
use Rattle.std.specs.Prelude.{ℕ, zero, suc, ◌+◌, pos, true, false, nat_eq, nat_le, List, [], ◌∷◌, ◌++◌, slice_get, length, replicate, Bool, Option, Some, None}
use Rattle.std.specs.List.{list_any}
use Rattle.zw_session.specs.Sessions.{Scalar, Panicked, WantsReply, Running, Wild}
use Rattle.zw_types.specs.TypeTrees as tree
use Rattle.zw_types.specs.TypeTrees.{TypeTree, ValueTree}
use Rattle.zw_values.specs.ObjectStore.{Store, Place, Holds, IsUndefined, IsDead, place_of, saved}
use Rattle.zw_num.specs.declared.operator.Operator.{Operator}
use Rattle.zw_values.specs.Applied as operation
use Rattle.zw_values.specs.Applied.{applied}
use Rattle.zw_values.specs.Wild.{is_undefined}
use Rattle.zw_typed.specs.Nodes.{Import, Logic, And, Or}
use Rattle.zw_typed.specs.NodeMeanings.{nothing, scalars_of, value_from}
use Rattle.zw_typed.specs.FlowNodes.{Variable, FlowNode, FlowNodes, node, no_nodes, node_and, Function, type_of, types_of, Form, Constant, Read, Write, Declare, Scope, Operate, Become, Decide, Choose, InOrder, Target, Leave, Repeat, Count, Call, CallHost, Return, Stop}
use Rattle.zw_typed.specs.FlowCounts.{work_of, work_of_turn, work_of_call}
use Rattle.zw_typed.specs.FlowRuns.{Run, End, Gives, Leaves, Returns, Stops, Stuck, Evaluated, gives, stops, stuck, and_then, with_visit, with_value, with_turn, object_of, declared, scoped}
use Rattle.zw_typed.specs.FlowRanges.{Bounds, bounds_of, Turns, Due, Fails, NoEnd, turns_due}

-- what calls of the program's functions do, by number, arguments and what the run has
abbrev pub Calls : Type 0
Calls = ℕ → List ValueTree → Run → Evaluated ValueTree

-- a value becomes one of another type: in the rows that are built it stays as it is; its bytes are moved
abbrev pub become : TypeTree → TypeTree → ValueTree → Run → Evaluated ValueTree
become from to value run = gives value (with_value from run)

-- a value is given at a join, as one of the join's type
abbrev pub arrives : TypeTree → TypeTree → ValueTree → Run → Evaluated ValueTree
arrives from to value run = gives value (with_value to run)

-- ---- places

abbrev pub read_from : TypeTree → Place → Run → Evaluated ValueTree
read_from ty (Holds value) run = gives value (with_value ty run)
read_from ty (IsUndefined path) run = gives tree.UndefinedValue (with_value ty run)
read_from ty IsDead run = stops Wild run

abbrev pub read : TypeTree → Option ℕ → Run → Evaluated ValueTree
read ty None run = stuck run
read ty (Some obj) run = read_from ty (place_of run.store obj []) run

-- what is written fits its object
abbrev pub stored : TypeTree → Option Store → Run → Evaluated ValueTree
stored ty None run = stuck run
stored ty (Some store) run = gives nothing (with_value ty (record run { store = store }))

abbrev pub written_to : Place → TypeTree → ℕ → ValueTree → Run → Evaluated ValueTree
written_to IsDead ty obj value run = stops Wild run
written_to _ ty obj value run = stored ty (saved run.store obj [] value) run

abbrev pub write : TypeTree → Option ℕ → ValueTree → Run → Evaluated ValueTree
write ty None value run = stuck run
write ty (Some obj) value run = written_to (place_of run.store obj []) ty obj value run

-- ---- operators

-- what no operator says of operands that are there is wild where one is undefined, and else can't be
abbrev pub wild_or_stuck : Bool → Run → Evaluated ValueTree
wild_or_stuck true run = stops Wild run
wild_or_stuck false run = stuck run

abbrev pub outcome_of : List ValueTree → operation.Outcome → Run → Evaluated ValueTree
outcome_of values (operation.Gives value) run = gives value run
outcome_of values (operation.Panics cause) run = stops (Panicked cause []) run
outcome_of values operation.IsWild run = wild_or_stuck (list_any is_undefined values) run
outcome_of values (operation.Passes limit) run = stuck run

abbrev pub operated : Operator → List TypeTree → TypeTree → List ValueTree → Run → Evaluated ValueTree
operated op from to values run = outcome_of values (applied op from to values) run

-- by a truth value: to decide by what is undefined is wild
abbrev pub by_truth : {V : Type 0} → ValueTree → (Run → Evaluated V) → (Run → Evaluated V) → Run → Evaluated V
by_truth (tree.TruthValue true) if_true if_false run = if_true run
by_truth (tree.TruthValue false) if_true if_false run = if_false run
by_truth tree.UndefinedValue if_true if_false run = stops Wild run
by_truth _ if_true if_false run = stuck run

abbrev pub decided : Logic → ValueTree → (Run → Evaluated ValueTree) → Run → Evaluated ValueTree
decided And value other run = by_truth value other (λ run. gives (tree.TruthValue false) run) run
decided Or value other run = by_truth value (λ run. gives (tree.TruthValue true) run) other run

-- ---- targets and loops

-- what leaves comes to its own target, and goes past others
abbrev pub at_label : Bool → ℕ → TypeTree → TypeTree → ValueTree → Run → Evaluated ValueTree
at_label true target ty to value run = arrives ty to value run
at_label false target ty to value run = record { end = Leaves target ty value; run = run }

-- what comes to a target, or goes past it
abbrev pub at_target : ℕ → TypeTree → TypeTree → End ValueTree → Run → Evaluated ValueTree
at_target t from to (Gives value) run = arrives from to value run
at_target t from to (Leaves target ty value) run = at_label (nat_eq t target) target ty to value run
at_target t from to (Returns ty value) run = record { end = Returns ty value; run = run }
at_target t from to (Stops halt) run = stops halt run
at_target t from to Stuck run = stuck run

-- The body again and again, by the turns that were left at first: the return to its start takes one.
abbrev pub repeated : ℕ → (Run → Evaluated ValueTree) → Run → Evaluated ValueTree
repeated zero body run = and_then (body run) (λ value after. stops Running after)
repeated (suc left) body run =
    and_then (body run) (λ value after. with_turn after (λ next. repeated left body (with_visit false work_of_turn next)))

abbrev pub usize : TypeTree
usize = tree.IntType false 32 true

-- a capture with a name is a new constant; one past `usize` panics
abbrev pub capture_at : Bool → ℕ → ℕ → (Run → Evaluated (List ℕ)) → Run → Evaluated (List ℕ)
capture_at true k n more run =
    and_then (more (with_value usize (declared k usize (tree.NumberValue (pos n)) false run))) (λ ks after. gives (k ∷ ks) after)
capture_at false k n more run = stops (Panicked 1 []) run

abbrev pub capture_of : Option ℕ → ℕ → (Run → Evaluated (List ℕ)) → Run → Evaluated (List ℕ)
capture_of None n more run = more run
capture_of (Some k) n more run = capture_at (nat_le n 4294967295) k n more run

-- the captures of a turn, in order
abbrev pub captured : List Bounds → ℕ → Run → Evaluated (List ℕ)
captured [] turn run = gives [] run
captured (b ∷ more) turn run = capture_of b.capture (b.start + turn) (λ next. captured more turn next) run

-- each turn that is due, from this one on: captures, the body, and the return to the test, which is a turn
abbrev pub counted : ℕ → List Bounds → ℕ → (Run → Evaluated ValueTree) → Run → Evaluated ValueTree
counted zero bounds turn body run = gives nothing run
counted (suc due) bounds turn body run =
    and_then (and_then (captured bounds turn run) (λ ks after. scoped ks (body after)))
    (λ value after. with_turn after (λ next. counted due bounds (turn + 1) body (with_visit false work_of_turn next)))

abbrev pub by_turns : Turns → List Bounds → (Run → Evaluated ValueTree) → Run → Evaluated ValueTree
by_turns (Due n) bounds body run = counted n bounds 0 body run
by_turns (Fails cause) bounds body run = stops (Panicked cause []) run
by_turns NoEnd bounds body run = stuck run

abbrev pub over_ranges : List ValueTree → Option (List Bounds) → (Run → Evaluated ValueTree) → Run → Evaluated ValueTree
over_ranges values None body run = wild_or_stuck (list_any is_undefined values) run
over_ranges values (Some bounds) body run = by_turns (turns_due bounds) bounds body run

-- ---- calls

abbrev pub replied : TypeTree → List ℕ → Run → Evaluated ValueTree
replied tree.VoidType replies run = gives nothing run
replied ty [] run = stops WantsReply run
replied ty (reply ∷ replies) run = gives (value_from ty reply) (record run { replies = replies })

-- what is undefined can't be given to the host
abbrev pub host_called : Import → List ValueTree → Option (List Scalar) → Run → Evaluated ValueTree
host_called import values None run = wild_or_stuck (list_any is_undefined values) run
host_called import values (Some args) run =
    replied import.result run.replies (record run { events = run.events ++ record { name = import.name; args = args; shown = [] } ∷ [] })

-- ---- nodes

abbrev mutual
  pub evaluated : Calls → FlowNode → Run → Evaluated ValueTree
  evaluated calls (node counts ty form) run = meant calls ty form (with_visit counts (work_of form) run)

  -- what a node of this type does, once it is counted
  pub meant : Calls → TypeTree → Form → Run → Evaluated ValueTree
  meant calls ty (Constant value) run = gives value run
  meant calls ty (Read (Variable k)) run = read ty (object_of run k) run
  meant calls ty (Write (Variable k) n) run = and_then (evaluated calls n run) (λ value after. write (type_of n) (object_of after k) value after)
  meant calls ty (Declare k writable n) run =
      and_then (evaluated calls n run) (λ value after. gives nothing (with_value (type_of n) (declared k (type_of n) value writable after)))
  meant calls ty (Scope ks n) run = scoped ks (evaluated calls n run)
  meant calls ty (Operate op kids) run =
      and_then (all_evaluated calls kids run) (λ values after. operated op (types_of kids) ty values after)
  meant calls ty (Become n) run = and_then (evaluated calls n run) (λ value after. become (type_of n) ty value after)
  meant calls ty (Decide logic a b) run = and_then (evaluated calls a run) (λ value after. decided logic value (λ next. evaluated calls b next) after)
  meant calls ty (Choose c a b) run =
      and_then (evaluated calls c run) (λ value after. by_truth value
      (λ next. and_then (evaluated calls a next) (λ given last. arrives (type_of a) ty given last))
      (λ next. and_then (evaluated calls b next) (λ given last. arrives (type_of b) ty given last)) after)
  meant calls ty (InOrder kids) run = and_then (all_evaluated calls kids run) (λ values after. gives nothing after)
  meant calls ty (Target t n) run = let r : Evaluated ValueTree = evaluated calls n run in at_target t (type_of n) ty r.end r.run
  meant calls ty (Leave t n) run = and_then (evaluated calls n run) (λ value after. record { end = Leaves t (type_of n) value; run = after })
  meant calls ty (Repeat n) run = repeated run.turns (λ next. evaluated calls n next) run
  meant calls ty (Count ranges bounds n) run =
      and_then (all_evaluated calls bounds run) (λ values after. over_ranges values (bounds_of ranges values) (λ next. evaluated calls n next) after)
  meant calls ty (Call f args) run = and_then (all_evaluated calls args run) (λ values after. calls f values after)
  meant calls ty (CallHost import args) run = and_then (all_evaluated calls args run) (λ values after. host_called import values (scalars_of values) after)
  meant calls ty (Return n) run = and_then (evaluated calls n run) (λ value after. record { end = Returns (type_of n) value; run = after })
  meant calls ty (Stop cause) run = stops (Panicked cause []) run

  -- several, in order
  pub all_evaluated : Calls → FlowNodes → Run → Evaluated (List ValueTree)
  all_evaluated calls no_nodes run = gives [] run
  all_evaluated calls (node_and n ns) run =
      and_then (evaluated calls n run) (λ value after. and_then (all_evaluated calls ns after) (λ values last. gives (value ∷ values) last))

-- ---- functions

-- the parameters are new constants with these values, from the k-th variable on
abbrev pub bound : ℕ → List TypeTree → List ValueTree → Run → Evaluated (List ℕ)
bound k [] [] run = gives [] run
bound k (ty ∷ types) (value ∷ values) run =
    and_then (bound (k + 1) types values (with_value ty (declared k ty value false run))) (λ ks after. gives (k ∷ ks) after)
bound k _ _ run = stuck run

-- a call's value is what its body returns, as one of the function's result; a body that comes to its end returns what it gives
abbrev pub returned : TypeTree → End ValueTree → Run → Evaluated ValueTree
returned result (Gives value) run = arrives result result value run
returned result (Leaves target ty value) run = stuck run
returned result (Returns ty value) run = arrives ty result value run
returned result (Stops halt) run = stops halt run
returned result Stuck run = stuck run

-- the caller's variables again
abbrev pub back : List (Option ℕ) → Evaluated ValueTree → Evaluated ValueTree
back variables r = record { end = r.end; run = record r.run { variables = variables } }

abbrev pub body_done : TypeTree → Evaluated ValueTree → Evaluated ValueTree
body_done result r = returned result r.end r.run

-- A call of a function, which counts one, with variables of its own: no parameter is live behind it.
abbrev pub entered : Calls → Function → List ValueTree → Run → Evaluated ValueTree
entered calls f args run =
    let own : Run = record (with_visit true work_of_call run) { variables = replicate (length f.params + length f.vars) None } in
    back run.variables (and_then (bound 0 f.params args own) (λ ks after. body_done f.result (scoped ks (evaluated calls f.body after))))

-- a call of a function that is there takes a turn
abbrev pub found_called : Calls → Option Function → List ValueTree → Run → Evaluated ValueTree
found_called calls None args run = stuck run
found_called calls (Some f) args run = with_turn run (λ next. entered calls f args next)

-- Calls where so many more may be active: one more panics behind its arguments and takes no turn.
abbrev pub calls_within : List Function → ℕ → Calls
calls_within functions zero f args run = stops (Panicked 19 []) run
calls_within functions (suc room) f args run = found_called (calls_within functions room) (slice_get functions f) args run
