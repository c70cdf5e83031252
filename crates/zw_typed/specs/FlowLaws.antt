-- What holds of evaluating nodes, of calls and of sessions, as statements that are proved as laws.
use Rattle.std.specs.Prelude.{◌≡◌, ℕ, ◌+◌, ◌*◌, ◌≤◌, List, map, slice_get, Option, Some}
use Rattle.zw_session.specs.Lists.{IsPrefix}
use Rattle.zw_session.specs.Sessions.{Scalar, Call, Panicked, WantsReply, Running, Wild, Trapped, SessionEnd, Finished, Ended, AllFit, session}
use Rattle.zw_session.specs.Bounds.{StaysEnded, SessionsStayEnded}
use Rattle.zw_num.specs.declared.operator.Operator.{Operator}
use Rattle.zw_types.specs.TypeTrees.{TypeTree, ValueTree}
use Rattle.zw_values.specs.Applied.{applied}
use Rattle.zw_values.specs.ObjectStore.{Store}
use Rattle.zw_typed.specs.ValueTypes.{IsValueOf, AreValuesOf}
use Rattle.zw_typed.specs.FlowTypes.{Opened, behind, IsRunType, OperatesOn, ComesTo, Fits, signature, context_in, FunctionFits}
use Rattle.zw_typed.specs.FlowStates.{IsState, HaltFits, EndFits, CallsFit}
use Rattle.zw_typed.specs.FlowNodes.{FlowNode, Function, type_of}
use Rattle.zw_typed.specs.FlowCounts.{Counts}
use Rattle.zw_typed.specs.FlowRuns.{Run, End, Gives, Leaves, Returns, Stops, Stuck, Evaluated}
use Rattle.zw_typed.specs.FlowMeanings.{evaluated, calls_within}
use Rattle.zw_typed.specs.FlowMachines.{Named, Functions, Kept, at_first, call_of, functions_machine, run_from, session_counts, session_turns}
use Rattle.zw_typed.specs.FlowNeeds.{paid_work, first_visits, need, AreTurnsPaid, IsFunctionPaid}

-- Turns that are left only fall, what is counted only grows, and host calls come behind the earlier ones.
pub record Grows (before after : Run) : Type 0 where
  pub turns : after.turns ≤ before.turns
  pub visits : before.counts.visits ≤ after.counts.visits
  pub moved : before.counts.moved ≤ after.counts.moved
  pub work : before.counts.work ≤ after.counts.work
  pub events : IsPrefix before.events after.events

pub record CountsGrow (before after : Counts) : Type 0 where
  pub visits : before.visits ≤ after.visits
  pub moved : before.moved ≤ after.moved
  pub work : before.work ≤ after.work

-- Whatever is evaluated or called, and however it ends, what a run has only grows.
pub record RunsGrow : Type 0 where
  pub node : (functions : List Function) (room : ℕ) (n : FlowNode) (run : Run) → Grows run (evaluated (calls_within functions room) n run).run
  pub called : (functions : List Function) (room f : ℕ) (args : List ValueTree) (run : Run) → Grows run (calls_within functions room f args run).run
  pub exported : (depth : ℕ) (p : Functions) (kept : Kept) (f : Option Function) (args : List Scalar) (replies : List ℕ) (turns : ℕ) →
      Grows (run_from kept replies turns) (call_of depth p kept f args replies turns).run
  pub session : (depth : ℕ) (p : Functions) (calls : List Call) (kept : Kept) (replies : List ℕ) (turns : ℕ) →
      CountsGrow kept.counts (session_counts depth p calls kept replies turns)

-- the same, with so many turns more
abbrev pub more_turns : ℕ → Run → Run
more_turns k run = record run { turns = run.turns + k }

-- Evaluating ended so, and with k turns more it comes to the later end: where it was still running, that begins with the same host calls; and
-- else it is the same end, with k turns more left, and all else as it was.
abbrev pub Lasts : {V : Type 0} → ℕ → End V → Run → Evaluated V → Type 0
Lasts k (Stops Running) run later = IsPrefix run.events later.run.events
Lasts k (Stops (Panicked cause message)) run later = later ≡ record { end = Stops (Panicked cause message); run = more_turns k run }
Lasts k (Stops WantsReply) run later = later ≡ record { end = Stops WantsReply; run = more_turns k run }
Lasts k (Stops Wild) run later = later ≡ record { end = Stops Wild; run = more_turns k run }
Lasts k (Stops (Trapped code)) run later = later ≡ record { end = Stops (Trapped code); run = more_turns k run }
Lasts k (Gives value) run later = later ≡ record { end = Gives value; run = more_turns k run }
Lasts k (Leaves target ty value) run later = later ≡ record { end = Leaves target ty value; run = more_turns k run }
Lasts k (Returns ty value) run later = later ≡ record { end = Returns ty value; run = more_turns k run }
Lasts k Stuck run later = later ≡ record { end = Stuck; run = more_turns k run }

-- More turns change nothing where evaluating a node, a call or a session ended.
pub record RunsStayEnded : Type 0 where
  pub node : (functions : List Function) (room : ℕ) (n : FlowNode) (run : Run) (k : ℕ) →
      Lasts k (evaluated (calls_within functions room) n run).end (evaluated (calls_within functions room) n run).run
      (evaluated (calls_within functions room) n (more_turns k run))
  pub called : (functions : List Function) (room f : ℕ) (args : List ValueTree) (run : Run) (k : ℕ) →
      Lasts k (calls_within functions room f args run).end (calls_within functions room f args run).run (calls_within functions room f args (more_turns k run))
  pub machine : (depth : ℕ) (p : Functions) → StaysEnded (functions_machine depth p)
  pub sessions : (depth : ℕ) (p : Functions) → SessionsStayEnded (functions_machine depth p)

-- From one run to a later one: beside a visit for each turn that was taken there are so many first visits; and visits and moved bytes in between,
-- beside those first ones, pay for the work, but for what is owed.
pub record Pays (first owed : ℕ) (before after : Run) : Type 0 where
  pub turns : before.counts.visits + before.turns + first ≤ after.counts.visits + after.turns
  pub work : after.counts.work + paid_work * (before.counts.visits + before.counts.moved) + paid_work * first ≤
      before.counts.work + paid_work * (after.counts.visits + after.counts.moved) + owed

-- each function that is there pays
abbrev pub AreFunctionsPaid : List Function → Type 0
AreFunctionsPaid functions = (k : ℕ) (f : Function) → slice_get functions k ≡ Some f → IsFunctionPaid f

-- Where turns and functions are paid: a node begins with its first visits and needs no more than is computed of it; a call needs nothing; and
-- a session counts at least as many visits as it takes turns, and visits and moved bytes pay for its work.
pub record VisitsPay (functions : List Function) : Type 0 where
  pub node : (room : ℕ) (n : FlowNode) (run : Run) → AreTurnsPaid n → Pays (first_visits n) (need n) run (evaluated (calls_within functions room) n run).run
  pub called : (room f : ℕ) (args : List ValueTree) (run : Run) → Pays 0 0 run (calls_within functions room f args run).run
  pub turns : (exports : List Named) (depth : ℕ) (calls : List Call) (kept : Kept) (replies : List ℕ) (turns : ℕ) →
      let p : Functions = record { functions = functions; exports = exports } in
      kept.counts.visits + session_turns depth p calls kept replies turns ≤ (session_counts depth p calls kept replies turns).visits
  pub work : (exports : List Named) (depth : ℕ) (calls : List Call) (replies : List ℕ) (turns : ℕ) →
      let p : Functions = record { functions = functions; exports = exports } in
      let c : Counts = session_counts depth p calls at_first replies turns in
      c.work ≤ paid_work * (c.visits + c.moved)

-- An operator on values of types that it is for gives a value of its type, or panics.
abbrev pub OperatorsCome : Type 0
OperatorsCome =
    (op : Operator) (kids : List TypeTree) (ty : TypeTree) → OperatesOn op kids ty → IsRunType ty → (values : List ValueTree) → AreValuesOf kids values →
    ComesTo ty (applied op kids ty values)

-- each function that is there fits
abbrev pub AreFunctionsFit : List Function → Type 0
AreFunctionsFit functions = (k : ℕ) (f : Function) → slice_get functions k ≡ Some f → FunctionFits functions f

-- Where functions fit: a node that fits gives a value of its type, with the variables declared that are behind it; what leaves and returns has a
-- value of the type that it comes to; and nothing is stuck or wild, nor is a call on arguments of the parameters' types.
pub record NodesFit (functions : List Function) : Type 0 where
  pub node : (f : Function) (room : ℕ) (outer : Store) (around : List Opened) (live : List ℕ) (n : FlowNode) → Fits (context_in functions f) around live n → (run : Run) →
      IsState (context_in functions f) outer live run.store run.variables →
      let r : Evaluated ValueTree = evaluated (calls_within functions room) n run in
      EndFits (context_in functions f) outer around live
      (λ value after. IsValueOf (type_of n) value × IsState (context_in functions f) outer (behind live n) after.store after.variables) r.end r.run
  pub called : (room : ℕ) → CallsFit (map signature functions) (calls_within functions room)

abbrev pub SessionFits : SessionEnd → Type 0
SessionFits Finished = Unit {0}
SessionFits (Ended halt) = HaltFits halt

-- A session of calls that fit is never stuck and never wild: it finishes, panics, wants a reply, or is still running.
abbrev pub NeverStuck : Functions → Type 0
NeverStuck p =
    (depth : ℕ) (calls : List Call) → AllFit (functions_machine depth p) calls → (kept : Kept) (replies : List ℕ) (turns : ℕ) →
    SessionFits (session (functions_machine depth p) calls kept replies turns).end
