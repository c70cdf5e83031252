-- What the exported functions of a list of functions mean: a machine whose calls evaluate a body, and what its sessions count. The bound is turns,
-- over the whole session.
use Rattle.std.specs.Prelude.{ℕ, ◌+◌, ◌-◌, List, [], ◌∷◌, slice_get, Option, Some, None, if◌then◌else◌, Bool, false}
use Rattle.std.specs.Str.{bytes_eq}
use Rattle.zw_session.specs.Sessions.{Scalar, Call, Wild, Trapped, CallEnd, Returned, Halted, Outcome, Machine}
use Rattle.zw_types.specs.TypeTrees as tree
use Rattle.zw_types.specs.TypeTrees.{TypeTree, ValueTree}
use Rattle.zw_values.specs.ObjectStore.{Store}
use Rattle.zw_typed.specs.NodeMeanings.{scalar_of}
use Rattle.zw_typed.specs.Exports.{are_of, values_of}
use Rattle.zw_typed.specs.FlowNodes.{Function}
use Rattle.zw_typed.specs.FlowCounts.{Counts, nothing_counted}
use Rattle.zw_typed.specs.FlowRuns.{Run, End, Gives, Stops, Evaluated, stuck}
use Rattle.zw_typed.specs.FlowMeanings.{entered, calls_within}

-- an export: its name, and the number of its function
pub record Named : Type 0 where
  pub name : List ℕ
  pub func : ℕ

pub record Functions : Type 0 where
  pub functions : List Function
  pub exports : List Named

-- at most so many calls are active at run time
abbrev pub most_calls : ℕ
most_calls = 2048

abbrev pub number_named : List Named → List ℕ → Option ℕ
number_named [] name = None
number_named (e ∷ exports) name = if bytes_eq e.name name then Some e.func else number_named exports name

abbrev pub function_numbered : List Function → Option ℕ → Option Function
function_numbered functions None = None
function_numbered functions (Some k) = slice_get functions k

abbrev pub exported : Functions → List ℕ → Option Function
exported p name = function_numbered p.functions (number_named p.exports name)

-- a session begins with these objects, and what it counted before
pub record Kept : Type 0 where
  pub store : Store
  pub counts : Counts

abbrev pub at_first : Kept
at_first = record { store = []; counts = nothing_counted }

abbrev pub run_from : Kept → List ℕ → ℕ → Run
run_from kept replies turns = record { store = kept.store; variables = []; replies = replies; turns = turns; events = []; counts = kept.counts }

-- An exported call, where this many calls may be active: it is the first. A call that doesn't fit is no call.
abbrev pub call_of : ℕ → Functions → Kept → Option Function → List Scalar → List ℕ → ℕ → Evaluated ValueTree
call_of depth p kept None args replies turns = stuck (run_from kept replies turns)
call_of depth p kept (Some f) args replies turns = entered (calls_within p.functions (depth - 1)) f (values_of args) (run_from kept replies turns)

abbrev pub kept_by : Run → Kept
kept_by run = record { store = run.store; counts = run.counts }

-- what is undefined can't be given to the host
abbrev pub result_end : TypeTree → Option Scalar → Run → CallEnd Kept
result_end tree.VoidType value run = Returned None (kept_by run) run.replies run.turns
result_end ty (Some value) run = Returned (Some value) (kept_by run) run.replies run.turns
result_end ty None run = Halted Wild

-- What can't be is a trap, which no source has: so code owes more where it would be, and never less.
abbrev pub call_end : TypeTree → End ValueTree → Run → CallEnd Kept
call_end ty (Gives value) run = result_end ty (scalar_of value) run
call_end ty (Stops halt) run = Halted halt
call_end ty _ run = Halted (Trapped 0)

abbrev pub result_of : Option Function → TypeTree
result_of None = tree.VoidType
result_of (Some f) = f.result

abbrev pub outcome : TypeTree → Evaluated ValueTree → Outcome Kept
outcome ty r = record { events = r.run.events; end = call_end ty r.end r.run }

abbrev pub args_fit : Option Function → List Scalar → Bool
args_fit None args = false
args_fit (Some f) args = are_of f.params args

abbrev pub functions_machine : ℕ → Functions → Machine Kept
functions_machine depth p = record {
  fits = λ call. args_fit (exported p call.name) call.args;
  call = λ kept call replies turns.
      outcome (result_of (exported p call.name)) (call_of depth p kept (exported p call.name) call.args replies turns);
}

-- ---- what sessions count

abbrev pub counts_after : CallEnd Kept → Counts → (Kept → List ℕ → ℕ → Counts) → Counts
counts_after (Returned value kept replies left) counts go = go kept replies left
counts_after (Halted halt) counts go = counts

-- all that the session of these calls counts
abbrev pub session_counts : ℕ → Functions → List Call → Kept → List ℕ → ℕ → Counts
session_counts depth p [] kept replies turns = kept.counts
session_counts depth p (call ∷ calls) kept replies turns =
    let r : Evaluated ValueTree = call_of depth p kept (exported p call.name) call.args replies turns in
    counts_after (call_end (result_of (exported p call.name)) r.end r.run) r.run.counts (session_counts depth p calls)

abbrev pub turns_after : CallEnd Kept → (Kept → List ℕ → ℕ → ℕ) → ℕ
turns_after (Returned value kept replies left) go = go kept replies left
turns_after (Halted halt) go = 0

-- the turns that the session of these calls takes
abbrev pub session_turns : ℕ → Functions → List Call → Kept → List ℕ → ℕ → ℕ
session_turns depth p [] kept replies turns = 0
session_turns depth p (call ∷ calls) kept replies turns =
    let r : Evaluated ValueTree = call_of depth p kept (exported p call.name) call.args replies turns in
    (turns - r.run.turns) + turns_after (call_end (result_of (exported p call.name)) r.end r.run) (session_turns depth p calls)
