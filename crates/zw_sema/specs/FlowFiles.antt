-- The analysis of a file with statements, variables and calls, and what the file means: its exports in the order of the text, then the other functions in the order
-- in which they are first called (this project's own).
use Rattle.std.specs.Prelude.{ℕ, zero, suc, ◌+◌, true, false, nat_le, nat_lt, List, [], ◌∷◌, ◌++◌, slice_get, length, Option, Some, None}
use Rattle.zw_base.specs.declared.stop.StopKind.{StopKind}
use Rattle.zw_base.specs.declared.stop.StopKind.TheVariants.{Error, Limit}
use Rattle.zw_base.specs.declared.stop.Place.{Place}
use Rattle.zw_session.specs.Sessions.{Call, Session, session}
use Rattle.zw_tree.specs.Trees.{Forest}
use Rattle.zw_tree.specs.declared.ast.Entry.{Entry}
use Rattle.zw_tree.specs.declared.kind.NodeKind.TheVariants as kind
use Rattle.zw_types.specs.TypeTrees as tree
use Rattle.zw_types.specs.TypeTrees.{TypeTree}
use Rattle.zw_values.specs.ObjectStore.{at_run_time}
use Rattle.zw_typed.specs.Weights.{weight_of, greatest_weight}
use Rattle.zw_typed.specs.FlowNodes.{Function}
use Rattle.zw_typed.specs.FlowCounts.{Counts}
use Rattle.zw_typed.specs.FlowMachines.{Functions, Named, most_calls, at_first, functions_machine, session_counts}
use Rattle.zw_env.specs.Children.{tree_at, kind_of, place_of, has, declared_name, is_export_word, members}
use Rattle.zw_env.specs.Counting.{none_counted, begun}
use Rattle.zw_sema.specs.FlowPlaces.{member_spot}
use Rattle.zw_sema.specs.FlowStates.{RunPart, Own, own_at_first, State, Out, Found, Left, Stopped, TooSmall}
use Rattle.zw_sema.specs.FlowBuilding.{node_of}
use Rattle.zw_sema.specs.FlowWalk.{unit_task, walk}

-- a function, and where its declaration begins
pub record Walked : Type 0 where
  pub place : Place
  pub function : Function

-- The functions of a file, or the first stop and where it stands, each with the state at the end; or the bound was too small.
pub data Analysis : Type 0 where
  Accepted : List Walked → State → Analysis
  Refused : StopKind → Place → State → Analysis
  NeedsMore : Analysis

-- ---- what becomes of a member: exports are units, `comptime` blocks aren't built yet, and all else waits until it is mentioned

pub data Turn : Type 0 where
  IsExport IsUnbuilt Waits : Turn

abbrev pub turn_of : Forest Entry → Turn
turn_of here =
    elim (kind_of here) [
      | kind.ComptimeBlock ↦ IsUnbuilt
      | kind.Function ↦ elim (has here is_export_word) [ true ↦ IsExport | false ↦ Waits ]
      | _ ↦ Waits
    ]

abbrev pub exports_among : Forest Entry → List ℕ → List ℕ
exports_among file [] = []
exports_among file (n ∷ ns) = elim (turn_of (tree_at file n)) [ IsExport ↦ n ∷ exports_among file ns | _ ↦ exports_among file ns ]

-- the functions begin with the exports in the order of the text
abbrev pub start : Forest Entry → State
start file = record { counters = none_counted; own = own_at_first; declarations = []; functions = exports_among file (members file) }

-- ---- functions

-- a function is a unit with a quota and names of its own
abbrev pub function_begun : State → State
function_begun state = record { counters = begun state.counters; own = own_at_first; declarations = state.declarations; functions = state.functions }

abbrev pub result_type : Option TypeTree → TypeTree
result_type None = tree.VoidType
result_type (Some ty) = ty

abbrev pub function_of : Own → RunPart → Function
function_of own part = record { params = own.params; result = result_type own.result; vars = own.variables; body = node_of part }

abbrev pub on_function : Place → List Walked → Out → (State → List Walked → Analysis) → Analysis
on_function place before (Found part state) more = more state (before ++ record { place = place; function = function_of state.own part } ∷ [])
on_function place before (Left target part state) more = Refused (Error 13) place state
on_function place before (Stopped why at state) more = Refused why at state
on_function place before TooSmall more = NeedsMore

-- at most so many functions
abbrev pub most_functions : ℕ
most_functions = 20000

-- the function with this declaration, which is walked once
abbrev pub function_walked : Forest Entry → ℕ → ℕ → State → List Walked → (State → List Walked → Analysis) → Analysis
function_walked file depth n state before more =
    elim (nat_lt (length before) most_functions) [
      | true ↦ on_function (place_of (tree_at file n)) before (walk file depth (unit_task (member_spot file n) at_run_time) [] (function_begun state)) more
      | false ↦ Refused (Limit 4) (place_of (tree_at file n)) state
    ]

-- ---- the file

abbrev pub take_turn : Forest Entry → ℕ → ℕ → State → List Walked → (State → List Walked → Analysis) → Turn → Analysis
take_turn file depth n state before more IsExport = function_walked file depth n state before more
take_turn file depth n state before more IsUnbuilt = Refused (Error 36) (place_of (tree_at file n)) state
take_turn file depth n state before more Waits = more state before

-- the members in the order of the text
abbrev pub members_walked : Forest Entry → ℕ → List ℕ → (State → List Walked → Analysis) → State → List Walked → Analysis
members_walked file depth [] last state before = last state before
members_walked file depth (n ∷ ns) last state before =
    take_turn file depth n state before (members_walked file depth ns last) (turn_of (tree_at file n))

-- The other functions in the order of the list, which grows meanwhile: there are at most as many as members.
abbrev pub other_walked : Forest Entry → ℕ → State → List Walked → (State → List Walked → Analysis) → Option ℕ → Analysis
other_walked file depth state before more None = Accepted before state
other_walked file depth state before more (Some n) = function_walked file depth n state before more

abbrev pub others_walked : Forest Entry → ℕ → ℕ → State → List Walked → Analysis
others_walked file depth zero state before = Accepted before state
others_walked file depth (suc left) state before =
    other_walked file depth state before (λ s units. others_walked file depth left s units) (slice_get state.functions (length before))

-- ---- frames, when all units are walked

abbrev pub frame_weight : Function → ℕ
frame_weight f = weight_of f.params + weight_of f.vars

abbrev pub first_too_heavy : List Walked → Option Place
first_too_heavy [] = None
first_too_heavy (u ∷ units) = elim (nat_le (frame_weight u.function) greatest_weight) [ true ↦ first_too_heavy units | false ↦ Some u.place ]

abbrev pub if_light : List Walked → State → Option Place → Analysis
if_light units state None = Accepted units state
if_light units state (Some place) = Refused (Limit 11) place state

abbrev pub weighed : Analysis → Analysis
weighed (Accepted units state) = if_light units state (first_too_heavy units)
weighed (Refused why place state) = Refused why place state
weighed NeedsMore = NeedsMore

-- the analysis of the file that is this tree
abbrev pub analysed : ℕ → Forest Entry → Analysis
analysed depth file =
    weighed (members_walked file depth (members file) (λ state units. others_walked file depth (length (members file)) state units) (start file) [])

-- ---- what it says

abbrev pub functions_in : List Walked → List Function
functions_in [] = []
functions_in (u ∷ units) = u.function ∷ functions_in units

-- an export is a name and the number of its function
abbrev pub named_from : Forest Entry → List ℕ → ℕ → List Named
named_from file [] k = []
named_from file (n ∷ ns) k = record { name = declared_name (tree_at file n); func = k } ∷ named_from file ns (k + 1)

abbrev pub units_in : Analysis → List Walked
units_in (Accepted units state) = units
units_in _ = []

abbrev pub functions_of : ℕ → Forest Entry → Functions
functions_of depth file =
    record { functions = functions_in (units_in (analysed depth file)); exports = named_from file (exports_among file (members file)) 0 }

-- a session of the file, where it is accepted, and where at most so many calls may be active; and what it counts
abbrev pub session_within : ℕ → ℕ → Forest Entry → List Call → List ℕ → ℕ → Session
session_within active depth file calls replies turns = session (functions_machine active (functions_of depth file)) calls at_first replies turns

abbrev pub file_session : ℕ → Forest Entry → List Call → List ℕ → ℕ → Session
file_session depth file calls replies turns = session_within most_calls depth file calls replies turns

abbrev pub file_counts : ℕ → Forest Entry → List Call → List ℕ → ℕ → Counts
file_counts depth file calls replies turns = session_counts most_calls (functions_of depth file) calls at_first replies turns
