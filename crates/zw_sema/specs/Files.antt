-- The analysis of a file, and what the file means: its exports in the order of the text (this project's own).
use Rattle.std.specs.Prelude.{ℕ, Bool, true, false, nat_le, if◌then◌else◌, List, [], ◌∷◌, ◌++◌, Option, Some, None}
use Rattle.zw_base.specs.declared.stop.StopKind.{StopKind}
use Rattle.zw_base.specs.declared.stop.StopKind.TheVariants.{Error, Limit}
use Rattle.zw_base.specs.declared.stop.Place.{Place}
use Rattle.zw_session.specs.Sessions.{Call, Session, session}
use Rattle.zw_tree.specs.Trees.{Forest}
use Rattle.zw_tree.specs.declared.ast.Entry.{Entry}
use Rattle.zw_tree.specs.declared.kind.NodeKind.TheVariants as kind
use Rattle.zw_types.specs.TypeTrees as tree
use Rattle.zw_types.specs.TypeTrees.{TypeTree}
use Rattle.zw_values.specs.ObjectStore.{at_run_time}
use Rattle.zw_typed.specs.Exports.{Exported, exports_machine}
use Rattle.zw_typed.specs.Weights.{frame_weight, greatest_weight}
use Rattle.zw_env.specs.Children.{tree_at, kind_of, place_of, has, declared_name, is_export_word, members}
use Rattle.zw_env.specs.Counting.{none_counted, begun}
use Rattle.zw_sema.specs.Walk.{Bound, State, Out, Found, Stopped, TooSmall, RunPart, node_of, is_met, unit_task, walk}

-- an exported function, and where its declaration begins
pub record Instance : Type 0 where
  pub place : Place
  pub function : Exported

-- The exports of a file, or the first stop and where it stands, each with the state at the end; or the bound was too small.
pub data Analysis : Type 0 where
  Accepted : List Instance → State → Analysis
  Refused : StopKind → Place → State → Analysis
  NeedsMore : Analysis

abbrev pub start : State
start = record { counters = none_counted; bound = []; result = None; declarations = [] }

-- an export is a unit
abbrev pub export_begun : State → State
export_begun state = record state { counters = begun state.counters; bound = []; result = None }

abbrev pub bound_types : List Bound → List TypeTree
bound_types [] = []
bound_types (b ∷ bs) = b.part.ty ∷ bound_types bs

abbrev pub result_type : Option TypeTree → TypeTree
result_type None = tree.VoidType
result_type (Some ty) = ty

abbrev pub exported : Place → List ℕ → RunPart → State → Instance
exported place name part state = record {
  place = place;
  function = record { name = name; params = bound_types state.bound; result = result_type state.result; body = node_of part };
}

abbrev pub on_export : Place → List ℕ → List Instance → Out → (State → List Instance → Analysis) → Analysis
on_export place name before (Found part state) more = more state (before ++ exported place name part state ∷ [])
on_export place name before (Stopped why at state) more = Refused why at state
on_export place name before TooSmall more = NeedsMore

-- what becomes of a member: exports are units, `comptime` blocks aren't built yet, and all else waits until it is mentioned
pub data Turn : Type 0 where
  IsUnit IsUnbuilt Waits : Turn

abbrev pub turn_of : Forest Entry → Turn
turn_of here =
    elim (kind_of here) [
      | kind.ComptimeBlock ↦ IsUnbuilt
      | kind.Function ↦ elim (has here is_export_word) [ true ↦ IsUnit | false ↦ Waits ]
      | _ ↦ Waits
    ]

abbrev pub take_turn : Forest Entry → ℕ → Turn → ℕ → State → List Instance → (State → List Instance → Analysis) → Analysis
take_turn forest bound IsUnit n state before more =
    on_export (place_of (tree_at forest n)) (declared_name (tree_at forest n)) before (walk forest bound (unit_task forest n at_run_time) [] (export_begun state)) more
take_turn forest bound IsUnbuilt n state before more = Refused (Error 36) (place_of (tree_at forest n)) state
take_turn forest bound Waits n state before more = more state before

-- the members in order
abbrev pub members_analysed : Forest Entry → ℕ → List ℕ → State → List Instance → Analysis
members_analysed forest bound [] state before = Accepted before state
members_analysed forest bound (n ∷ ns) state before =
    take_turn forest bound (turn_of (tree_at forest n)) n state before (members_analysed forest bound ns)

-- ---- frames, when all units are analysed

abbrev pub first_too_heavy : List Instance → Option Place
first_too_heavy [] = None
first_too_heavy (i ∷ instances) = if nat_le (frame_weight i.function) greatest_weight then first_too_heavy instances else Some i.place

abbrev pub if_light : List Instance → State → Option Place → Analysis
if_light instances state None = Accepted instances state
if_light instances state (Some place) = Refused (Limit 11) place state

abbrev pub weighed : Analysis → Analysis
weighed (Accepted instances state) = if_light instances state (first_too_heavy instances)
weighed (Refused why place state) = Refused why place state
weighed NeedsMore = NeedsMore

-- the analysis of the file that is this tree
abbrev pub analysed : ℕ → Forest Entry → Analysis
analysed bound forest = weighed (members_analysed forest bound (members forest) start [])

-- ---- what it says

abbrev pub functions_of : List Instance → List Exported
functions_of [] = []
functions_of (i ∷ instances) = i.function ∷ functions_of instances

abbrev pub instances_in : Analysis → List Instance
instances_in (Accepted instances state) = instances
instances_in _ = []

abbrev pub exports_in : Analysis → List Exported
exports_in analysis = functions_of (instances_in analysis)

-- a session of the file, where it is accepted
abbrev pub file_session : ℕ → Forest Entry → List Call → List ℕ → Session
file_session bound forest calls replies = session (exports_machine (exports_in (analysed bound forest))) calls tt replies 0

-- Whether the analysis needed the declaration: a name was found to be its, whatever came of that.
abbrev pub is_reached : ℕ → Analysis → Bool
is_reached n (Accepted instances state) = is_met n state
is_reached n (Refused why at state) = is_met n state
is_reached n NeedsMore = false
