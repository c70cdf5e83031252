-- The walk with statements, variables and calls: what the rules of forms ask for is done, on a tree of the text, at compile time and for run time (this project's
-- own). It gives each node a part, or the first stop. `Next` of `zw_env` says what a rule can ask for; the answer joins the form's parts, and its rule is asked again.
use Rattle.std.specs.Prelude.{ℕ, zero, suc, ◌+◌, Bool, true, false, ◌&&◌, ◌||◌, nat_eq, List, [], ◌∷◌, ◌++◌, length, Option, Some, None, Result, Ok, Err}
use Rattle.std.specs.Str.{bytes_eq}
use Rattle.zw_base.specs.declared.stop.StopKind.{StopKind}
use Rattle.zw_base.specs.declared.stop.StopKind.TheVariants.{Error, Limit}
use Rattle.zw_base.specs.declared.stop.Place.{Place}
use Rattle.zw_num.specs.declared.operator.Operator.{Operator}
use Rattle.zw_tree.specs.Trees.{Forest}
use Rattle.zw_tree.specs.Numbering.{first_root}
use Rattle.zw_tree.specs.declared.ast.Entry.{Entry}
use Rattle.zw_scope_sites.specs.declared.lists.Binding.{Binding}
use Rattle.zw_types.specs.TypeTrees as tree
use Rattle.zw_types.specs.TypeTrees.{TypeTree, ValueTree}
use Rattle.zw_values.specs.ObjectStore.{Stage, at_compile_time, at_run_time}
use Rattle.zw_values.specs.Sameness.{is_same}
use Rattle.zw_values.specs.Coercions.{coercion}
use Rattle.zw_values.specs.Applied as operation
use Rattle.zw_values.specs.Applied.{Outcome, applied}
use Rattle.zw_typed.specs.FlowNodes as run
use Rattle.zw_typed.specs.FlowNodes.{FlowNode, nodes_from}
use Rattle.zw_env.specs.FlowParts.{Stands, Known, Runs, Goes, IsPlace, Operand, Destination, OutOf, NextIn, OutOfFunction, Open, Wanted, Nothing, OfType, AsBrought, Visit, Action, Next, Ask, Operate, Become, Emit, Lookup, Bind, Parameter, Variable, Returns, OpenTarget, Leave, Raise, Done, Halt, HaltAt, Deciding, Choosing, Sequence, Looping, Counting, Reading, Writing, Updating, Declaring, Discarding, Calling, Stopping, Occurrence, Rule, a_value, a_node, a_place, nothing, number_part, known_of, is_known, is_lost, never_ends, types_of}
use Rattle.zw_env.specs.Children.{tree_at, place_of, has, declared_name, is_extern_word}
use Rattle.zw_env.specs.Counting.{Counters, raised, visited, walked}
use Rattle.zw_forms_scalar.specs.FlowScalarRules.{scalar_rule}
use Rattle.zw_forms_decl.specs.FlowDeclarationRules.{declaration_rule}
use Rattle.zw_forms_flow.specs.FlowRules.{flow_rule}
use Rattle.zw_sema.specs.FlowPlaces.{Spot, found_in, member_spot, binding_of}
use Rattle.zw_sema.specs.FlowStates.{RunPart, Own, Progress, UnderWay, Analysed, State, Out, Found, Left, Stopped, TooSmall, named_by, progress_of, place_among, with_own, bound, with_arrived, unit_begun, unit_ended, unevaluated}
use Rattle.zw_sema.specs.FlowBuilding.{node_of, nodes_of, counting, helping, block_node, while_node, for_node, or_nothing, ended_part, only_goes}

-- What is walked: where the node stands, what is open around it, the type that is wanted of it, its stage, whether its place is wanted, whether it is evaluated, and
-- whether it stands under a condition that isn't known.
pub record Task : Type 0 where
  pub spot : Spot
  pub opens : List Open
  pub wanted : Option TypeTree
  pub stage : Stage
  pub as_place : Bool
  pub evaluated : Bool
  pub conditional : Bool

abbrev pub place_in : Task → Place
place_in task = let spot : Spot = task.spot in place_of spot.here

-- ---- parts become of a type, and of an operation

-- A value stays as it is; what isn't known becomes of the type at run time, unless it is of it already.
abbrev pub become_in : Stands FlowNode → RunPart → TypeTree → RunPart
become_in (Known value) part ty = a_value ty value
become_in (Goes target n) part ty = part
become_in _ part ty = elim (is_same part.ty ty) [ true ↦ part | false ↦ a_node ty (helping ty (run.Become (node_of part))) ]

abbrev pub become : RunPart → TypeTree → RunPart
become part ty = become_in part.stands part ty

-- the part as one of the type, or the error that is due
abbrev pub coerced : RunPart → TypeTree → Result RunPart ℕ
coerced part ty = elim (coercion part.ty (known_of part) ty) [ Ok row ↦ Ok (become part ty) | Err error ↦ Err error ]

-- an operand in its type
abbrev pub used_as : RunPart → TypeTree → Result RunPart ℕ
used_as part ty = elim (is_lost part) [ true ↦ Err 16 | false ↦ coerced part ty ]

-- one whose type is only maybe wanted
abbrev pub used : RunPart → Option TypeTree → Result RunPart ℕ
used part None = elim (is_lost part) [ true ↦ Err 16 | false ↦ Ok part ]
used part (Some ty) = used_as part ty

abbrev pub part_and : Result RunPart ℕ → Result (List RunPart) ℕ → Result (List RunPart) ℕ
part_and (Err error) more = Err error
part_and (Ok part) (Err error) = Err error
part_and (Ok part) (Ok parts) = Ok (part ∷ parts)

-- the operands in their types, or the error of the first that can't
abbrev pub operand_parts : List (Operand FlowNode) → Result (List RunPart) ℕ
operand_parts [] = Ok []
operand_parts (o ∷ operands) = part_and (used_as o.part o.as_type) (operand_parts operands)

abbrev pub value_and : Option ValueTree → Option (List ValueTree) → Option (List ValueTree)
value_and (Some v) (Some vs) = Some (v ∷ vs)
value_and _ _ = None

-- the values, where all are known
abbrev pub values_known : List RunPart → Option (List ValueTree)
values_known [] = Some []
values_known (part ∷ parts) = value_and (known_of part) (values_known parts)

-- an operation at compile time: what would panic is error 21, what is wild error 22, and a limit is passed
abbrev pub computed : TypeTree → Outcome → Result RunPart StopKind
computed ty (operation.Gives value) = Ok (a_value ty value)
computed ty (operation.Panics cause) = Err (Error 21)
computed ty operation.IsWild = Err (Error 22)
computed ty (operation.Passes limit) = Err (Limit limit)

abbrev pub operated_on : Operator → TypeTree → List RunPart → Option (List ValueTree) → Result RunPart StopKind
operated_on name ty parts (Some values) = computed ty (applied name (types_of parts) ty values)
operated_on name ty parts None = Ok (a_node ty (counting ty (run.Operate name (nodes_from (nodes_of parts)))))

abbrev pub operated : Operator → TypeTree → List RunPart → Result RunPart StopKind
operated name ty parts = operated_on name ty parts (values_known parts)

-- ---- nodes

-- the function that a value is: its declaration
abbrev pub declaration_of : ValueTree → Option ℕ
declaration_of (tree.FuncValue file n captures) = Some n
declaration_of _ = None

-- a function of the program joins the list where it isn't there
abbrev pub Numbered : Type 0
Numbered = ℕ × List ℕ

abbrev pub numbered_in : List ℕ → ℕ → Option ℕ → Numbered
numbered_in functions n (Some k) = (k, functions)
numbered_in functions n None = (length functions, functions ++ n ∷ [])

abbrev pub numbered : List ℕ → ℕ → Numbered
numbered functions n = numbered_in functions n (place_among functions n 0)

abbrev pub with_functions : State → List ℕ → State
with_functions state functions = record state { functions = functions }

abbrev pub call_node : ℕ → TypeTree → List RunPart → FlowNode
call_node k ty args = counting ty (run.Call k (nodes_from (nodes_of args)))

abbrev pub host_node : List ℕ → TypeTree → List RunPart → FlowNode
host_node name ty args =
    counting ty (run.CallHost (record { name = name; params = types_of args; result = ty }) (nodes_from (nodes_of args)))

-- the part of an emitted node, and the state behind it
abbrev pub Emitted : Type 0
Emitted = RunPart × State

abbrev pub emitted : TypeTree → FlowNode → State → Emitted
emitted ty n state = (a_node ty n, state)

abbrev pub called_in : TypeTree → List RunPart → State → Numbered → Emitted
called_in ty args state found = (a_node ty (call_node found.0 ty args), with_functions state found.1)

abbrev pub called : Forest Entry → TypeTree → List RunPart → State → Option ℕ → Option Emitted
called file ty args state None = None
called file ty args state (Some n) =
    elim (has (tree_at file n) is_extern_word) [
      | true ↦ Some (emitted ty (host_node (declared_name (tree_at file n)) ty args) state)
      | false ↦ Some (called_in ty args state (numbered state.functions n))
    ]

-- statements that do nothing but leave
abbrev pub sequence_stands : FlowNode → List RunPart → Stands FlowNode
sequence_stands n [] = Runs n
sequence_stands n (p ∷ []) = only_goes true n p.stands
sequence_stands n (p ∷ q ∷ more) = elim (is_known p) [ true ↦ sequence_stands n (q ∷ more) | false ↦ Runs n ]

abbrev pub sequence_part : Option ℕ → TypeTree → List RunPart → RunPart
sequence_part target ty given = record { ty = ty; stands = sequence_stands (block_node target ty given) given; left_to = None }

-- what a form emits at run time; a call needs a declaration
abbrev pub emitted_for : Forest Entry → TypeTree → State → Action FlowNode → Option Emitted
emitted_for file ty state (Deciding op a b) = Some (emitted ty (counting ty (run.Decide op (node_of a) (node_of b))) state)
emitted_for file ty state (Choosing c a b) = Some (emitted ty (counting ty (run.Choose (node_of c) (node_of a) (or_nothing b))) state)
emitted_for file ty state (Sequence target given) = Some (sequence_part target ty given, state)
emitted_for file ty state (Looping out again stepped c body step other) = Some (emitted ty (while_node out again stepped c body step other ty) state)
emitted_for file ty state (Counting out again ranges bounds body other) = Some (emitted ty (for_node out again ranges bounds body other ty) state)
emitted_for file ty state (Reading place) = Some (emitted ty (counting ty (run.Read place)) state)
emitted_for file ty state (Writing place v) = Some (emitted ty (counting ty (run.Write place (node_of v))) state)
emitted_for file ty state (Updating place v) = Some (emitted ty (helping ty (run.Write place (node_of v))) state)
emitted_for file ty state (Declaring writable k v) = Some (emitted ty (counting ty (run.Declare k writable (node_of v))) state)
emitted_for file ty state (Discarding v) = Some (emitted ty (counting ty (run.InOrder (nodes_from (node_of v ∷ [])))) state)
emitted_for file ty state (Calling f args) = called file ty args state (declaration_of f)
emitted_for file ty state (Stopping cause) = Some (emitted ty (counting ty (run.Stop cause)) state)

-- ---- targets

abbrev pub same_label : Option (List ℕ) → List ℕ → Bool
same_label None name = false
same_label (Some label) name = bytes_eq label name

abbrev pub is_loop : Open → Bool
is_loop o = elim o.next [ None ↦ false | Some next ↦ true ]

-- the innermost one with a label, and the innermost loop
abbrev pub open_for : List Open → Option (List ℕ) → Option Open
open_for [] label = None
open_for (o ∷ around) None = elim (is_loop o) [ true ↦ Some o | false ↦ open_for around None ]
open_for (o ∷ around) (Some name) = elim (same_label o.label name) [ true ↦ Some o | false ↦ open_for around (Some name) ]

-- where a form leaves to: the target, what is wanted there, and the stage
pub record Aim : Type 0 where
  pub target : ℕ
  pub wanted : Option TypeTree
  pub stage : Stage

abbrev pub out_of : Option Open → Option Aim
out_of None = None
out_of (Some o) = Some (record { target = o.out; wanted = o.wanted; stage = o.stage })

abbrev pub next_of : Stage → Option ℕ → Option Aim
next_of stage None = None
next_of stage (Some next) = Some (record { target = next; wanted = None; stage = stage })

abbrev pub next_in : Option Open → Option Aim
next_in None = None
next_in (Some o) = next_of o.stage o.next

abbrev pub aim_of : List Open → Destination → Option Aim
aim_of opens (OutOf label) = out_of (open_for opens label)
aim_of opens (NextIn label) = next_in (open_for opens label)
aim_of opens OutOfFunction = None

-- the type that is wanted of what is brought there
abbrev pub wanted_there : Option Aim → Option TypeTree
wanted_there None = None
wanted_there (Some aim) = aim.wanted

abbrev pub wanted_by : List Open → Own → Wanted → Option TypeTree
wanted_by opens own Nothing = None
wanted_by opens own (OfType ty) = Some ty
wanted_by opens own (AsBrought OutOfFunction) = own.result
wanted_by opens own (AsBrought to) = wanted_there (aim_of opens to)

-- whether a target is one of those that a visit opened
abbrev pub is_next : Option ℕ → ℕ → Bool
is_next None target = false
is_next (Some next) target = nat_eq next target

abbrev pub is_opened : List Open → ℕ → Bool
is_opened [] target = false
is_opened (o ∷ opens) target = elim (nat_eq o.out target || is_next o.next target) [ true ↦ true | false ↦ is_opened opens target ]

abbrev pub went_to : List Open → Option ℕ → Bool
went_to opens None = false
went_to opens (Some target) = is_opened opens target

-- what left to these, and what left to others
abbrev pub that_arrived : List Open → List RunPart → List RunPart
that_arrived opens [] = []
that_arrived opens (p ∷ ps) = elim (went_to opens p.left_to) [ true ↦ p ∷ that_arrived opens ps | false ↦ that_arrived opens ps ]

abbrev pub that_passed : List Open → List RunPart → List RunPart
that_passed opens [] = []
that_passed opens (p ∷ ps) = elim (went_to opens p.left_to) [ true ↦ that_passed opens ps | false ↦ p ∷ that_passed opens ps ]

-- ---- the walk at other nodes, or with more parts

abbrev pub Go : Type 0
Go = Task → List RunPart → State → Out

abbrev pub stopped : Task → State → StopKind → Out
stopped task state why = Stopped why (place_in task) state

abbrev pub on_result : Task → State → Result RunPart StopKind → (RunPart → Out) → Out
on_result task state (Ok part) f = f part
on_result task state (Err why) f = stopped task state why

abbrev pub on_parts : {A : Type 0} → Task → State → Result A ℕ → (A → Out) → Out
on_parts task state (Ok parts) f = f parts
on_parts task state (Err error) f = stopped task state (Error error)

-- one part more, and the form is asked again
abbrev pub with_part : Go → Task → List RunPart → RunPart → State → Out
with_part go task parts part state = go task (parts ++ part ∷ []) state

-- ---- a form's part becomes of the type that is wanted of it

-- What never comes to its end stays so; and what can't be used will be found by the form that wants it.
abbrev pub wanted_part : RunPart → TypeTree → Result RunPart ℕ
wanted_part part ty = elim (never_ends part || is_lost part) [ true ↦ Ok part | false ↦ coerced part ty ]

abbrev pub finished : Option TypeTree → Task → State → RunPart → Out
finished None task state part = Found part state
finished (Some ty) task state part = on_parts task state (wanted_part part ty) (λ p. Found p state)

-- ---- children

abbrev pub child_task : Task → Visit → Own → Spot → Task
child_task task visit own spot = record {
  spot = spot;
  opens = visit.opens ++ task.opens;
  wanted = wanted_by task.opens own visit.wanted;
  stage = visit.stage;
  as_place = visit.as_place;
  evaluated = task.evaluated && visit.evaluated;
  conditional = task.conditional || visit.conditional;
}

-- a form that needs the end of a child which never comes to it ends there
abbrev pub if_ends : Bool → Go → Task → List RunPart → RunPart → State → Out
if_ends true go task parts part state = Found (ended_part parts part) state
if_ends false go task parts part state = with_part go task parts part state

-- what came to the form by leaving joins its parts before the child's own part
abbrev pub with_child : Go → Task → List RunPart → Visit → RunPart → State → Out
with_child go task parts visit part state =
    let own : Own = state.own in
    if_ends (visit.ends && never_ends part) go task (parts ++ that_arrived visit.opens own.arrived) part
    (with_own state (record own { arrived = that_passed visit.opens own.arrived }))

-- what isn't evaluated leaves nothing behind
abbrev pub behind_child : Bool → State → State → State
behind_child true before behind = behind
behind_child false before behind = unevaluated before behind

-- at compile time what leaves comes to the form that opened its target, and goes past others
abbrev pub left_past : Bool → Go → Task → List RunPart → ℕ → RunPart → State → Out
left_past true go task parts target part state = with_part go task parts (record part { left_to = Some target }) state
left_past false go task parts target part state = Left target part state

abbrev pub on_child : Go → Task → List RunPart → Visit → State → Out → Out
on_child go task parts visit before (Found part state) = with_child go task parts visit part (behind_child visit.evaluated before state)
on_child go task parts visit before (Left target part state) = left_past (is_opened visit.opens target) go task parts target part state
on_child go task parts visit before (Stopped why place state) = Stopped why place state
on_child go task parts visit before TooSmall = TooSmall

-- a child is there, since its form's rule found it
abbrev pub visiting : Go → Task → List RunPart → State → Visit → Option Spot → Out
visiting go task parts state visit None = stopped task state (Error 36)
visiting go task parts state visit (Some spot) = on_child go task parts visit state (go (child_task task visit state.own spot) [] state)

-- ---- names

-- a name of this unit: its value where that is known, and else its place, which is read unless it is wanted itself
abbrev pub mentioned_in : Stage → Bool → RunPart → Stands FlowNode → Result RunPart StopKind
mentioned_in stage as_place part (Known value) = Ok part
mentioned_in at_compile_time as_place part _ = Err (Error 23)
mentioned_in at_run_time false part (IsPlace writable place) = Ok (a_node part.ty (counting part.ty (run.Read place)))
mentioned_in at_run_time as_place part _ = Ok part

abbrev pub mentioned : Task → Option RunPart → Result RunPart StopKind
mentioned task None = Err (Error 9)
mentioned task (Some part) = mentioned_in task.stage task.as_place part part.stands

-- the task of a unit
abbrev pub unit_task : Spot → Stage → Task
unit_task spot stage =
    record { spot = spot; opens = []; wanted = None; stage = stage; as_place = false; evaluated = true; conditional = false }

-- what goes on with a declaration's unit: what its node stands for then
abbrev pub unit_part : Go → Task → List RunPart → ℕ → State → State → Option RunPart → Out
unit_part go task parts n before behind None = stopped task behind (Error 36)
unit_part go task parts n before behind (Some part) = with_part go task parts part (unit_ended n part before behind)

abbrev pub on_unit : Go → Task → List RunPart → ℕ → State → Out → Out
on_unit go task parts n before (Found part state) = let own : Own = state.own in unit_part go task parts n before state (named_by own.names n)
on_unit go task parts n before (Left target part state) = stopped task state (Error 36)
on_unit go task parts n before (Stopped why place state) = Stopped why place state
on_unit go task parts n before TooSmall = TooSmall

-- a declaration is analysed when it is first mentioned, and can't need itself
abbrev pub declaration_part : Forest Entry → Go → Task → List RunPart → State → ℕ → Option Progress → Out
declaration_part file go task parts state n None =
    on_unit go task parts n state (go (unit_task (member_spot file n) at_compile_time) [] (unit_begun n state))
declaration_part file go task parts state n (Some UnderWay) = stopped task state (Error 26)
declaration_part file go task parts state n (Some (Analysed part)) = with_part go task parts part state

-- what a name is bound to
abbrev pub name_found : Forest Entry → Go → Task → List RunPart → State → Option Binding → Out
name_found file go task parts state None = stopped task state (Error 9)
name_found file go task parts state (Some binding) =
    elim (binding.is_local) [
      | true ↦ let own : Own = state.own in
          on_result task state (mentioned task (named_by own.names binding.node)) (λ p. with_part go task parts p state)
      | false ↦ declaration_part file go task parts state binding.node (progress_of state.declarations binding.node)
    ]

abbrev pub looked_up : Forest Entry → Go → Task → List RunPart → State → List ℕ → Out
looked_up file go task parts state name = let spot : Spot = task.spot in name_found file go task parts state (binding_of spot.scope name)

-- ---- what is bound

abbrev pub node_at : Task → ℕ
node_at task = let spot : Spot = task.spot in spot.node

abbrev pub with_parameter : Go → Task → List RunPart → TypeTree → State → Out
with_parameter go task parts ty state =
    let own : Own = state.own in
    let place : RunPart = a_place ty false (run.Variable (length own.params)) in
    with_part go task parts place (bound (node_at task) place (with_own state (record own { params = own.params ++ ty ∷ [] })))

abbrev pub with_variable : Go → Task → List RunPart → Bool → TypeTree → State → Out
with_variable go task parts writable ty state =
    let own : Own = state.own in
    let place : RunPart = a_place ty writable (run.Variable (length own.params + length own.variables)) in
    with_part go task parts place (bound (node_at task) place (with_own state (record own { variables = own.variables ++ ty ∷ [] })))

abbrev pub with_target : Go → Task → List RunPart → State → Out
with_target go task parts state =
    let own : Own = state.own in
    with_part go task parts (number_part own.next_target) (with_own state (record own { next_target = own.next_target + 1 }))

abbrev pub with_result : TypeTree → State → State
with_result ty state = let own : Own = state.own in with_own state (record own { result = Some ty })

-- what isn't evaluated raises nothing
abbrev pub quota_raised : Bool → ValueTree → State → State
quota_raised true (tree.NumberValue n) state = record state { counters = raised state.counters n }
quota_raised _ value state = state

-- ---- emitting

-- what is left to do at run time can't be done at compile time
abbrev pub on_emitted : Go → Task → List RunPart → State → Option Emitted → Out
on_emitted go task parts state None = stopped task state (Error 36)
on_emitted go task parts state (Some found) = with_part go task parts found.0 found.1

abbrev pub emitting : Stage → Forest Entry → Go → Task → List RunPart → State → Action FlowNode → TypeTree → Out
emitting at_compile_time file go task parts state action ty = stopped task state (Error 23)
emitting at_run_time file go task parts state action ty = on_emitted go task parts state (emitted_for file ty state action)

-- ---- leaving

abbrev pub leave_stands : ℕ → RunPart → FlowNode → Stands FlowNode → Stands FlowNode
leave_stands target part n (Known value) = Goes target n
leave_stands target part n _ = Runs n

abbrev pub leave_part : ℕ → RunPart → RunPart
leave_part target part =
    let n : FlowNode = counting tree.NoReturnType (run.Leave target (node_of part)) in
    record { ty = tree.NoReturnType; stands = leave_stands target part n part.stands; left_to = None }

-- At run time the part comes to the target, and a node leaves. At compile time the walk itself leaves, unless the target is one of run time.
abbrev pub left_in : Stage → Stage → Go → Task → List RunPart → State → ℕ → RunPart → Out
left_in at_run_time there go task parts state target part =
    with_part go task parts (leave_part target part) (with_arrived (record part { left_to = Some target }) state)
left_in at_compile_time at_compile_time go task parts state target part = Left target part state
left_in at_compile_time at_run_time go task parts state target part = stopped task state (Error 23)

abbrev pub left_to : Go → Task → List RunPart → State → RunPart → Option Aim → Out
left_to go task parts state part None = stopped task state (Error 13)
left_to go task parts state part (Some aim) =
    on_parts task state (used part aim.wanted) (λ p. left_in task.stage aim.stage go task parts state aim.target p)

abbrev pub return_part : RunPart → RunPart
return_part part = a_node tree.NoReturnType (counting tree.NoReturnType (run.Return (node_of part)))

abbrev pub returned_in : Stage → Go → Task → List RunPart → State → RunPart → Option TypeTree → Out
returned_in at_compile_time go task parts state part result = stopped task state (Error 23)
returned_in at_run_time go task parts state part result =
    on_parts task state (used part result) (λ p. with_part go task parts (return_part p) state)

abbrev pub leaving : Go → Task → List RunPart → State → RunPart → Destination → Out
leaving go task parts state part OutOfFunction = let own : Own = state.own in returned_in task.stage go task parts state part own.result
leaving go task parts state part to = left_to go task parts state part (aim_of task.opens to)

-- ---- what a rule asks for is done

abbrev pub place_below : Task → List ℕ → Place
place_below task path = let spot : Spot = task.spot in place_of_spot (found_in (Some spot) path) (place_of spot.here)
  where
    place_of_spot : Option Spot → Place → Place
    place_of_spot None other = other
    place_of_spot (Some found) other = place_of found.here

abbrev pub answered : Forest Entry → Go → Task → List RunPart → State → Next FlowNode → Out
answered file go task parts state (Ask visit) = visiting go task parts state visit (found_in (Some task.spot) visit.child)
answered file go task parts state (Operate name ty operands) =
    on_parts task state (operand_parts operands) (λ values.
    on_result task state (operated name ty values) (λ part. with_part go task parts part state))
answered file go task parts state (Become ty part) = on_parts task state (used_as part ty) (λ p. with_part go task parts p state)
answered file go task parts state (Emit action ty) = emitting task.stage file go task parts state action ty
answered file go task parts state (Lookup name) = looked_up file go task parts state name
answered file go task parts state (Bind part) = with_part go task parts nothing (bound (node_at task) part state)
answered file go task parts state (Parameter ty) = with_parameter go task parts ty state
answered file go task parts state (Variable writable ty) = with_variable go task parts writable ty state
answered file go task parts state (Returns ty) = with_part go task parts nothing (with_result ty state)
answered file go task parts state OpenTarget = with_target go task parts state
answered file go task parts state (Leave to part) = leaving go task parts state part to
answered file go task parts state (Raise value) = with_part go task parts nothing (quota_raised task.evaluated value state)
answered file go task parts state (Done part) = finished task.wanted task state part
answered file go task parts state (Halt why) = stopped task state why
answered file go task parts state (HaltAt path why) = Stopped why (place_below task path) state

-- ---- what the form at a node asks for: the rule of its kind

abbrev pub occurrence : Task → Occurrence
occurrence task =
    let spot : Spot = task.spot in
    record { here = spot.here; node = spot.node; wanted = task.wanted; stage = task.stage; as_place = task.as_place }

abbrev pub or_scalar : Option (Rule FlowNode) → Entry → Occurrence → List RunPart → Next FlowNode
or_scalar (Some rule) entry site parts = rule site parts
or_scalar None entry site parts = scalar_rule entry.node.kind entry site parts

abbrev pub or_flow : Option (Rule FlowNode) → Entry → Occurrence → List RunPart → Next FlowNode
or_flow (Some rule) entry site parts = rule site parts
or_flow None entry site parts = or_scalar (flow_rule entry.node.kind) entry site parts

abbrev pub asked_of : Option Entry → Occurrence → List RunPart → Next FlowNode
asked_of None site parts = Halt (Error 36)
asked_of (Some entry) site parts = or_flow (declaration_rule entry.node.kind) entry site parts

abbrev pub asked : Task → List RunPart → Next FlowNode
asked task parts = let site : Occurrence = occurrence task in asked_of (first_root site.here) site parts

-- ---- the walk

-- a node is counted when it is come to, before it has parts
abbrev pub counted_in : Stage → Counters → Result Counters StopKind
counted_in at_compile_time counters = visited counters
counted_in at_run_time counters = walked counters

abbrev pub counted : Task → List RunPart → State → Result Counters StopKind
counted task [] state = counted_in task.stage state.counters
counted task (part ∷ parts) state = Ok state.counters

abbrev pub stepped : Forest Entry → Go → Task → List RunPart → State → Result Counters StopKind → Out
stepped file go task parts state (Err why) = stopped task state why
stepped file go task parts state (Ok counters) = answered file go task parts (record state { counters = counters }) (asked task parts)

-- The part of a node with these parts so far. The bound is on how deep the walk goes: each step lowers it.
abbrev pub walk : Forest Entry → ℕ → Go
walk file zero task parts state = TooSmall
walk file (suc bound) task parts state = stepped file (walk file bound) task parts state (counted task parts state)
