-- The walk: what the rules of forms ask for is done, on a tree of the text, at compile time and for run time (this project's own). It gives
-- each node a part, or the first stop. `Next` says what a rule can ask for; the answer joins the form's parts, and its rule is asked again.
use Rattle.std.specs.Prelude.{ℕ, zero, suc, Bool, true, false, ◌&&◌, nat_eq, if◌then◌else◌, List, [], ◌∷◌, ◌++◌, length, Option, Some, None, Result, Ok, Err}
use Rattle.std.specs.Str.{bytes_eq}
use Rattle.zw_base.specs.declared.stop.StopKind.{StopKind}
use Rattle.zw_base.specs.declared.stop.StopKind.TheVariants.{Error, Limit}
use Rattle.zw_base.specs.declared.stop.Place.{Place}
use Rattle.zw_tree.specs.Trees.{Forest}
use Rattle.zw_tree.specs.Numbering.{first_root}
use Rattle.zw_tree.specs.declared.ast.Entry.{Entry}
use Rattle.zw_tree.specs.declared.kind.NodeKind.{NodeKind}
use Rattle.zw_tree.specs.declared.kind.NodeKind.TheVariants as kind
use Rattle.zw_num.specs.declared.operator.Operator.{Operator}
use Rattle.zw_types.specs.TypeTrees as tree
use Rattle.zw_types.specs.TypeTrees.{TypeTree, ValueTree}
use Rattle.zw_values.specs.ObjectStore.{Stage, at_compile_time, at_run_time}
use Rattle.zw_values.specs.Sameness.{is_same}
use Rattle.zw_values.specs.Coercions.{coercion}
use Rattle.zw_values.specs.Applied as operation
use Rattle.zw_values.specs.Applied.{Outcome, applied}
use Rattle.zw_typed.specs.Nodes.{Op, Constant, Argument, Operate, Become, InOrder, TypedNode, node, no_nodes, node_and, nodes_from}
use Rattle.zw_env.specs.Parts.{Part, Operand, Next, Visit, VisitKnown, VisitUnevaluated, Operation, Emit, Lookup, Bind, Returns, Raise, Done, Halt, HaltAt, a_value, a_node, is_lost}
use Rattle.zw_env.specs.Parts as next
use Rattle.zw_env.specs.Children.{tree_at, kind_of, place_of, has, declared_name, is_extern_word, child_tree, forms_below, members}
use Rattle.zw_env.specs.Counting.{Counters, begun, resumed, raised, visited, walked}
use Rattle.zw_forms_scalar.specs.ScalarRules.{scalar_rule}
use Rattle.zw_forms_decl.specs.DeclarationRules.{nothing, declaration_rule}

-- a part whose node is one for run time
abbrev pub RunPart : Type 0
RunPart = Part TypedNode

-- ---- state

-- a declaration of a container whose unit is being walked, or was
pub data Progress : Type 0 where
  UnderWay : Progress
  Analysed : RunPart → Progress

-- a name that stands for a part
pub record Bound : Type 0 where
  pub name : List ℕ
  pub part : RunPart

-- What the walk carries: what is counted; the names that are bound in this unit and the type of its function's result; and the
-- declarations that were met, the latest first.
pub record State : Type 0 where
  pub counters : Counters
  pub bound : List Bound
  pub result : Option TypeTree
  pub declarations : List (ℕ × Progress)

-- The node that is walked, with its tree and those behind it below the same parent; the kind of the form that asked for it; the type that is
-- wanted of it; and whether it is evaluated at compile time.
pub record Task : Type 0 where
  pub node : ℕ
  pub here : Forest Entry
  pub outer : Option NodeKind
  pub wanted : Option TypeTree
  pub stage : Stage

-- A part and the state behind it, a stop with its place and the state until then, or the bound on the walk was too small.
pub data Out : Type 0 where
  Found : RunPart → State → Out
  Stopped : StopKind → Place → State → Out
  TooSmall : Out

-- ---- parts become of a type, and of an operation

-- the node of a part: one that is known is a constant
abbrev pub node_of : RunPart → TypedNode
node_of part =
    elim part.known [
      | Some value ↦ node (Constant value) part.ty no_nodes
      | None ↦ elim part.node [ Some n ↦ n | None ↦ node InOrder tree.VoidType no_nodes ]
    ]

-- A value stays as it is; what isn't known becomes of the type at run time, unless it is of it already.
abbrev pub become : RunPart → TypeTree → RunPart
become part ty =
    elim part.known [
      | Some value ↦ a_value ty value
      | None ↦ elim (is_same part.ty ty) [ true ↦ part | false ↦ a_node ty (node Become ty (node_and (node_of part) no_nodes)) ]
    ]

-- the part as one of the type, or the error that is due
abbrev pub coerced : RunPart → TypeTree → Result RunPart ℕ
coerced part ty = elim (coercion part.ty part.known ty) [ Ok row ↦ Ok (become part ty) | Err error ↦ Err error ]

-- an operand in its type
abbrev pub used_as : RunPart → TypeTree → Result RunPart ℕ
used_as part ty = elim (is_lost part) [ true ↦ Err 16 | false ↦ coerced part ty ]

abbrev pub part_and : Result RunPart ℕ → Result (List RunPart) ℕ → Result (List RunPart) ℕ
part_and (Err error) more = Err error
part_and (Ok part) (Err error) = Err error
part_and (Ok part) (Ok parts) = Ok (part ∷ parts)

-- the operands in their types, or the error of the first that can't
abbrev pub operand_parts : List (Operand TypedNode) → Result (List RunPart) ℕ
operand_parts [] = Ok []
operand_parts (o ∷ operands) = part_and (used_as o.part o.as_type) (operand_parts operands)

abbrev pub known_and : Option ValueTree → Option (List ValueTree) → Option (List ValueTree)
known_and (Some v) (Some vs) = Some (v ∷ vs)
known_and _ _ = None

-- the values, where all are known
abbrev pub all_known : List RunPart → Option (List ValueTree)
all_known [] = Some []
all_known (part ∷ parts) = known_and part.known (all_known parts)

abbrev pub types_of : List RunPart → List TypeTree
types_of [] = []
types_of (part ∷ parts) = part.ty ∷ types_of parts

abbrev pub nodes_of : List RunPart → List TypedNode
nodes_of [] = []
nodes_of (part ∷ parts) = node_of part ∷ nodes_of parts

-- an operation at compile time: what would panic is error 21, what is wild error 22, and a limit is passed
abbrev pub computed : TypeTree → Outcome → Result RunPart StopKind
computed ty (operation.Gives value) = Ok (a_value ty value)
computed ty (operation.Panics cause) = Err (Error 21)
computed ty operation.IsWild = Err (Error 22)
computed ty (operation.Passes limit) = Err (Limit limit)

abbrev pub operated : Operator → TypeTree → List RunPart → Result RunPart StopKind
operated name ty parts =
    elim (all_known parts) [
      | Some values ↦ computed ty (applied name (types_of parts) ty values)
      | None ↦ Ok (a_node ty (node (Operate name) ty (nodes_from (nodes_of parts))))
    ]

-- what is left to do at run time can't be done at compile time
abbrev pub emitted : Stage → Op → TypeTree → List RunPart → Result RunPart StopKind
emitted at_compile_time op ty parts = Err (Error 23)
emitted at_run_time op ty parts = Ok (a_node ty (node op ty (nodes_from (nodes_of parts))))

-- ---- names

abbrev pub bound_to : List Bound → List ℕ → Option RunPart
bound_to [] name = None
bound_to (b ∷ bs) name = if bytes_eq b.name name then Some b.part else bound_to bs name

abbrev pub is_declaration : NodeKind → Bool
is_declaration kind.Const = true
is_declaration kind.Var = true
is_declaration kind.Function = true
is_declaration _ = false

abbrev pub named_among : Forest Entry → List ℕ → List ℕ → Option ℕ
named_among forest [] name = None
named_among forest (n ∷ ns) name =
    if is_declaration (kind_of (tree_at forest n)) && bytes_eq (declared_name (tree_at forest n)) name then Some n else named_among forest ns name

-- the file's declaration of a name
abbrev pub declaration_named : Forest Entry → List ℕ → Option ℕ
declaration_named forest name = named_among forest (members forest) name

-- constants and functions of the host are built; other declarations aren't yet
abbrev pub is_built : Forest Entry → Bool
is_built here = elim (kind_of here) [ kind.Const ↦ true | kind.Function ↦ has here is_extern_word | _ ↦ false ]

abbrev pub progress_of : List (ℕ × Progress) → ℕ → Option Progress
progress_of [] n = None
progress_of ((m, progress) ∷ more) n = if nat_eq m n then Some progress else progress_of more n

-- whether a name was found to be that of the declaration
abbrev pub is_met : ℕ → State → Bool
is_met n state = elim (progress_of state.declarations n) [ None ↦ false | Some progress ↦ true ]

-- the unit of a declaration has a quota and names of its own
abbrev pub unit_begun : ℕ → State → State
unit_begun n state = record { counters = begun state.counters; bound = []; result = None; declarations = (n, UnderWay) ∷ state.declarations }

abbrev pub unit_ended : ℕ → RunPart → State → State → State
unit_ended n part before behind = record {
  counters = resumed before.counters behind.counters;
  bound = before.bound;
  result = before.result;
  declarations = (n, Analysed part) ∷ behind.declarations;
}

-- a parameter stands for the next argument
abbrev pub argument_bound : List ℕ → TypeTree → State → State
argument_bound name ty state =
    record state { bound = state.bound ++ record { name = name; part = a_node ty (node (Argument (length state.bound)) ty no_nodes) } ∷ [] }

-- ---- the walk

-- what goes on with a part
abbrev pub on_part : Out → (RunPart → State → Out) → Out
on_part (Found part state) f = f part state
on_part (Stopped why place state) f = Stopped why place state
on_part TooSmall f = TooSmall

abbrev pub on_result : Task → State → Result RunPart StopKind → (RunPart → Out) → Out
on_result task state (Ok part) f = f part
on_result task state (Err why) f = Stopped why (place_of task.here) state

abbrev pub on_operands : Task → State → Result (List RunPart) ℕ → (List RunPart → Out) → Out
on_operands task state (Ok parts) f = f parts
on_operands task state (Err error) f = Stopped (Error error) (place_of task.here) state

-- The walk at other nodes, or with more parts.
abbrev pub Go : Type 0
Go = Task → List RunPart → State → Out

-- one part more, and the form is asked again
abbrev pub with_part : Go → Task → List RunPart → RunPart → State → Out
with_part go task parts part state = go task (parts ++ part ∷ []) state

abbrev pub child_task : Task → ℕ → Option TypeTree → Stage → Task
child_task task child wanted stage =
    record { node = child; here = child_tree task.here task.node child; outer = Some (kind_of task.here); wanted = wanted; stage = stage }

-- a child's part, then the form again
abbrev pub visiting : Go → Task → List RunPart → State → ℕ → Option TypeTree → Stage → Out
visiting go task parts state child wanted stage =
    on_part (go (child_task task child wanted stage) [] state)
    (λ part behind. with_part go task parts part behind)

-- a form's part becomes of the type that is wanted, unless the form that wants it will find that it can't be used
abbrev pub wanted_part : RunPart → TypeTree → Result RunPart ℕ
wanted_part part ty = elim (is_lost part) [ true ↦ Ok part | false ↦ coerced part ty ]

abbrev pub on_wanted : Task → State → Result RunPart ℕ → Out
on_wanted task state (Ok part) = Found part state
on_wanted task state (Err error) = Stopped (Error error) (place_of task.here) state

abbrev pub finished : Option TypeTree → Task → State → RunPart → Out
finished None task state part = Found part state
finished (Some ty) task state part = on_wanted task state (wanted_part part ty)

-- a name that is bound: what isn't known can't be used at compile time
abbrev pub mentioned : Stage → RunPart → Result RunPart StopKind
mentioned at_run_time part = Ok part
mentioned at_compile_time part = elim part.known [ Some value ↦ Ok part | None ↦ Err (Error 23) ]

-- the task of a unit
abbrev pub unit_task : Forest Entry → ℕ → Stage → Task
unit_task forest n stage = record { node = n; here = tree_at forest n; outer = None; wanted = None; stage = stage }

-- a declaration is analysed when it is first mentioned, and can't need itself
abbrev pub declaration_part : Forest Entry → Go → Task → List RunPart → State → ℕ → Option Progress → Out
declaration_part forest go task parts state n None =
    on_part (go (unit_task forest n at_compile_time) [] (unit_begun n state))
    (λ part behind. with_part go task parts part (unit_ended n part state behind))
declaration_part forest go task parts state n (Some UnderWay) = Stopped (Error 26) (place_of task.here) state
declaration_part forest go task parts state n (Some (Analysed part)) = with_part go task parts part state

abbrev pub if_built : Forest Entry → Go → Task → List RunPart → State → ℕ → Bool → Out
if_built forest go task parts state n true = declaration_part forest go task parts state n (progress_of state.declarations n)
if_built forest go task parts state n false = Stopped (Error 36) (place_of task.here) (unit_begun n state)

-- what a name is bound to, and which declaration has it
abbrev pub name_found : Forest Entry → Go → Task → List RunPart → State → Option RunPart → Option ℕ → Out
name_found forest go task parts state (Some part) declared =
    on_result task state (mentioned task.stage part) (λ p. with_part go task parts p state)
name_found forest go task parts state None None = Stopped (Error 9) (place_of task.here) state
name_found forest go task parts state None (Some n) = if_built forest go task parts state n (is_built (tree_at forest n))

abbrev pub result_part : Option TypeTree → RunPart
result_part None = a_value tree.TypeType (tree.TypeValue tree.VoidType)
result_part (Some ty) = a_value tree.TypeType (tree.TypeValue ty)

abbrev pub quota_raised : ValueTree → State → State
quota_raised (tree.NumberValue n) state = record state { counters = raised state.counters n }
quota_raised _ state = state

-- what a rule asks for is done
abbrev pub answered : Forest Entry → Go → Task → List RunPart → State → Next TypedNode → Out
answered forest go task parts state (Visit child wanted) = visiting go task parts state child wanted task.stage
answered forest go task parts state (VisitKnown child wanted) = visiting go task parts state child wanted at_compile_time
answered forest go task parts state (VisitUnevaluated child wanted) = visiting go task parts state child wanted at_run_time
answered forest go task parts state (Operation name ty operands) =
    on_operands task state (operand_parts operands) (λ values.
    on_result task state (operated name ty values) (λ part. with_part go task parts part state))
answered forest go task parts state (Emit op ty operands) =
    on_operands task state (operand_parts operands) (λ values.
    on_result task state (emitted task.stage op ty values) (λ part. with_part go task parts part state))
answered forest go task parts state (Lookup name) =
    name_found forest go task parts state (bound_to state.bound name) (declaration_named forest name)
answered forest go task parts state (Bind name ty) = with_part go task parts nothing (argument_bound name ty state)
answered forest go task parts state (Returns ty) = with_part go task parts nothing (record state { result = Some ty })
answered forest go task parts state next.Result = with_part go task parts (result_part state.result) state
answered forest go task parts state (Raise value) = with_part go task parts nothing (quota_raised value state)
answered forest go task parts state (Done part) = finished task.wanted task state part
answered forest go task parts state (Halt why) = Stopped why (place_of task.here) state
answered forest go task parts state (HaltAt n why) = Stopped why (place_of (child_tree task.here task.node n)) state

-- what the form at a node asks for: the rule of its kind
abbrev pub asked_of : Forest Entry → Task → List RunPart → Option Entry → Next TypedNode
asked_of forest task parts None = Halt (Error 36)
asked_of forest task parts (Some entry) =
    elim (declaration_rule forest task.here task.outer entry.node.kind task.node parts) [
      | Some next ↦ next
      | None ↦ scalar_rule entry.node.kind entry (forms_below task.here task.node) task.wanted parts
    ]

abbrev pub asked : Forest Entry → Task → List RunPart → Next TypedNode
asked forest task parts = asked_of forest task parts (first_root task.here)

-- a node is counted when it is come to, before it has parts
abbrev pub counted_in : Stage → Counters → Result Counters StopKind
counted_in at_compile_time counters = visited counters
counted_in at_run_time counters = walked counters

abbrev pub counted : Task → List RunPart → State → Result Counters StopKind
counted task [] state = counted_in task.stage state.counters
counted task (part ∷ parts) state = Ok state.counters

abbrev pub stepped : Forest Entry → Go → Task → List RunPart → State → Result Counters StopKind → Out
stepped forest go task parts state (Err why) = Stopped why (place_of task.here) state
stepped forest go task parts state (Ok counters) = answered forest go task parts (record state { counters = counters }) (asked forest task parts)

-- The part of a node with these parts so far. The bound is on how deep the walk goes: each step lowers it.
abbrev pub walk : Forest Entry → ℕ → Go
walk forest zero task parts state = TooSmall
walk forest (suc bound) task parts state = stepped forest (walk forest bound) task parts state (counted task parts state)
