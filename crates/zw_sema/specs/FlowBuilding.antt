-- Which nodes for run time what a form emits is (this project's own): source forms are many, nodes few. An occurrence of the source is one node that counts; the
-- others that it needs are helpers.
use Rattle.std.specs.Prelude.{ℕ, Bool, true, false, List, [], ◌∷◌, ◌++◌, Option, Some, None}
use Rattle.zw_types.specs.TypeTrees as tree
use Rattle.zw_types.specs.TypeTrees.{TypeTree, ValueTree}
use Rattle.zw_typed.specs.NodeMeanings.{nothing}
use Rattle.zw_typed.specs.FlowNodes as run
use Rattle.zw_typed.specs.FlowNodes.{RunPlace, Range, FlowNode, FlowNodes, Form, node, nodes_from, Constant, Read, Write, Declare, Scope, Operate, Become, Decide, Choose, InOrder, Target, Leave, Repeat, Count, Call, CallHost, Return, Stop}
use Rattle.zw_env.specs.FlowParts.{Stands, Known, Runs, Goes, IsPlace, never_ends}
use Rattle.zw_sema.specs.FlowStates.{RunPart}

-- ---- parts as nodes

abbrev pub counting : TypeTree → Form → FlowNode
counting ty form = node true ty form

abbrev pub helping : TypeTree → Form → FlowNode
helping ty form = node false ty form

-- `void`, which nobody wrote
abbrev pub nothing_node : FlowNode
nothing_node = helping tree.VoidType (Constant nothing)

-- what is known is a constant, and a place is read
abbrev pub node_in : TypeTree → Stands FlowNode → FlowNode
node_in ty (Known value) = counting ty (Constant value)
node_in ty (Runs n) = n
node_in ty (Goes target n) = n
node_in ty (IsPlace writable place) = counting ty (Read place)

abbrev pub node_of : RunPart → FlowNode
node_of part = node_in part.ty part.stands

abbrev pub nodes_of : List RunPart → List FlowNode
nodes_of [] = []
nodes_of (part ∷ parts) = node_of part ∷ nodes_of parts

abbrev pub or_nothing : Option RunPart → FlowNode
or_nothing None = nothing_node
or_nothing (Some part) = node_of part

-- what comes to its end, or never does
abbrev pub end_type : Bool → TypeTree
end_type true = tree.NoReturnType
end_type false = tree.VoidType

-- ---- blocks

-- the variables that statements of a block declare
abbrev pub declared_in : Form → List ℕ
declared_in (Declare k writable n) = k ∷ []
declared_in _ = []

abbrev pub declared_by : FlowNode → List ℕ
declared_by (node counts ty form) = declared_in form

abbrev pub all_declared : List FlowNode → List ℕ
all_declared [] = []
all_declared (n ∷ ns) = declared_by n ++ all_declared ns

-- variables of a block are no longer live behind it
abbrev pub scoped : List ℕ → FlowNode → FlowNode
scoped [] n = n
scoped (k ∷ ks) n = helping (run.type_of n) (Scope (k ∷ ks) n)

abbrev pub last_never_ends : List RunPart → Bool
last_never_ends [] = false
last_never_ends (p ∷ []) = never_ends p
last_never_ends (p ∷ q ∷ more) = last_never_ends (q ∷ more)

-- the statements, as the occurrence itself or inside a target that is
abbrev pub statements_node : Bool → List RunPart → FlowNode
statements_node counts given =
    let nodes : List FlowNode = nodes_of given in
    scoped (all_declared nodes) (node counts (end_type (last_never_ends given)) (InOrder (nodes_from nodes)))

abbrev pub block_node : Option ℕ → TypeTree → List RunPart → FlowNode
block_node None ty given = statements_node true given
block_node (Some target) ty given = counting ty (Target target (statements_node false given))

-- ---- loops

abbrev pub left_behind : ℕ → Option RunPart → FlowNode
left_behind out other = helping tree.NoReturnType (Leave out (or_nothing other))

abbrev pub turn_of : ℕ → ℕ → RunPart → Option RunPart → FlowNode
turn_of again stepped body None = helping tree.VoidType (Target again (node_of body))
turn_of again stepped body (Some step) = helping tree.VoidType (InOrder (nodes_from (
    helping tree.VoidType (Target again (node_of body)) ∷ helping tree.VoidType (Target stepped (node_of step)) ∷ [])))

abbrev pub while_node : ℕ → ℕ → ℕ → RunPart → RunPart → Option RunPart → Option RunPart → TypeTree → FlowNode
while_node out again stepped condition body step other ty =
    counting ty (Target out (helping tree.NoReturnType (Repeat (helping tree.VoidType (
    Choose (node_of condition) (turn_of again stepped body step) (left_behind out other))))))

abbrev pub for_node : ℕ → ℕ → List Range → List RunPart → RunPart → Option RunPart → TypeTree → FlowNode
for_node out again ranges bounds body other ty =
    counting ty (Target out (helping tree.NoReturnType (InOrder (nodes_from (
    helping tree.VoidType (Count ranges (nodes_from (nodes_of bounds)) (helping tree.VoidType (Target again (node_of body)))) ∷
    left_behind out other ∷ [])))))

-- ---- a form that ends with a child which never comes to its end: what was evaluated before it, and the child

abbrev pub run_in : Stands FlowNode → List FlowNode
run_in (Runs n) = n ∷ []
run_in _ = []

abbrev pub run_before : List RunPart → List FlowNode
run_before [] = []
run_before (part ∷ parts) = elim part.left_to [ None ↦ run_in part.stands ++ run_before parts | Some target ↦ run_before parts ]

abbrev pub ended_node : List FlowNode → RunPart → FlowNode
ended_node before last = counting tree.NoReturnType (InOrder (nodes_from (before ++ node_of last ∷ [])))

-- Where nothing is left to do before a leaving, the form does nothing else.
abbrev pub only_goes : Bool → FlowNode → Stands FlowNode → Stands FlowNode
only_goes true n (Goes target last) = Goes target n
only_goes _ n stands = Runs n

abbrev pub is_none : {A : Type 0} → List A → Bool
is_none [] = true
is_none (a ∷ more) = false

abbrev pub ended_part : List RunPart → RunPart → RunPart
ended_part before last =
    let nodes : List FlowNode = run_before before in
    record { ty = tree.NoReturnType; stands = only_goes (is_none nodes) (ended_node nodes last) last.stands; left_to = None }
