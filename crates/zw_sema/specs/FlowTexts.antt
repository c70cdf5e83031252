-- A short way to write the trees of small texts with statements, and what is told of them.
use Rattle.std.specs.Prelude.{ℕ, ◌+◌, List, [], ◌∷◌, ◌++◌, length, None, codes}
use Rattle.zw_session.specs.Sessions as session
use Rattle.zw_session.specs.Sessions.{Scalar, Call, Session, SessionEnd, Running}
use Rattle.zw_tree.specs.Trees.{Forest}
use Rattle.zw_tree.specs.declared.ast.Entry.{Entry}
use Rattle.zw_tree.specs.declared.kind.NodeKind.{NodeKind}
use Rattle.zw_tree.specs.declared.kind.NodeKind.TheVariants as kind
use Rattle.zw_typed.specs.FlowCounts.{Counts}
use Rattle.zw_sema.specs.Building.{written, form, file, mention, name, Told, Fine, Stops, WantsMore, enough}
use Rattle.zw_sema.specs.FlowFiles.{Analysis, Accepted, Refused, NeedsMore, analysed, session_within, file_session, file_counts}

-- ---- names

abbrev pub g : List ℕ
g = codes "g"

abbrev pub i : List ℕ
i = codes "i"

abbrev pub y : List ℕ
y = codes "y"

abbrev pub o : List ℕ
o = codes "o"

abbrev pub void : List ℕ
void = codes "void"

abbrev pub usize : List ℕ
usize = codes "usize"

abbrev pub noreturn : List ℕ
noreturn = codes "noreturn"

abbrev pub u16 : List ℕ
u16 = codes "u16"

-- ---- statements

abbrev pub block : ℕ → List (Forest Entry) → Forest Entry
block column statements = form kind.Block column statements

abbrev pub label : ℕ → List ℕ → Forest Entry
label column text = form kind.Label column (name column text ∷ [])

-- `text: { statements }`
abbrev pub labelled : ℕ → List ℕ → List (Forest Entry) → Forest Entry
labelled column text statements = form kind.Block column (label column text ∷ statements)

-- `const text: ty = value` and so on
abbrev pub a_const : ℕ → List ℕ → Forest Entry → Forest Entry
a_const column text value = form kind.Const column (name (column + 6) text ∷ value ∷ [])

abbrev pub const_of : ℕ → List ℕ → List ℕ → Forest Entry → Forest Entry
const_of column text ty value = form kind.Const column (name (column + 6) text ∷ mention (column + 8 + length text) ty ∷ value ∷ [])

abbrev pub var_of : ℕ → List ℕ → List ℕ → Forest Entry → Forest Entry
var_of column text ty value = form kind.Var column (name (column + 4) text ∷ mention (column + 6 + length text) ty ∷ value ∷ [])

abbrev pub assign : ℕ → Forest Entry → Forest Entry → Forest Entry
assign column place value = form kind.Assign column (place ∷ value ∷ [])

abbrev pub update : NodeKind → ℕ → Forest Entry → Forest Entry → Forest Entry
update kind column place value = form kind column (place ∷ value ∷ [])

-- `_ = value`
abbrev pub discard : ℕ → Forest Entry → Forest Entry
discard column value = form kind.Assign column (written kind.Blank column (codes "_") None [] ∷ value ∷ [])

abbrev pub of_else : ℕ → Forest Entry → Forest Entry
of_else column inside = form kind.Else column (inside ∷ [])

abbrev pub when : ℕ → Forest Entry → Forest Entry → Forest Entry
when column condition body = form kind.If column (condition ∷ body ∷ [])

abbrev pub choose : ℕ → Forest Entry → Forest Entry → Forest Entry → Forest Entry
choose column condition body other = form kind.If column (condition ∷ body ∷ of_else column other ∷ [])

-- `while (condition) body`, and with what stands around the condition and behind the body
abbrev pub loop : ℕ → Forest Entry → Forest Entry → Forest Entry
loop column condition body = form kind.While column (condition ∷ body ∷ [])

abbrev pub step : ℕ → Forest Entry → Forest Entry
step column inside = form kind.ContinueExpression column (inside ∷ [])

abbrev pub loop_step : ℕ → Forest Entry → Forest Entry → Forest Entry → Forest Entry
loop_step column condition after body = form kind.While column (condition ∷ step column after ∷ body ∷ [])

abbrev pub capture : ℕ → List ℕ → Forest Entry
capture column text = form kind.Capture column (name column text ∷ [])

abbrev pub no_capture : ℕ → Forest Entry
no_capture column = form kind.Capture column (written kind.Blank column (codes "_") None [] ∷ [])

abbrev pub range : ℕ → Forest Entry → Forest Entry → Forest Entry
range column from to = form kind.ForRange column (from ∷ to ∷ [])

abbrev pub open_range : ℕ → Forest Entry → Forest Entry
open_range column from = form kind.ForRange column (from ∷ [])

abbrev pub for_of : ℕ → List (Forest Entry) → List (Forest Entry) → Forest Entry → Forest Entry
for_of column ranges captures body = form kind.For column ((ranges ++ captures) ++ body ∷ [])

abbrev pub leave : ℕ → Forest Entry
leave column = form kind.Break column []

abbrev pub leave_to : ℕ → List ℕ → Forest Entry → Forest Entry
leave_to column text value = form kind.Break column (label column text ∷ value ∷ [])

abbrev pub leave_with : ℕ → Forest Entry → Forest Entry
leave_with column value = form kind.Break column (value ∷ [])

abbrev pub go_on : ℕ → Forest Entry
go_on column = form kind.Continue column []

abbrev pub go_on_in : ℕ → List ℕ → Forest Entry
go_on_in column text = form kind.Continue column (label column text ∷ [])

abbrev pub call_of : ℕ → List ℕ → List (Forest Entry) → Forest Entry
call_of column text args = form kind.Call column (mention column text ∷ args)

-- `fn text(parameters) ty { statements }`
abbrev pub fn_of : ℕ → List ℕ → List (Forest Entry) → ℕ → List ℕ → List (Forest Entry) → Forest Entry
fn_of column text parameters at ty statements =
    form kind.Function column ((name (column + 3) text ∷ parameters) ++ (mention at ty ∷ form kind.Block (at + length ty + 1) statements ∷ []))

-- ---- what is told

abbrev pub told_of : Analysis → Told
told_of (Accepted units state) = Fine
told_of (Refused why place state) = Stops why place.column
told_of NeedsMore = WantsMore

abbrev pub tells : List (Forest Entry) → Told
tells members = told_of (analysed enough (file members))

-- the session of these calls, within so many turns; where at most so many calls may be active; and what it counts
abbrev pub runs : List (Forest Entry) → List Call → List ℕ → ℕ → Session
runs members calls replies turns = file_session enough (file members) calls replies turns

abbrev pub runs_within : ℕ → List (Forest Entry) → List Call → List ℕ → ℕ → Session
runs_within active members calls replies turns = session_within active enough (file members) calls replies turns

abbrev pub counts : List (Forest Entry) → List Call → List ℕ → ℕ → Counts
counts members calls replies turns = file_counts enough (file members) calls replies turns

abbrev pub still : SessionEnd
still = session.Ended Running
