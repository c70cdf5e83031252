-- A short way to write the trees of small texts down by hand, and what is told of them.
use Rattle.std.specs.Prelude.{ℕ, ◌+◌, ℤ, pos, neg_ℤ, List, [], ◌∷◌, ◌++◌, length, Option, Some, None}
use Rattle.zw_base.specs.declared.stop.StopKind.{StopKind}
use Rattle.zw_session.specs.Sessions as session
use Rattle.zw_session.specs.Sessions.{Scalar, Number, Call, Session, SessionEnd}
use Rattle.zw_tree.specs.Trees.{Forest, none, tree, beside}
use Rattle.zw_tree.specs.declared.ast.Entry.{Entry}
use Rattle.zw_tree.specs.declared.kind.NodeKind.{NodeKind}
use Rattle.zw_tree.specs.declared.kind.NodeKind.TheVariants as kind
use Rattle.zw_sema.specs.Files.{Analysis, Accepted, Refused, NeedsMore, analysed, file_session}

abbrev pub row : List (Forest Entry) → Forest Entry
row [] = none
row (first ∷ others) = beside first (row others)

-- a node that begins in this column of the one line
abbrev pub written : NodeKind → ℕ → List ℕ → Option ℤ → List (Forest Entry) → Forest Entry
written kind column name number below =
    tree (record { node = record { kind = kind; place = record { file = 0; line = 1; column = column }; first = 0; last = 0 }; name = name; number = number }) (row below) none

abbrev pub form : NodeKind → ℕ → List (Forest Entry) → Forest Entry
form kind column below = written kind column [] None below

abbrev pub file : List (Forest Entry) → Forest Entry
file members = form kind.Root 1 members

abbrev pub mention : ℕ → List ℕ → Forest Entry
mention column text = written kind.Identifier column text None []

abbrev pub name : ℕ → List ℕ → Forest Entry
name column text = written kind.Name column text None []

abbrev pub number : ℕ → ℕ → Forest Entry
number column n = written kind.Number column [] (Some (pos n)) []

abbrev pub builtin : ℕ → List ℕ → List (Forest Entry) → Forest Entry
builtin column text operands = written kind.Builtin column text None operands

abbrev pub parens : ℕ → Forest Entry → Forest Entry
parens column inside = form kind.Parentheses column (inside ∷ [])

-- `text: type`, where a blank stands behind the colon
abbrev pub parameter : ℕ → List ℕ → List ℕ → Forest Entry
parameter column text ty = form kind.Parameter column (name column text ∷ mention (column + length text + 2) ty ∷ [])

-- `export fn text(parameters) type {`: the result's type, and the statements behind the brace
abbrev pub export_of : ℕ → List ℕ → List (Forest Entry) → ℕ → List ℕ → List (Forest Entry) → Forest Entry
export_of column text parameters at ty statements =
    form kind.Function column ((form kind.ExportWord column [] ∷ name (column + 10) text ∷ parameters) ++ (mention at ty ∷ form kind.Block (at + length ty + 1) statements ∷ []))

-- `extern fn text(parameters) type;`
abbrev pub extern_of : ℕ → List ℕ → List (Forest Entry) → ℕ → List ℕ → Forest Entry
extern_of column text parameters at ty =
    form kind.Function column ((form kind.ExternWord column [] ∷ name (column + 10) text ∷ parameters) ++ mention at ty ∷ [])

-- `const text: type = value;` and `const text = value;`
abbrev pub typed_const : ℕ → List ℕ → List ℕ → Forest Entry → Forest Entry
typed_const column text ty value = form kind.Const column (name (column + 6) text ∷ mention (column + 8 + length text) ty ∷ value ∷ [])

abbrev pub plain_const : ℕ → List ℕ → Forest Entry → Forest Entry
plain_const column text value = form kind.Const column (name (column + 6) text ∷ value ∷ [])

abbrev pub return_of : ℕ → Forest Entry → Forest Entry
return_of column value = form kind.Return column (value ∷ [])

-- ---- what is told: the stop and its column

pub data Told : Type 0 where
  Fine : Told
  Stops : StopKind → ℕ → Told
  WantsMore : Told

abbrev pub told_of : Analysis → Told
told_of (Accepted instances state) = Fine
told_of (Refused why place state) = Stops why place.column
told_of NeedsMore = WantsMore

-- a bound that is enough for small texts
abbrev pub enough : ℕ
enough = 1000

abbrev pub told : List (Forest Entry) → Told
told members = told_of (analysed enough (file members))

-- ---- sessions

abbrev pub called : List ℕ → List Scalar → Call
called text args = record { name = text; args = args }

abbrev pub run : List (Forest Entry) → List Call → List ℕ → Session
run members calls replies = file_session enough (file members) calls replies

abbrev pub n : ℕ → Scalar
n k = Number (pos k)

abbrev pub minus : ℕ → Scalar
minus k = Number (neg_ℤ (pos k))

abbrev pub shows : List ℕ → List Scalar → session.Entry
shows text args = session.Host (record { name = text; args = args; shown = [] })

abbrev pub gives : Scalar → session.Entry
gives s = session.Result (Some s)

abbrev pub ends : List session.Entry → SessionEnd → Session
ends entries end = record { entries = entries; end = end }

abbrev pub panics : ℕ → SessionEnd
panics cause = session.Ended (session.Panicked cause [])
