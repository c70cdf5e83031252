-- What exported functions mean: a machine whose calls evaluate a body. (Without loops and calls of other functions a call takes no turn.)
use Rattle.std.specs.Prelude.{ℕ, Bool, true, false, List, [], ◌∷◌, Option, Some, None, if◌then◌else◌}
use Rattle.std.specs.Str.{bytes_eq}
use Rattle.zw_num.specs.declared.int_ty.IntTy.TheVariants.{Sized}
use Rattle.zw_num.specs.Arithmetic.{is_in}
use Rattle.zw_session.specs.Sessions.{Scalar, Number, Truth, Wild, CallEnd, Returned, Halted, Outcome, Machine}
use Rattle.zw_types.specs.TypeTrees as tree
use Rattle.zw_types.specs.TypeTrees.{TypeTree, ValueTree}
use Rattle.zw_typed.specs.Nodes.{TypedNode}
use Rattle.zw_typed.specs.NodeMeanings.{End, Gives, Leaves, Stops, Evaluated, scalar_of, evaluated}

-- an exported function
pub record Exported : Type 0 where
  pub name : List ℕ
  pub params : List TypeTree
  pub result : TypeTree
  pub body : TypedNode

abbrev pub export_named : List Exported → List ℕ → Option Exported
export_named [] name = None
export_named (f ∷ fs) name = if bytes_eq f.name name then Some f else export_named fs name

-- a value of the type
abbrev pub is_of : TypeTree → Scalar → Bool
is_of (tree.IntType signed bits size) (Number z) = is_in (Sized signed bits) z
is_of tree.BoolType (Truth b) = true
is_of _ _ = false

abbrev pub are_of : List TypeTree → List Scalar → Bool
are_of [] [] = true
are_of (ty ∷ types) (s ∷ scalars) = if is_of ty s then are_of types scalars else false
are_of _ _ = false

abbrev pub args_fit : Option Exported → List Scalar → Bool
args_fit None args = false
args_fit (Some f) args = are_of f.params args

abbrev pub value_of : Scalar → ValueTree
value_of (Number z) = tree.NumberValue z
value_of (Truth b) = tree.TruthValue b

abbrev pub values_of : List Scalar → List ValueTree
values_of [] = []
values_of (s ∷ scalars) = value_of s ∷ values_of scalars

-- what is undefined can't be given to the host
abbrev pub returned : TypeTree → Option Scalar → List ℕ → ℕ → CallEnd (Unit {0})
returned tree.VoidType value replies bound = Returned None tt replies bound
returned ty (Some value) replies bound = Returned (Some value) tt replies bound
returned ty None replies bound = Halted Wild

-- a body that comes to its end has returned nothing
abbrev pub call_end : TypeTree → End ValueTree → ℕ → CallEnd (Unit {0})
call_end ty (Gives value replies) bound = Returned None tt replies bound
call_end ty (Leaves value replies) bound = returned ty (scalar_of value) replies bound
call_end ty (Stops halt) bound = Halted halt

abbrev pub outcome_of : TypeTree → Evaluated ValueTree → ℕ → Outcome (Unit {0})
outcome_of ty r bound = record { events = r.events; end = call_end ty r.end bound }

-- a call that doesn't fit is no call
abbrev pub called : Option Exported → List Scalar → List ℕ → ℕ → Outcome (Unit {0})
called None args replies bound = record { events = []; end = Halted Wild }
called (Some f) args replies bound = outcome_of f.result (evaluated (values_of args) f.body replies) bound

abbrev pub exports_machine : List Exported → Machine (Unit {0})
exports_machine exports = record {
  fits = λ call. args_fit (export_named exports call.name) call.args;
  call = λ state call replies bound. called (export_named exports call.name) call.args replies bound;
}
