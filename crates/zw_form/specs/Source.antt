-- What a file of the form means: the values of its sums, and a machine whose calls return at once.
use Rattle.std.specs.Prelude.{ℕ, ◌%◌, ◌^◌, pos, Bool, false, ◌&&◌, nat_eq, unsigned_abs, List, [], ◌∷◌, ◌++◌, length, map, Option, Some, None, if◌then◌else◌}
use Rattle.std.specs.List.{list_all}
use Rattle.std.specs.Option.{option_map}
use Rattle.std.specs.Result.{result_ok}
use Rattle.std.specs.Str.{bytes_eq}
use Rattle.zw_num.specs.Meanings.{arithmetic}
use Rattle.zw_num.specs.declared.int_ty.IntTy.TheVariants.{Sized}
use Rattle.zw_num.specs.declared.operator.Arithmetic.{Arithmetic}
use Rattle.zw_session.specs.Causes.{integer_overflow}
use Rattle.zw_session.specs.Incoming.{is_word, modulo}
use Rattle.zw_session.specs.Sessions.{Scalar, Number, Truth, HostEvent, Call, Halt, Panicked, WantsReply, Wild, CallEnd, Returned, Halted, Outcome, Machine}
use Rattle.zw_form.specs.Trees.{Sum, Parameter, Operate, Result, Sums, NoSum, More, CallStatement, Body, Tree, Extern, Export}
use Rattle.zw_form.specs.Trees as terms
use Rattle.zw_form.specs.declared.source.ExternFunction.{ExternFunction}

-- how evaluating ends: with a value and the replies that are left, or it halts
pub data Answer (V : Type 0) : Type 0 where
  Gives : (value : V) (replies : List ℕ) → Answer V
  Stops : (halt : Halt) → Answer V

-- the host calls that evaluating makes, in order, and its end
pub record Evaluated (V : Type 0) : Type 0 where
  pub events : List HostEvent
  pub end : Answer V

abbrev pub gives : {V : Type 0} → V → List ℕ → Evaluated V
gives value replies = record { events = []; end = Gives value replies }

abbrev pub stops : {V : Type 0} → Halt → Evaluated V
stops halt = record { events = []; end = Stops halt }

abbrev pub behind : {V : Type 0} → List HostEvent → Evaluated V → Evaluated V
behind events r = record { events = events ++ r.events; end = r.end }

abbrev pub goes_on : {V W : Type 0} → List HostEvent → Answer V → (V → List ℕ → Evaluated W) → Evaluated W
goes_on events (Gives value replies) go = behind events (go value replies)
goes_on events (Stops halt) go = record { events = events; end = Stops halt }

-- one thing, and then another with its value
abbrev pub and_then : {V W : Type 0} → Evaluated V → (V → List ℕ → Evaluated W) → Evaluated W
and_then r go = goes_on r.events r.end go

-- the value of an operator on `u32`, or none where its exact result isn't in the type
abbrev pub operator_value : Arithmetic → ℕ → ℕ → Option ℕ
operator_value operator x y = option_map unsigned_abs (result_ok (arithmetic operator (Sized false 32) (pos x) (pos y)))

abbrev pub or_overflow : Option ℕ → List ℕ → Evaluated ℕ
or_overflow (Some n) replies = gives n replies
or_overflow None replies = stops (Panicked integer_overflow [])

-- what a call of a function of the host shows
abbrev pub event_of : List ℕ → List ℕ → HostEvent
event_of callee numbers = record { name = callee; args = map (λ n. Number (pos n)) numbers; shown = [] }

-- The host's answer where a result is wanted: the next reply, as a `u32`.
abbrev pub asked : HostEvent → List ℕ → Evaluated ℕ
asked event [] = record { events = event ∷ []; end = Stops WantsReply }
asked event (reply ∷ replies) = record { events = event ∷ []; end = Gives (reply % 2 ^ 32) replies }

-- The value of a sum, with these values of the parameters and these replies: operands from left to right, arguments
-- before their call.
abbrev mutual
  pub sum_value : (List ℕ → ℕ) → Sum → List ℕ → Evaluated ℕ
  sum_value values (Parameter name) replies = gives (values name) replies
  sum_value values (terms.Number n) replies = gives n replies
  sum_value values (Operate operator left right) replies =
      and_then (sum_value values left replies) (λ x more.
      and_then (sum_value values right more) (λ y rest. or_overflow (operator_value operator x y) rest))
  sum_value values (Result callee args) replies =
      and_then (args_value values args replies) (λ numbers left. asked (event_of callee numbers) left)

  pub args_value : (List ℕ → ℕ) → Sums → List ℕ → Evaluated (List ℕ)
  args_value values NoSum replies = gives [] replies
  args_value values (More sum others) replies =
      and_then (sum_value values sum replies) (λ n left.
      and_then (args_value values others left) (λ numbers more. gives (n ∷ numbers) more))

-- a call whose function gives nothing
abbrev pub statement_done : (List ℕ → ℕ) → CallStatement → List ℕ → Evaluated (Unit {0})
statement_done values s replies =
    and_then (args_value values s.args replies) (λ numbers left. record { events = event_of s.callee numbers ∷ []; end = Gives tt left })

abbrev pub statements_done : (List ℕ → ℕ) → List CallStatement → List ℕ → Evaluated (Unit {0})
statements_done values [] replies = gives tt replies
statements_done values (s ∷ statements) replies =
    and_then (statement_done values s replies) (λ done left. statements_done values statements left)

-- what a function returns
abbrev pub body_value : (List ℕ → ℕ) → Body → List ℕ → Evaluated ℕ
body_value values body replies =
    and_then (statements_done values body.statements replies) (λ done left. sum_value values body.sum left)

-- ---- calls from outside

-- whether a host can hand this over where a `u32` is wanted: any number of 32 bits, with a sign or without one
abbrev pub comes_in : Scalar → Bool
comes_in (Number z) = is_word 32 z
comes_in (Truth b) = false

-- the `u32` that comes in so: the number modulo the width of its type
abbrev pub number_of : Scalar → ℕ
number_of (Number z) = modulo 32 z
number_of (Truth b) = 0

-- the value of the parameter with this name
abbrev pub value_of : List (List ℕ) → List Scalar → List ℕ → ℕ
value_of [] args name = 0
value_of (param ∷ params) [] name = 0
value_of (param ∷ params) (arg ∷ args) name = if bytes_eq param name then number_of arg else value_of params args name

-- an exported function: its parameters' names, and what it does
pub record Exported : Type 0 where
  pub params : List (List ℕ)
  pub body : Body

-- the exported function with this name
abbrev pub export_named : List Tree → List ℕ → Option Exported
export_named [] name = None
export_named (Extern f ∷ trees) name = export_named trees name
export_named (Export own params body ∷ trees) name =
    if bytes_eq own name then Some (record { params = params; body = body }) else export_named trees name

-- the extern function with this name
abbrev pub extern_named : List Tree → List ℕ → Option ExternFunction
extern_named [] name = None
extern_named (Extern f ∷ trees) name = if bytes_eq f.name name then Some f else extern_named trees name
extern_named (Export own params body ∷ trees) name = extern_named trees name

abbrev pub args_fit : Option Exported → List Scalar → Bool
args_fit None args = false
args_fit (Some f) args = nat_eq (length args) (length f.params) && list_all comes_in args

-- the call is of an exported function, and has a number for each parameter
abbrev pub source_fits : List Tree → Call → Bool
source_fits trees call = args_fit (export_named trees call.name) call.args

-- what a call does; one that doesn't fit is no call
abbrev pub called : Option Exported → List Scalar → List ℕ → Evaluated ℕ
called None args replies = stops Wild
called (Some f) args replies = body_value (value_of f.params args) f.body replies

abbrev pub call_end : Answer ℕ → ℕ → CallEnd (Unit {0})
call_end (Gives n left) bound = Returned (Some (Number (pos n))) tt left bound
call_end (Stops halt) bound = Halted halt

abbrev pub outcome_of : Evaluated ℕ → ℕ → Outcome (Unit {0})
outcome_of r bound = record { events = r.events; end = call_end r.end bound }

-- A call returns at once: it takes no turn of the bound.
abbrev pub source_machine : List Tree → Machine (Unit {0})
source_machine trees = record {
  fits = source_fits trees;
  call = λ state call replies bound. outcome_of (called (export_named trees call.name) call.args replies) bound;
}
