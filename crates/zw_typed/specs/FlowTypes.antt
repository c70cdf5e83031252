-- Which nodes fit into a function of a program: by what they do, the types of what they need, the targets that are open round them, and the
-- variables that are declared in front of them (Zig Language Reference 0.13.0, Blocks, while, for, if, Functions).
use Rattle.std.specs.Prelude.{◌≡◌, ◌≤◌, ◌⊎◌, ◌+◌, ℕ, suc, IsTrue, Bool, true, false, nat_eq, if◌then◌else◌, List, [], ◌∷◌, ◌++◌, length, map, slice_get, All, Option, Some, None, Ok}
use Rattle.zw_num.specs.declared.operator.Operator.{Operator}
use Rattle.zw_num.specs.declared.operator.Operator.TheVariants as family
use Rattle.zw_num.specs.declared.operator.Shift.TheVariants.{ShlSat}
use Rattle.zw_types.specs.TypeTrees as tree
use Rattle.zw_types.specs.TypeTrees.{TypeTree, ValueTree}
use Rattle.zw_values.specs.Applied as operation
use Rattle.zw_values.specs.Applied.{Outcome}
use Rattle.zw_values.specs.Coercions.{coercion, is_no_return}
use Rattle.zw_typed.specs.HostTypes.{is_shown_type, is_result_type, all_types}
use Rattle.zw_typed.specs.Nodes.{Import}
use Rattle.zw_typed.specs.ValueTypes.{HasWidths, IsValueOf}
use Rattle.zw_typed.specs.NodeTypes.{IsSized, IsStatement, OperandsFit}
use Rattle.zw_typed.specs.FlowNodes.{Variable, Range, FlowNode, FlowNodes, node, no_nodes, node_and, Function, Form, Constant, Read, Write, Declare, Scope, Operate, Become, Decide, Choose, InOrder, Target, Leave, Repeat, Count, Call, CallHost, Return, Stop, type_of, types_of}
use Rattle.zw_typed.specs.FlowMeanings.{usize}

pub record Signature : Type 0 where
  pub params : List TypeTree
  pub result : TypeTree

-- What nodes of a function may name: its variables, of which the first ones are parameters, what it gives, and the program's functions.
pub record Context : Type 0 where
  pub params : ℕ
  pub variables : List TypeTree
  pub result : TypeTree
  pub functions : List Signature

-- a target that is open, and the type of what arrives there
pub record Opened : Type 0 where
  pub target : ℕ
  pub ty : TypeTree

abbrev pub target_type : List Opened → ℕ → Option TypeTree
target_type [] t = None
target_type (o ∷ around) t = if nat_eq o.target t then Some o.ty else target_type around t

-- ---- variables

abbrev pub is_among : List ℕ → ℕ → Bool
is_among [] k = false
is_among (l ∷ ls) k = if nat_eq l k then true else is_among ls k

abbrev mutual
  -- The variables that are declared behind a node that comes to its end, where these were in front of it. What is declared inside another form than
  -- these is named inside it alone.
  pub behind : List ℕ → FlowNode → List ℕ
  behind live (node counts ty form) = behind_form live form

  pub behind_form : List ℕ → Form → List ℕ
  behind_form live (Declare k writable n) = k ∷ live
  behind_form live (InOrder kids) = behind_all live kids
  behind_form live _ = live

  pub behind_all : List ℕ → FlowNodes → List ℕ
  behind_all live no_nodes = live
  behind_all live (node_and n ns) = behind_all (behind live n) ns

-- a variable of this type that is declared
pub record IsLive (c : Context) (live : List ℕ) (ty : TypeTree) (k : ℕ) : Type 0 where
  pub declared : is_among live k ≡ true
  pub there : slice_get c.variables k ≡ Some ty

-- a variable that is no parameter, of this type, and isn't declared so far
pub record IsNew (c : Context) (live : List ℕ) (ty : TypeTree) (k : ℕ) : Type 0 where
  pub behind : c.params ≤ k
  pub there : slice_get c.variables k ≡ Some ty
  pub new : is_among live k ≡ false

-- one of any type
pub record IsEnded (c : Context) (live : List ℕ) (k : ℕ) : Type 0 where
  pub ty : TypeTree
  pub own : IsNew c live ty k

-- ---- operands

-- an order of an integer with one that is known and has no type of its own
abbrev pub OneIsKnown : TypeTree → TypeTree → Type 0
OneIsKnown (tree.IntType signed bits size) tree.ComptimeIntType = Unit {0}
OneIsKnown tree.ComptimeIntType (tree.IntType signed bits size) = Unit {0}
OneIsKnown _ _ = ⊥

-- so may be one side of an order, and the amount of `<<|`
abbrev pub KnownFits : Operator → List TypeTree → TypeTree → Type 0
KnownFits (family.Comparison op) (a ∷ b ∷ []) ty = (ty ≡ tree.BoolType) × OneIsKnown a b
KnownFits (family.Shift ShlSat) (a ∷ b ∷ []) ty = IsSized ty × (a ≡ ty) × (b ≡ tree.ComptimeIntType)
KnownFits _ kids ty = ⊥

abbrev pub OperatesOn : Operator → List TypeTree → TypeTree → Type 0
OperatesOn op kids ty = OperandsFit op kids ty ⊎ KnownFits op kids ty

-- what an operator may come to at run time: a value of its type, or a panic
abbrev pub ComesTo : TypeTree → Outcome → Type 0
ComesTo ty (operation.Gives v) = IsValueOf ty v
ComesTo ty (operation.Panics cause) = Unit {0}
ComesTo ty operation.IsWild = ⊥
ComesTo ty (operation.Passes limit) = ⊥

-- ---- joins

abbrev pub value_known : Form → Option ValueTree
value_known (Constant value) = Some value
value_known _ = None

abbrev pub known_of : FlowNode → Option ValueTree
known_of (node counts ty form) = value_known form

-- what the node gives becomes of the type
abbrev pub Becomes : TypeTree → FlowNode → Type 0
Becomes to n = (row : ℕ) × (coercion (type_of n) (known_of n) to ≡ Ok row)

-- or it gives nothing
abbrev pub IsJoined : TypeTree → FlowNode → Type 0
IsJoined to n = (type_of n ≡ tree.NoReturnType) ⊎ Becomes to n

-- ---- ranges

abbrev pub bounds_taken : List Range → ℕ
bounds_taken [] = 0
bounds_taken (r ∷ ranges) = if r.has_end then suc (suc (bounds_taken ranges)) else suc (bounds_taken ranges)

abbrev pub some_has_end : List Range → Bool
some_has_end [] = false
some_has_end (r ∷ ranges) = if r.has_end then true else some_has_end ranges

-- the captures of a `for` are new variables, each one of its own
abbrev pub with_capture : List ℕ → Option ℕ → List ℕ
with_capture live None = live
with_capture live (Some k) = k ∷ live

abbrev pub CaptureFits : Context → List ℕ → Option ℕ → Type 0
CaptureFits c live None = Unit {0}
CaptureFits c live (Some k) = IsNew c live usize k

abbrev pub with_captures : List ℕ → List (Option ℕ) → List ℕ
with_captures live [] = live
with_captures live (k ∷ ks) = with_captures (with_capture live k) ks

abbrev pub CapturesFit : Context → List ℕ → List (Option ℕ) → Type 0
CapturesFit c live [] = Unit {0}
CapturesFit c live (k ∷ ks) = CaptureFits c live k × CapturesFit c (with_capture live k) ks

abbrev pub captures_of : List Range → List (Option ℕ)
captures_of ranges = map (λ r. r.capture) ranges

pub record AreRanges (c : Context) (live : List ℕ) (ranges : List Range) (bounds : List TypeTree) : Type 0 where
  pub as_many : length bounds ≡ bounds_taken ranges
  pub numbers : All (λ ty. ty ≡ usize) bounds
  pub ends : some_has_end ranges ≡ true
  pub captures : CapturesFit c live (captures_of ranges)

-- ---- types

-- a type that a node has that isn't known: it has a form at run time (of other types there are no values there yet), or the node never comes to
-- its end
abbrev pub IsRunType : TypeTree → Type 0
IsRunType (tree.IntType signed bits size) = bits ≤ 64
IsRunType tree.BoolType = Unit {0}
IsRunType tree.VoidType = Unit {0}
IsRunType tree.NoReturnType = Unit {0}
IsRunType _ = ⊥

-- so a `comptime_int` is a constant
abbrev pub TypeFits : Form → TypeTree → Type 0
TypeFits (Constant value) ty = HasWidths ty
TypeFits _ ty = IsRunType ty

abbrev pub never_ends : List TypeTree → Bool
never_ends [] = false
never_ends (ty ∷ types) = if is_no_return ty then true else never_ends types

-- nodes in order never come to their end only where one of them doesn't
abbrev pub EndsAs : TypeTree → List TypeTree → Type 0
EndsAs tree.VoidType types = Unit {0}
EndsAs tree.NoReturnType types = never_ends types ≡ true
EndsAs _ types = ⊥

-- a function of the host has types that the host sees
pub record IsHostImport (import : Import) : Type 0 where
  pub shown : IsTrue (all_types is_shown_type import.params)
  pub gives : IsTrue (is_result_type import.result)

-- the panics that a node stands for: all but the one with a message, and the one of too many calls
abbrev pub IsStopCause : ℕ → Type 0
IsStopCause cause = (1 ≤ cause) × (cause ≤ 17)

-- ---- nodes

abbrev mutual
  -- the node fits where these targets are open, and these variables declared: what leaves stands inside the target that it names
  pub Fits : Context → List Opened → List ℕ → FlowNode → Type 0
  Fits c around live (node counts ty form) = TypeFits form ty × FormFits c around live ty form

  pub FormFits : Context → List Opened → List ℕ → TypeTree → Form → Type 0
  FormFits c around live ty (Constant value) = IsValueOf ty value
  FormFits c around live ty (Read (Variable k)) = IsLive c live ty k
  FormFits c around live ty (Write (Variable k) n) = (ty ≡ tree.VoidType) × IsLive c live (type_of n) k × Fits c around live n
  FormFits c around live ty (Declare k writable n) = (ty ≡ tree.VoidType) × IsNew c live (type_of n) k × Fits c around live n
  FormFits c around live ty (Scope ks n) = (ty ≡ type_of n) × All (λ k. IsEnded c live k) ks × Fits c around live n
  FormFits c around live ty (Operate op kids) = OperatesOn op (types_of kids) ty × AllFit c around live kids
  FormFits c around live ty (Become n) = Becomes ty n × Fits c around live n
  FormFits c around live ty (Decide logic a b) =
      (ty ≡ tree.BoolType) × (type_of a ≡ tree.BoolType) × ((type_of b ≡ tree.BoolType) ⊎ (type_of b ≡ tree.NoReturnType)) ×
      Fits c around live a × Fits c around live b
  FormFits c around live ty (Choose d a b) =
      (type_of d ≡ tree.BoolType) × IsJoined ty a × IsJoined ty b × Fits c around live d × Fits c around live a × Fits c around live b
  FormFits c around live ty (InOrder kids) = EndsAs ty (types_of kids) × All IsStatement (types_of kids) × AllFit c around live kids
  FormFits c around live ty (Target t n) =
      (target_type around t ≡ None) × IsJoined ty n × Fits c (record { target = t; ty = ty } ∷ around) live n
  FormFits c around live ty (Leave t n) =
      (ty ≡ tree.NoReturnType) × ((to : TypeTree) × (target_type around t ≡ Some to) × IsJoined to n) × Fits c around live n
  FormFits c around live ty (Repeat n) = (ty ≡ tree.NoReturnType) × IsStatement (type_of n) × Fits c around live n
  FormFits c around live ty (Count ranges bounds n) =
      (ty ≡ tree.VoidType) × AreRanges c live ranges (types_of bounds) × IsStatement (type_of n) × AllFit c around live bounds ×
      Fits c around (with_captures live (captures_of ranges)) n
  FormFits c around live ty (Call f args) =
      (slice_get c.functions f ≡ Some (record { params = types_of args; result = ty })) × AllFit c around live args
  FormFits c around live ty (CallHost import args) =
      IsHostImport import × (ty ≡ import.result) × (types_of args ≡ import.params) × AllFit c around live args
  FormFits c around live ty (Return n) = (ty ≡ tree.NoReturnType) × IsJoined c.result n × Fits c around live n
  FormFits c around live ty (Stop cause) = (ty ≡ tree.NoReturnType) × IsStopCause cause

  pub AllFit : Context → List Opened → List ℕ → FlowNodes → Type 0
  AllFit c around live no_nodes = Unit {0}
  AllFit c around live (node_and n ns) = Fits c around live n × AllFit c around (behind live n) ns

-- ---- functions

abbrev pub signature : Function → Signature
signature f = record { params = f.params; result = f.result }

abbrev pub context_in : List Function → Function → Context
context_in functions f =
    record { params = length f.params; variables = f.params ++ f.vars; result = f.result; functions = map signature functions }

-- with the parameters of these types, from a number on
abbrev pub with_parameters : List ℕ → ℕ → List TypeTree → List ℕ
with_parameters live k [] = live
with_parameters live k (ty ∷ types) = with_parameters (k ∷ live) (k + 1) types

-- The body fits where no target is open and the parameters are declared; and it gives what the function gives, or never comes to its end.
pub record FunctionFits (functions : List Function) (f : Function) : Type 0 where
  pub body : Fits (context_in functions f) [] (with_parameters [] 0 f.params) f.body
  pub ends : (type_of f.body ≡ f.result) ⊎ (type_of f.body ≡ tree.NoReturnType)
