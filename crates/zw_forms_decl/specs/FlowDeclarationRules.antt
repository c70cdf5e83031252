-- The rules of functions, parameters, constants, variables and captures (Zig Language Reference 0.13.0, Functions, Container Level Variables, Local Variables),
-- with the numbers of their errors (this project's own): 16 a known value is required, 32 no return, 33 a type that an export or extern can't have, 36 not built yet.
use Rattle.std.specs.Prelude.{ℕ, Bool, true, false, ◌&&◌, ◌||◌, List, [], ◌∷◌, ◌++◌, Option, Some, None}
use Rattle.zw_base.specs.declared.stop.StopKind.TheVariants.{Error}
use Rattle.zw_tree.specs.Trees.{Forest, none, tree}
use Rattle.zw_tree.specs.Numbering.{inside_first}
use Rattle.zw_tree.specs.declared.ast.Entry.{Entry}
use Rattle.zw_tree.specs.declared.kind.NodeKind.{NodeKind}
use Rattle.zw_tree.specs.declared.kind.NodeKind.TheVariants as kind
use Rattle.zw_types.specs.TypeTrees as type
use Rattle.zw_types.specs.TypeTrees.{TypeTree, ValueTree}
use Rattle.zw_values.specs.ObjectStore.{Stage, at_compile_time, at_run_time}
use Rattle.zw_typed.specs.HostTypes.{is_void}
use Rattle.zw_env.specs.FlowParts.{Part, Occurrence, Rule, Next, Ask, Emit, Bind, Parameter, Variable, Returns, Done, Halt, Declaring, Visit, Nothing, OfType, wanted_of, a_value, nothing, is_known, never_ends, has_run_time_form, named_type, variable_of, operand_at, take, take_each, last_of}
use Rattle.zw_env.specs.FlowChildren.{forms, positions, is_parameter, is_any_type, is_form}
use Rattle.zw_env.specs.Children.{has, any_is, declared_name, is_export_word, is_extern_word, is_inferred_word, is_comptime_word}
use Rattle.zw_forms_decl.specs.DeclarationRules.{types_from, all_false, may_import, may_export}

-- the visit of a type
abbrev pub type_at : Occurrence → ℕ → Visit
type_at site child = record (operand_at site child (OfType type.TypeType)) { stage = at_compile_time }

-- ---- constants and variables: their type where they have one, and their value

abbrev pub declared_in : {N : Type 0} → Bool → Option ℕ → Part N → List (Part N) → Next N
declared_in writable None v parts = Halt (Error 36)
declared_in writable (Some k) v parts = last_of (Emit (Declaring writable k v) type.VoidType) parts

-- what isn't known is a variable of the function, and needs a type of run time
abbrev pub as_variable : {N : Type 0} → Bool → Part N → List (Part N) → Next N
as_variable writable v parts =
    elim (has_run_time_form v.ty) [
      | false ↦ Halt (Error 16)
      | true ↦ take (Variable writable v.ty) parts (λ place more. declared_in writable (variable_of place) v more)
    ]

-- a constant that is known stands for its value
abbrev pub as_constant : {N : Type 0} → Part N → List (Part N) → Next N
as_constant v parts = elim (is_known v) [ true ↦ take (Bind v) parts (λ bound more. Done nothing) | false ↦ as_variable false v parts ]

abbrev pub with_value : {N : Type 0} → (Part N → List (Part N) → Next N) → List ℕ → Rule N
with_value due (value ∷ []) site parts = take (Ask (operand_at site value Nothing)) parts due
with_value due (ty ∷ value ∷ others) site parts =
    take (Ask (type_at site ty)) parts (λ t more. take (Ask (operand_at site value (wanted_of (named_type t)))) more due)
with_value due [] site parts = Halt (Error 36)

-- those that say that they are known aren't built yet
abbrev pub constant_rule : {N : Type 0} → Rule N
constant_rule site parts =
    elim (has site.here is_comptime_word) [ true ↦ Halt (Error 36) | false ↦ with_value as_constant (forms site.here) site parts ]

-- nor are variables at compile time
abbrev pub variable_in_stage : {N : Type 0} → Stage → Rule N
variable_in_stage at_compile_time site parts = Halt (Error 36)
variable_in_stage at_run_time site parts =
    elim (has site.here is_comptime_word) [ true ↦ Halt (Error 36) | false ↦ with_value (as_variable true) (forms site.here) site parts ]

abbrev pub variable_rule : {N : Type 0} → Rule N
variable_rule site parts = variable_in_stage site.stage site parts

-- ---- parameters and captures

abbrev pub parameter_of : {N : Type 0} → Option TypeTree → Part N → List (Part N) → Next N
parameter_of None t parts = Halt (Error 36)
parameter_of (Some ty) t parts = elim (has_run_time_form ty) [ true ↦ take (Parameter ty) parts (λ place more. Done t) | false ↦ Halt (Error 16) ]

abbrev pub parameter_on : {N : Type 0} → List ℕ → Rule N
parameter_on (ty ∷ []) site parts = take (Ask (type_at site ty)) parts (λ t more. parameter_of (named_type t) t more)
parameter_on _ site parts = Halt (Error 36)

-- A parameter's part is its type. Those that are known while compiling aren't built yet.
abbrev pub parameter_rule : {N : Type 0} → Rule N
parameter_rule site parts =
    elim (has site.here is_comptime_word || has site.here is_any_type) [ true ↦ Halt (Error 36) | false ↦ parameter_on (forms site.here) site parts ]

-- a capture with a name is a new constant of the type that its form wants of it; one that is `_` isn't asked for
abbrev pub capture_of : {N : Type 0} → Option TypeTree → List (Part N) → Next N
capture_of None parts = Halt (Error 36)
capture_of (Some ty) parts = last_of (Variable false ty) parts

abbrev pub capture_rule : {N : Type 0} → Rule N
capture_rule site parts = capture_of site.wanted parts

-- ---- functions

abbrev pub type_and : Option TypeTree → Option (List TypeTree) → Option (List TypeTree)
type_and (Some ty) (Some types) = Some (ty ∷ types)
type_and _ _ = None

abbrev pub all_named : {N : Type 0} → List (Part N) → Option (List TypeTree)
all_named [] = Some []
all_named (p ∷ ps) = type_and (named_type p) (all_named ps)

-- a parameter that is known while compiling
abbrev pub any_known : Forest Entry → Bool
any_known none = false
any_known (tree root inside behind) =
    elim (is_parameter root.node.kind && (any_is is_comptime_word inside || any_is is_any_type inside)) [ true ↦ true | false ↦ any_known behind ]

-- a function as a value, by its declaration
abbrev pub function_value : {N : Type 0} → ℕ → List TypeTree → TypeTree → Bool → Part N
function_value n params result outside =
    a_value (type.FuncType (types_from params) (type.TheType result) (all_false params) outside) (type.FuncValue 0 n type.no_values)

abbrev pub as_value : {N : Type 0} → Occurrence → List TypeTree → TypeTree → Bool → List (Part N) → Next N
as_value site params result outside parts = take (Bind (function_value site.node params result outside)) parts (λ bound more. Done nothing)

abbrev pub value_due : {N : Type 0} → Occurrence → List TypeTree → TypeTree → List (Part N) → Next N
value_due site params result parts =
    elim (has site.here is_extern_word) [
      | false ↦ as_value site params result false parts
      | true ↦ elim (may_import (declared_name site.here) (params ++ result ∷ [])) [ true ↦ as_value site params result true parts | false ↦ Halt (Error 33) ]
    ]

-- the body has to return where a value is wanted
abbrev pub body_due : {N : Type 0} → TypeTree → Part N → Next N
body_due result body = elim (never_ends body || is_void result) [ true ↦ Done body | false ↦ Halt (Error 32) ]

abbrev pub body_of : {N : Type 0} → Occurrence → TypeTree → List ℕ → List (Part N) → Next N
body_of site result (block ∷ others) parts =
    take (Returns result) parts (λ set more. take (Ask (record (operand_at site block Nothing) { ends = false })) more (λ body rest. body_due result body))
body_of site result [] parts = Halt (Error 36)

abbrev pub may_stand : Occurrence → List TypeTree → Bool
may_stand site types = elim (has site.here is_export_word) [ true ↦ may_export (declared_name site.here) types | false ↦ true ]

abbrev pub function_due : {N : Type 0} → Stage → Occurrence → List ℕ → List TypeTree → TypeTree → List (Part N) → Next N
function_due at_compile_time site blocks params result parts = value_due site params result parts
function_due at_run_time site blocks params result parts =
    elim (may_stand site (params ++ result ∷ [])) [ true ↦ body_of site result blocks parts | false ↦ Halt (Error 33) ]

abbrev pub with_types : {N : Type 0} → Occurrence → List ℕ → Option (List TypeTree) → Option TypeTree → List (Part N) → Next N
with_types site blocks (Some params) (Some result) parts = function_due site.stage site blocks params result parts
with_types site blocks _ _ parts = Halt (Error 36)

-- the parameters, the type of the result, and then its value at compile time, or its body at run time
abbrev pub signature_on : {N : Type 0} → List ℕ → List ℕ → Rule N
signature_on params (result ∷ blocks) site parts =
    take_each (λ child taken. Ask (operand_at site child Nothing)) params [] parts (λ types more.
    take (Ask (type_at site result)) more (λ t rest.
    with_types site blocks (all_named types) (named_type t) rest))
signature_on params [] site parts = Halt (Error 36)

abbrev pub is_other_form : NodeKind → Bool
is_other_form found = elim (is_parameter found) [ true ↦ false | false ↦ is_form found ]

abbrev pub faces_host : Forest Entry → Bool
faces_host here = has here is_export_word || has here is_extern_word

-- Functions with an inferred error set aren't built yet. One that faces the host can't have parameters that are known while compiling.
abbrev pub function_rule : {N : Type 0} → Rule N
function_rule site parts =
    elim (has site.here is_inferred_word) [
      | true ↦ Halt (Error 36)
      | false ↦ elim (faces_host site.here && any_known (inside_first site.here)) [
        | true ↦ Halt (Error 33)
        | false ↦ signature_on (positions is_parameter site.here) (positions is_other_form site.here) site parts
      ]
    ]

-- ---- all of them; none for a kind that isn't of this crate

abbrev pub declaration_rule : {N : Type 0} → NodeKind → Option (Rule N)
declaration_rule kind.Function = Some function_rule
declaration_rule kind.Parameter = Some parameter_rule
declaration_rule kind.Const = Some constant_rule
declaration_rule kind.Var = Some variable_rule
declaration_rule kind.Capture = Some capture_rule
declaration_rule other = None
