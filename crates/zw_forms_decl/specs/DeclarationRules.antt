-- The rules of functions, constants of a container, statements and calls of functions of the host (Zig Language Reference 0.13.0,
-- Functions, Container Level Variables), with the numbers of their errors (this project's own): 18 no function or a wrong number of
-- arguments, 28 a value is ignored, 32 no return, 33 a type that an export or extern can't have, 36 not built yet.
use Rattle.std.specs.Prelude.{ℕ, Bool, true, false, ◌&&◌, ◌||◌, nat_eq, if◌then◌else◌, List, [], ◌∷◌, ◌++◌, length, Option, Some, None}
use Rattle.zw_base.specs.declared.stop.StopKind.TheVariants.{Error}
use Rattle.zw_tree.specs.Trees.{Forest}
use Rattle.zw_tree.specs.declared.ast.Entry.{Entry}
use Rattle.zw_tree.specs.declared.kind.NodeKind.{NodeKind}
use Rattle.zw_tree.specs.declared.kind.NodeKind.TheVariants as kind
use Rattle.zw_types.specs.TypeTrees as tree
use Rattle.zw_types.specs.TypeTrees.{TypeTree, TypeOptions, ValueTree}
use Rattle.zw_typed.specs.Nodes.{Import, CallHost, InOrder, Return}
use Rattle.zw_typed.specs.HostTypes.{is_void, is_utf8_name, is_exported_type, is_shown_type, is_result_type, all_types, is_export_name}
use Rattle.zw_env.specs.Parts.{Part, Operand, Next, Visit, VisitKnown, Emit, Bind, Returns, Result, Done, Halt, HaltAt, a_value, in_type, alone}
use Rattle.zw_env.specs.Children.{kind_of, child_tree, forms_below, has, declared_name, member_name, is_export_word, is_extern_word, is_inferred_word, is_comptime_word}

-- ---- parts

abbrev pub nothing : {N : Type 0} → Part N
nothing = a_value tree.VoidType (tree.PartsValue tree.no_values)

abbrev pub named_type : {N : Type 0} → Part N → TypeTree
named_type part = elim part.known [ None ↦ tree.VoidType | Some v ↦ elim v [ tree.TypeValue ty ↦ ty | _ ↦ tree.VoidType ] ]

abbrev pub is_no_return : TypeTree → Bool
is_no_return tree.NoReturnType = true
is_no_return _ = false

abbrev pub all_alone : {N : Type 0} → List (Part N) → List (Operand N)
all_alone [] = []
all_alone (p ∷ ps) = alone p ∷ all_alone ps

-- ---- a constant: its type where it has one, and its value, at compile time

abbrev pub constant_rule : {N : Type 0} → List ℕ → List (Part N) → Next N
constant_rule (value ∷ []) [] = VisitKnown value None
constant_rule (value ∷ []) (v ∷ more) = Done v
constant_rule (ty ∷ (value ∷ more)) [] = VisitKnown ty (Some tree.TypeType)
constant_rule (ty ∷ (value ∷ more)) (t ∷ []) = VisitKnown value (Some (named_type t))
constant_rule (ty ∷ (value ∷ more)) (t ∷ v ∷ others) = Done v
constant_rule [] parts = Halt (Error 36)

-- ---- functions

abbrev pub of_parts : {N : Type 0} → List (Part N) → List TypeTree
of_parts [] = []
of_parts (p ∷ ps) = named_type p ∷ of_parts ps

-- the nodes in front of the last one, and the last one
abbrev pub before_last : {A : Type 0} → List A → List A
before_last [] = []
before_last (a ∷ []) = []
before_last (a ∷ b ∷ more) = a ∷ before_last (b ∷ more)

abbrev pub last_or : {A : Type 0} → A → List A → A
last_or other [] = other
last_or other (a ∷ []) = a
last_or other (a ∷ b ∷ more) = last_or a (b ∷ more)

-- the next child that has no part yet, and what is due when there is none; the parts behind those of the children
abbrev pub each_then : {N : Type 0} → (ℕ → Next N) → (List (Part N) → Next N) → List ℕ → List (Part N) → Next N
each_then visit due [] parts = due parts
each_then visit due (n ∷ ns) [] = visit n
each_then visit due (n ∷ ns) (part ∷ parts) = each_then visit due ns parts

abbrev pub types_from : List TypeTree → TypeOptions
types_from [] = tree.no_types
types_from (ty ∷ types) = tree.type_and (tree.TheType ty) (types_from types)

abbrev pub all_false : List TypeTree → List Bool
all_false [] = []
all_false (ty ∷ types) = false ∷ all_false types

abbrev pub outside_function : {N : Type 0} → ℕ → List TypeTree → TypeTree → Part N
outside_function n params result =
    a_value (tree.FuncType (types_from params) (tree.TheType result) (all_false params) true) (tree.FuncValue 0 n tree.no_values)

-- An extern function is a value. The types are those of the parameters and of the result.
abbrev pub may_import : List ℕ → List TypeTree → Bool
may_import name types = is_utf8_name name && (all_types is_shown_type (before_last types) && is_result_type (last_or tree.VoidType types))

abbrev pub outside_due : {N : Type 0} → List ℕ → ℕ → List TypeTree → Next N
outside_due name n types =
    if may_import name types
    then Done (outside_function n (before_last types) (last_or tree.VoidType types)) else Halt (Error 33)

-- an export: its types, then its body, which has to return where a value is wanted
abbrev pub body_due : {N : Type 0} → TypeTree → Part N → Next N
body_due result body = if is_no_return body.ty || is_void result then Done body else Halt (Error 32)

-- the types of an export and its name
abbrev pub may_export : List ℕ → List TypeTree → Bool
may_export name types = is_export_name name && (all_types is_exported_type (before_last types) && is_result_type (last_or tree.VoidType types))

abbrev pub export_due : {N : Type 0} → List ℕ → List TypeTree → ℕ → List (Part N) → Next N
export_due name types block [] = if may_export name types then Returns (last_or tree.VoidType types) else Halt (Error 33)
export_due name types block (set ∷ []) = Visit block None
export_due name types block (set ∷ body ∷ more) = body_due (last_or tree.VoidType types) body

-- a parameter's part is its type, and binds it; the result's type is known
abbrev pub signature_visit : {N : Type 0} → Forest Entry → ℕ → ℕ → Next N
signature_visit here n child = elim (kind_of (child_tree here n child)) [ kind.Parameter ↦ Visit child None | _ ↦ VisitKnown child (Some tree.TypeType) ]

abbrev pub first_parts : {N : Type 0} → List ℕ → List (Part N) → List (Part N)
first_parts [] parts = []
first_parts (n ∷ ns) [] = []
first_parts (n ∷ ns) (part ∷ parts) = part ∷ first_parts ns parts

abbrev pub outside_rule : {N : Type 0} → Forest Entry → ℕ → List ℕ → List (Part N) → Next N
outside_rule here n signature parts =
    each_then (signature_visit here n) (λ more. outside_due (declared_name here) n (of_parts (first_parts signature parts))) signature parts

abbrev pub export_rule : {N : Type 0} → Forest Entry → ℕ → List ℕ → ℕ → List (Part N) → Next N
export_rule here n signature block parts =
    each_then (signature_visit here n) (λ more. export_due (declared_name here) (of_parts (first_parts signature parts)) block more) signature parts

-- functions that are neither aren't built yet
abbrev pub plain_function_rule : {N : Type 0} → Forest Entry → ℕ → List (Part N) → Next N
plain_function_rule here n parts =
    elim (has here is_extern_word) [
      | true ↦ outside_rule here n (forms_below here n) parts
      | false ↦ elim (has here is_export_word) [
        | true ↦ export_rule here n (before_last (forms_below here n)) (last_or n (forms_below here n)) parts
        | false ↦ Halt (Error 36)
      ]
    ]

-- nor are those with an inferred error set
abbrev pub function_rule : {N : Type 0} → Forest Entry → ℕ → List (Part N) → Next N
function_rule here n parts =
    elim (has here is_inferred_word) [ true ↦ Halt (Error 36) | false ↦ plain_function_rule here n parts ]

-- a parameter: its type, which binds it; those that are known while compiling aren't built yet
abbrev pub plain_parameter_rule : {N : Type 0} → List ℕ → List ℕ → List (Part N) → Next N
plain_parameter_rule name (ty ∷ []) [] = VisitKnown ty (Some tree.TypeType)
plain_parameter_rule name (ty ∷ []) (t ∷ []) = Bind name (named_type t)
plain_parameter_rule name (ty ∷ []) (t ∷ bound ∷ more) = Done t
plain_parameter_rule name _ parts = Halt (Error 36)

abbrev pub parameter_rule : {N : Type 0} → Forest Entry → List ℕ → List (Part N) → Next N
parameter_rule here types parts =
    elim (has here is_comptime_word) [ true ↦ Halt (Error 36) | false ↦ plain_parameter_rule (declared_name here) types parts ]

-- ---- statements

-- calls and returns are built
abbrev pub is_built : NodeKind → Bool
is_built kind.Call = true
is_built kind.Return = true
is_built _ = false

abbrev pub statement : {N : Type 0} → Forest Entry → ℕ → ℕ → Next N
statement here n child = if is_built (kind_of (child_tree here n child)) then Visit child None else HaltAt child (Error 36)

abbrev pub is_used_up : TypeTree → Bool
is_used_up ty = is_void ty || is_no_return ty

-- a block is `noreturn` where its last statement is
abbrev pub block_type : {N : Type 0} → List (Part N) → TypeTree
block_type parts = elim (is_no_return (last_or nothing parts).ty) [ true ↦ tree.NoReturnType | false ↦ tree.VoidType ]

abbrev pub block_due : {N : Type 0} → List (Part N) → Next N
block_due parts = Emit InOrder (block_type parts) (all_alone parts)

-- The statements in order, with the parts that were looked at first and those that are left last: none may leave a value, and none behind
-- one that doesn't come to its end is walked.
abbrev pub block_from : {N : Type 0} → (ℕ → Next N) → List (Part N) → List ℕ → List (Part N) → Next N
block_from visit done [] [] = block_due done
block_from visit done [] (result ∷ more) = Done result
block_from visit done (n ∷ ns) [] = visit n
block_from visit done (n ∷ ns) (part ∷ more) =
    elim (is_no_return part.ty) [
      | true ↦ elim more [ [] ↦ block_due (done ++ part ∷ []) | result ∷ _ ↦ Done result ]
      | false ↦ elim (is_used_up part.ty) [ true ↦ block_from visit (done ++ part ∷ []) ns more | false ↦ HaltAt n (Error 28) ]
    ]

abbrev pub block_rule : {N : Type 0} → Forest Entry → ℕ → List ℕ → List (Part N) → Next N
block_rule here n statements parts = block_from (statement here n) [] statements parts

-- `return`, as a statement: the value has the type of the function's result
abbrev pub returned : {N : Type 0} → TypeTree → Part N → Next N
returned ty value = Emit Return tree.NoReturnType (in_type ty value ∷ [])

abbrev pub return_rule : {N : Type 0} → List ℕ → List (Part N) → Next N
return_rule values [] = Result
return_rule [] (t ∷ []) = returned (named_type t) nothing
return_rule [] (t ∷ result ∷ more) = Done result
return_rule (value ∷ others) (t ∷ []) = Visit value (Some (named_type t))
return_rule (value ∷ others) (t ∷ v ∷ []) = returned (named_type t) v
return_rule (value ∷ others) (t ∷ v ∷ result ∷ more) = Done result

-- whether the form that it stands in is a block
abbrev pub is_statement_of : Option NodeKind → Bool
is_statement_of None = false
is_statement_of (Some outer) = elim outer [ kind.Block ↦ true | _ ↦ false ]

-- ---- calls: the callee, then the arguments, of which those past the last parameter have no wanted type, then how many they are

abbrev pub wanted_types : TypeOptions → List TypeTree
wanted_types tree.no_types = []
wanted_types (tree.type_and tree.NoType types) = wanted_types types
wanted_types (tree.type_and (tree.TheType ty) types) = ty ∷ wanted_types types

abbrev pub result_of : tree.TypeOption → TypeTree
result_of tree.NoType = tree.VoidType
result_of (tree.TheType ty) = ty

abbrev pub import_of : Forest Entry → ValueTree → List TypeTree → TypeTree → Import
import_of forest (tree.FuncValue file n captures) params result = record { name = member_name forest n; params = params; result = result }
import_of forest _ params result = record { name = []; params = params; result = result }

abbrev pub call_due : {N : Type 0} → Import → List (Part N) → Next N
call_due import args =
    if nat_eq (length args) (length import.params) then Emit (CallHost import) import.result (all_alone args) else Halt (Error 18)

-- arguments that are left, the types that are wanted of them, and the parts that aren't looked at yet
abbrev pub arguments : {N : Type 0} → Import → List ℕ → List TypeTree → List (Part N) → List (Part N) → Next N
arguments import [] types done [] = call_due import done
arguments import [] types done (result ∷ more) = Done result
arguments import (n ∷ ns) [] done [] = Visit n None
arguments import (n ∷ ns) (ty ∷ types) done [] = Visit n (Some ty)
arguments import (n ∷ ns) [] done (part ∷ more) = arguments import ns [] (done ++ part ∷ []) more
arguments import (n ∷ ns) (ty ∷ types) done (part ∷ more) = arguments import ns types (done ++ part ∷ []) more

-- a callee that isn't a function of the host isn't built yet, and one that is no function is none
abbrev pub call_of : {N : Type 0} → Forest Entry → List ℕ → TypeTree → Option ValueTree → List (Part N) → Next N
call_of forest args (tree.FuncType params result comptime true) (Some f) parts =
    arguments (import_of forest f (wanted_types params) (result_of result)) args (wanted_types params) [] parts
call_of forest args (tree.FuncType params result comptime true) None parts = Halt (Error 36)
call_of forest args (tree.FuncType params result comptime false) known parts = Halt (Error 36)
call_of forest args _ known parts = Halt (Error 18)

abbrev pub call_rule : {N : Type 0} → Forest Entry → List ℕ → List (Part N) → Next N
call_rule forest [] parts = Halt (Error 36)
call_rule forest (callee ∷ args) [] = Visit callee None
call_rule forest (callee ∷ args) (f ∷ parts) = call_of forest args f.ty f.known parts

-- ---- all of them; none for a kind that isn't of this crate

-- What the form of this kind asks for: `here` is its tree, `outer` the kind of the form that it stands in, and `n` its number. The whole
-- text is asked for nothing but the name of a function of the host.
abbrev pub declaration_rule : {N : Type 0} → Forest Entry → Forest Entry → Option NodeKind → NodeKind → ℕ → List (Part N) → Option (Next N)
declaration_rule forest here outer kind.Function n parts = Some (function_rule here n parts)
declaration_rule forest here outer kind.Parameter n parts = Some (parameter_rule here (forms_below here n) parts)
declaration_rule forest here outer kind.Const n parts = Some (constant_rule (forms_below here n) parts)
declaration_rule forest here outer kind.Block n parts = Some (block_rule here n (forms_below here n) parts)
declaration_rule forest here outer kind.Return n parts =
    Some (elim (is_statement_of outer) [ true ↦ return_rule (forms_below here n) parts | false ↦ Halt (Error 36) ])
declaration_rule forest here outer kind.Call n parts = Some (call_rule forest (forms_below here n) parts)
declaration_rule forest here outer other n parts = None
