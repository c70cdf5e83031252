-- What the rules of functions, constants, statements and calls ask for keeps values to their types.
use Rattle.std.proofs.Common.{ℕ, Bool, true, false, List, [], ◌∷◌, ◌++◌, Option, Some, None, nat_eq}
use Rattle.std.specs.Prelude.{◌||◌, length}
use Rattle.zw_base.specs.declared.stop.StopKind.TheVariants.{Error}
use Rattle.zw_tree.specs.Trees.{Forest}
use Rattle.zw_tree.specs.declared.ast.Entry.{Entry}
use Rattle.zw_tree.specs.declared.kind.NodeKind.{NodeKind}
use Rattle.zw_tree.specs.declared.kind.NodeKind.TheVariants as kind
use Rattle.zw_types.specs.TypeTrees as tree
use Rattle.zw_types.specs.TypeTrees.{TypeTree, TypeOption, TypeOptions, ValueTree}
use Rattle.zw_typed.specs.Nodes.{Import, CallHost, TypedNode}
use Rattle.zw_env.specs.Parts.{Next, Visit, VisitKnown, Emit, Returns, Done, Halt, HaltAt}
use Rattle.zw_env.specs.Children.{kind_of, child_tree, forms_below, has, declared_name, is_export_word, is_extern_word, is_inferred_word, is_comptime_word}
use Rattle.zw_typed.specs.ValueTypes.{HasWidths, MayHaveWidths, AllHaveWidths, IsValueOf, IsKnownOf}
use Rattle.zw_env.specs.SoundParts.{IsSound, AreSound, AreSoundOperands, IsSoundNext}
use Rattle.zw_typed.specs.HostTypes.{is_void}
use Rattle.zw_forms_decl.specs.DeclarationRules.{nothing, named_type, is_no_return, all_alone, constant_rule, of_parts, before_last, last_or, each_then, types_from, outside_function, outside_due, may_export, export_due, signature_visit, first_parts, outside_rule, export_rule, plain_function_rule, function_rule, plain_parameter_rule, parameter_rule, is_built, statement, is_used_up, block_type, block_due, block_from, return_rule, is_statement_of, wanted_types, result_of, call_due, arguments, import_of, call_of, call_rule, declaration_rule, may_import}
use Rattle.zw_sema.specs.Walk.{RunPart}
use Rattle.zw_sema.proofs.ScalarLemmas.{next-if, IsSoundRule, sound-append, named-wide, AllWide}

next-choice : (t : Bool) (x y : Next TypedNode) → IsSoundNext x → IsSoundNext y → IsSoundNext (elim t [ true ↦ x | false ↦ y ])
next-choice true x y i j = i
next-choice false x y i j = j

pub nothing-sound : IsSound {N = TypedNode} nothing
nothing-sound = record { ty = tt; known = tt }

-- the type that a part names
named_type-wide : (part : RunPart) → IsSound part → HasWidths (named_type part)
named_type-wide part i = by_known part.known i.known
  where
    by_value : (v : ValueTree) → IsValueOf part.ty v → HasWidths (elim v [ tree.TypeValue ty ↦ ty | _ ↦ tree.VoidType ])
    by_value (tree.TypeValue ty) h = named-wide part.ty ty h
    by_value _ h = tt

    by_known : (known : Option ValueTree) → IsKnownOf part.ty known → HasWidths (elim known [ None ↦ tree.VoidType | Some v ↦ elim v [ tree.TypeValue ty ↦ ty | _ ↦ tree.VoidType ] ])
    by_known None h = tt
    by_known (Some v) h = by_value v h

alone-sound : (parts : List RunPart) → AreSound parts → AreSoundOperands (all_alone parts)
alone-sound [] k = tt
alone-sound (part ∷ parts) (i, k) = ((i, i.ty), alone-sound parts k)

-- ---- constants

constant-sound : (forms : List ℕ) (parts : List RunPart) → AreSound parts → IsSoundNext (constant_rule forms parts)
constant-sound (value ∷ []) [] k = tt
constant-sound (value ∷ []) (v ∷ more) (i, k) = i
constant-sound (ty ∷ (value ∷ more)) [] k = tt
constant-sound (ty ∷ (value ∷ more)) (t ∷ []) (i, k) = named_type-wide t i
constant-sound (ty ∷ (value ∷ more)) (t ∷ v ∷ others) (i, (j, k)) = j
constant-sound [] parts k = tt

-- ---- functions

of_parts-wide : (parts : List RunPart) → AreSound parts → AllWide (of_parts parts)
of_parts-wide [] k = tt
of_parts-wide (part ∷ parts) (i, k) = (named_type-wide part i, of_parts-wide parts k)

before_last-wide : (types : List TypeTree) → AllWide types → AllWide (before_last types)
before_last-wide [] k = tt
before_last-wide (a ∷ []) k = tt
before_last-wide (a ∷ b ∷ more) (i, k) = (i, before_last-wide (b ∷ more) k)

last-wide : (other : TypeTree) (types : List TypeTree) → HasWidths other → AllWide types → HasWidths (last_or other types)
last-wide other [] h k = h
last-wide other (a ∷ []) h (i, k) = i
last-wide other (a ∷ b ∷ more) h (i, k) = last-wide a (b ∷ more) i k

options-wide : (types : List TypeTree) → AllWide types → AllHaveWidths (types_from types)
options-wide [] k = tt
options-wide (ty ∷ types) (i, k) = (i, options-wide types k)

first_parts-sound : (ns : List ℕ) (parts : List RunPart) → AreSound parts → AreSound (first_parts ns parts)
first_parts-sound [] parts k = tt
first_parts-sound (n ∷ ns) [] k = tt
first_parts-sound (n ∷ ns) (part ∷ parts) (i, k) = (i, first_parts-sound ns parts k)

each_then-sound : (visit : ℕ → Next TypedNode) (due : List RunPart → Next TypedNode) → ((n : ℕ) → IsSoundNext (visit n)) → ((parts : List RunPart) → AreSound parts → IsSoundNext (due parts)) →
    (ns : List ℕ) (parts : List RunPart) → AreSound parts → IsSoundNext (each_then visit due ns parts)
each_then-sound visit due v d [] parts k = d parts k
each_then-sound visit due v d (n ∷ ns) [] k = v n
each_then-sound visit due v d (n ∷ ns) (part ∷ parts) (i, k) = each_then-sound visit due v d ns parts k

by_kind : (k : NodeKind) (child : ℕ) → IsSoundNext {N = TypedNode} (elim k [ kind.Parameter ↦ Visit child None | _ ↦ VisitKnown child (Some tree.TypeType) ])
by_kind kind.Parameter child = tt
by_kind _ child = tt

signature-sound : (here : Forest Entry) (n child : ℕ) → IsSoundNext {N = TypedNode} (signature_visit here n child)
signature-sound here n child = by_kind (kind_of (child_tree here n child)) child

outside_due-sound : (name : List ℕ) (n : ℕ) (types : List TypeTree) → AllWide types → IsSoundNext {N = TypedNode} (outside_due name n types)
outside_due-sound name n types k =
    next-if (may_import name types) (Done (outside_function n (before_last types) (last_or tree.VoidType types))) (Halt (Error 33))
    (record { ty = (options-wide (before_last types) (before_last-wide types k), last-wide tree.VoidType types tt k); known = tt }) tt

export_due-sound : (name : List ℕ) (types : List TypeTree) → AllWide types → (block : ℕ) (parts : List RunPart) → AreSound parts → IsSoundNext (export_due name types block parts)
export_due-sound name types w block [] k = next-if (may_export name types) (Returns (last_or tree.VoidType types)) (Halt (Error 33)) (last-wide tree.VoidType types tt w) tt
export_due-sound name types w block (set ∷ []) k = tt
export_due-sound name types w block (set ∷ body ∷ more) (i, (j, k)) =
    next-if (is_no_return body.ty || is_void (last_or tree.VoidType types)) (Done body) (Halt (Error 32)) j tt

outside-sound : (here : Forest Entry) (n : ℕ) (signature : List ℕ) (parts : List RunPart) → AreSound parts → IsSoundNext (outside_rule here n signature parts)
outside-sound here n signature parts k =
    each_then-sound (signature_visit here n) (λ more. outside_due (declared_name here) n (of_parts (first_parts signature parts))) (signature-sound here n)
    (λ more l. outside_due-sound (declared_name here) n (of_parts (first_parts signature parts)) (of_parts-wide (first_parts signature parts) (first_parts-sound signature parts k))) signature parts k

export-sound : (here : Forest Entry) (n : ℕ) (signature : List ℕ) (block : ℕ) (parts : List RunPart) → AreSound parts → IsSoundNext (export_rule here n signature block parts)
export-sound here n signature block parts k =
    each_then-sound (signature_visit here n) (λ more. export_due (declared_name here) (of_parts (first_parts signature parts)) block more) (signature-sound here n)
    (λ more l. export_due-sound (declared_name here) (of_parts (first_parts signature parts)) (of_parts-wide (first_parts signature parts) (first_parts-sound signature parts k)) block more l) signature parts k

function-sound : (here : Forest Entry) (n : ℕ) (parts : List RunPart) → AreSound parts → IsSoundNext (function_rule here n parts)
function-sound here n parts k =
    next-choice (has here is_inferred_word) (Halt (Error 36)) (plain_function_rule here n parts) tt
    (next-choice (has here is_extern_word) (outside_rule here n (forms_below here n) parts)
    (elim (has here is_export_word) [ true ↦ export_rule here n (before_last (forms_below here n)) (last_or n (forms_below here n)) parts | false ↦ Halt (Error 36) ])
    (outside-sound here n (forms_below here n) parts k)
    (next-choice (has here is_export_word) (export_rule here n (before_last (forms_below here n)) (last_or n (forms_below here n)) parts) (Halt (Error 36))
    (export-sound here n (before_last (forms_below here n)) (last_or n (forms_below here n)) parts k) tt))

plain_parameter-sound : (name : List ℕ) (types : List ℕ) (parts : List RunPart) → AreSound parts → IsSoundNext (plain_parameter_rule name types parts)
plain_parameter-sound name (ty ∷ []) [] k = tt
plain_parameter-sound name (ty ∷ []) (t ∷ []) (i, k) = named_type-wide t i
plain_parameter-sound name (ty ∷ []) (t ∷ bound ∷ more) (i, k) = i
plain_parameter-sound name [] parts k = tt
plain_parameter-sound name (ty ∷ other ∷ more) parts k = tt

parameter-sound : (here : Forest Entry) (types : List ℕ) (parts : List RunPart) → AreSound parts → IsSoundNext (parameter_rule here types parts)
parameter-sound here types parts k = next-choice (has here is_comptime_word) (Halt (Error 36)) (plain_parameter_rule (declared_name here) types parts) tt (plain_parameter-sound (declared_name here) types parts k)

-- ---- statements

block_type-wide : (parts : List RunPart) → HasWidths (block_type parts)
block_type-wide parts = by_test (is_no_return (last_or nothing parts).ty)
  where
    by_test : (t : Bool) → HasWidths (elim t [ true ↦ tree.NoReturnType | false ↦ tree.VoidType ])
    by_test true = tt
    by_test false = tt

block_due-sound : (parts : List RunPart) → AreSound parts → IsSoundNext (block_due parts)
block_due-sound parts k = (block_type-wide parts, alone-sound parts k)

block_from-sound : (visit : ℕ → Next TypedNode) → ((n : ℕ) → IsSoundNext (visit n)) → (done : List RunPart) → AreSound done → (ns : List ℕ) (parts : List RunPart) → AreSound parts → IsSoundNext (block_from visit done ns parts)
block_from-sound visit v done d [] [] k = block_due-sound done d
block_from-sound visit v done d [] (result ∷ more) (i, k) = i
block_from-sound visit v done d (n ∷ ns) [] k = v n
block_from-sound visit v done d (n ∷ ns) (part ∷ []) (i, k) =
    next-choice (is_no_return part.ty) (block_due (done ++ part ∷ [])) (elim (is_used_up part.ty) [ true ↦ block_from visit (done ++ part ∷ []) ns [] | false ↦ HaltAt n (Error 28) ])
    (block_due-sound (done ++ part ∷ []) (sound-append done part d i))
    (next-choice (is_used_up part.ty) (block_from visit (done ++ part ∷ []) ns []) (HaltAt n (Error 28)) (block_from-sound visit v (done ++ part ∷ []) (sound-append done part d i) ns [] k) tt)
block_from-sound visit v done d (n ∷ ns) (part ∷ result ∷ more) (i, (r, k)) =
    next-choice (is_no_return part.ty) (Done result) (elim (is_used_up part.ty) [ true ↦ block_from visit (done ++ part ∷ []) ns (result ∷ more) | false ↦ HaltAt n (Error 28) ])
    r
    (next-choice (is_used_up part.ty) (block_from visit (done ++ part ∷ []) ns (result ∷ more)) (HaltAt n (Error 28)) (block_from-sound visit v (done ++ part ∷ []) (sound-append done part d i) ns (result ∷ more) (r, k)) tt)

statement-sound : (here : Forest Entry) (n child : ℕ) → IsSoundNext {N = TypedNode} (statement here n child)
statement-sound here n child = next-if (is_built (kind_of (child_tree here n child))) (Visit child None) (HaltAt child (Error 36)) tt tt

return-sound : (values : List ℕ) (parts : List RunPart) → AreSound parts → IsSoundNext (return_rule values parts)
return-sound values [] k = tt
return-sound [] (t ∷ []) (i, k) = (tt, ((nothing-sound, named_type-wide t i), tt))
return-sound [] (t ∷ result ∷ more) (i, (r, k)) = r
return-sound (value ∷ others) (t ∷ []) (i, k) = named_type-wide t i
return-sound (value ∷ others) (t ∷ v ∷ []) (i, (j, k)) = (tt, ((j, named_type-wide t i), tt))
return-sound (value ∷ others) (t ∷ v ∷ result ∷ more) (i, (j, (r, k))) = r

-- ---- calls

wanted_types-wide : (params : TypeOptions) → AllHaveWidths params → AllWide (wanted_types params)
wanted_types-wide tree.no_types k = tt
wanted_types-wide (tree.type_and tree.NoType types) (i, k) = wanted_types-wide types k
wanted_types-wide (tree.type_and (tree.TheType ty) types) (i, k) = (i, wanted_types-wide types k)

result-wide : (result : TypeOption) → MayHaveWidths result → HasWidths (result_of result)
result-wide tree.NoType h = tt
result-wide (tree.TheType ty) h = h

call_due-sound : (import : Import) → HasWidths import.result → (args : List RunPart) → AreSound args → IsSoundNext (call_due import args)
call_due-sound import h args k = next-if (nat_eq (length args) (length import.params)) (Emit (CallHost import) import.result (all_alone args)) (Halt (Error 18)) (h, alone-sound args k) tt

arguments-sound : (import : Import) → HasWidths import.result → (ns : List ℕ) (types : List TypeTree) → AllWide types → (done : List RunPart) → AreSound done → (parts : List RunPart) → AreSound parts → IsSoundNext (arguments import ns types done parts)
arguments-sound import h [] types w done d [] k = call_due-sound import h done d
arguments-sound import h [] types w done d (result ∷ more) (i, k) = i
arguments-sound import h (n ∷ ns) [] w done d [] k = tt
arguments-sound import h (n ∷ ns) (ty ∷ types) (g, w) done d [] k = g
arguments-sound import h (n ∷ ns) [] w done d (part ∷ more) (i, k) = arguments-sound import h ns [] tt (done ++ part ∷ []) (sound-append done part d i) more k
arguments-sound import h (n ∷ ns) (ty ∷ types) (g, w) done d (part ∷ more) (i, k) = arguments-sound import h ns types w (done ++ part ∷ []) (sound-append done part d i) more k

import-wide : (forest : Forest Entry) (f : ValueTree) (params : List TypeTree) (result : TypeTree) → HasWidths result → HasWidths (import_of forest f params result).result
import-wide forest (tree.FuncValue file n captures) params result h = h
import-wide forest _ params result h = h

call_of-sound : (forest : Forest Entry) (args : List ℕ) (ty : TypeTree) → HasWidths ty → (known : Option ValueTree) (parts : List RunPart) → AreSound parts → IsSoundNext (call_of forest args ty known parts)
call_of-sound forest args (tree.FuncType params result comptime true) (h, g) (Some f) parts k =
    arguments-sound (import_of forest f (wanted_types params) (result_of result)) (import-wide forest f (wanted_types params) (result_of result) (result-wide result g)) args (wanted_types params) (wanted_types-wide params h) [] tt parts k
call_of-sound forest args (tree.FuncType params result comptime true) h None parts k = tt
call_of-sound forest args (tree.FuncType params result comptime false) h known parts k = tt
call_of-sound forest args _ h known parts k = tt

call-sound : (forest : Forest Entry) (forms : List ℕ) (parts : List RunPart) → AreSound parts → IsSoundNext (call_rule forest forms parts)
call-sound forest [] parts k = tt
call-sound forest (callee ∷ args) [] k = tt
call-sound forest (callee ∷ args) (f ∷ parts) (i, k) = call_of-sound forest args f.ty i.ty f.known parts k

-- ---- all of them

pub declaration-sound : (forest here : Forest Entry) (outer : Option NodeKind) (k : NodeKind) (n : ℕ) (parts : List RunPart) → AreSound parts → IsSoundRule (declaration_rule forest here outer k n parts)
declaration-sound forest here outer kind.Function n parts k = function-sound here n parts k
declaration-sound forest here outer kind.Parameter n parts k = parameter-sound here (forms_below here n) parts k
declaration-sound forest here outer kind.Const n parts k = constant-sound (forms_below here n) parts k
declaration-sound forest here outer kind.Block n parts k = block_from-sound (statement here n) (statement-sound here n) [] tt (forms_below here n) parts k
declaration-sound forest here outer kind.Return n parts k = next-choice (is_statement_of outer) (return_rule (forms_below here n) parts) (Halt (Error 36)) (return-sound (forms_below here n) parts k) tt
declaration-sound forest here outer kind.Call n parts k = call-sound forest (forms_below here n) parts k
declaration-sound forest here outer _ n parts k = tt
