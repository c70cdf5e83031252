-- What the rules of functions, constants, statements and calls ask for where nodes have other numbers: the same, of the nodes with these numbers.
use Rattle.std.proofs.Common.{◌≡◌, refl, ℕ, suc, Bool, true, false, nat_eq, List, [], ◌∷◌, ◌++◌, Option, Some, None, ap, sym, ◌∙◌}
use Rattle.std.specs.Prelude.{if◌then◌else◌, ◌||◌, map, length}
use Rattle.zw_base.specs.declared.stop.StopKind.TheVariants.{Error}
use Rattle.zw_tree.specs.Trees.{Forest}
use Rattle.zw_tree.specs.declared.ast.Entry.{Entry}
use Rattle.zw_tree.specs.declared.kind.NodeKind.{NodeKind}
use Rattle.zw_tree.specs.declared.kind.NodeKind.TheVariants as kind
use Rattle.zw_types.specs.TypeTrees as tree
use Rattle.zw_types.specs.TypeTrees.{TypeTree, ValueTree}
use Rattle.zw_typed.specs.Nodes.{Import, CallHost, InOrder, TypedNode}
use Rattle.zw_typed.specs.HostTypes.{is_void}
use Rattle.zw_env.specs.Parts.{Operand, Next, Visit, VisitKnown, Emit, Bind, Returns, Done, Halt, HaltAt, alone}
use Rattle.zw_env.specs.Children.{kind_of, child_tree, forms_below, has, declared_name, member_name, is_export_word, is_extern_word, is_inferred_word, is_comptime_word}
use Rattle.zw_forms_decl.specs.DeclarationRules.{nothing, named_type, is_no_return, all_alone, constant_rule, of_parts, before_last, last_or, each_then, outside_function, may_import, outside_due, body_due, may_export, export_due, signature_visit, first_parts, outside_rule, export_rule, plain_function_rule, function_rule, plain_parameter_rule, parameter_rule, is_built, statement, is_used_up, block_type, block_due, block_from, block_rule, returned, return_rule, is_statement_of, wanted_types, result_of, import_of, call_due, arguments, call_of, call_rule, declaration_rule}
use Rattle.zw_sema.specs.Walk.{RunPart}
use Rattle.zw_sema.specs.Exchanged.{SayTheSame}
use Rattle.zw_sema.proofs.MovedValues.{moved_value, moved_known, moved_part, moved_parts}
use Rattle.zw_sema.proofs.MovedTrees.{Fits, has-same, declared_name-same, kind-same, forms-move, child-moves}
use Rattle.zw_sema.proofs.MovedRules.{moved_operands, moved_next, moved_rule, if-moves, if-stays, append-moves}
use Rattle.zw_sema.proofs.MovedBuiltins.{VisitsMove, DuesMove}

-- ---- parts

named-stays : (to : ℕ → ℕ) (part : RunPart) → named_type (moved_part to part) ≡ named_type part
named-stays to part = by_known part.known
  where
    by_value : (v : ValueTree) → ◌≡◌ {A = TypeTree} (elim (moved_value to v) [ tree.TypeValue ty ↦ ty | _ ↦ tree.VoidType ]) (elim v [ tree.TypeValue ty ↦ ty | _ ↦ tree.VoidType ])
    by_value (tree.TypeValue ty) = refl
    by_value _ = refl

    by_known : (known : Option ValueTree) → ◌≡◌ {A = TypeTree} (elim (moved_known to known) [ None ↦ tree.VoidType | Some v ↦ elim v [ tree.TypeValue ty ↦ ty | _ ↦ tree.VoidType ] ])
        (elim known [ None ↦ tree.VoidType | Some v ↦ elim v [ tree.TypeValue ty ↦ ty | _ ↦ tree.VoidType ] ])
    by_known None = refl
    by_known (Some v) = by_value v

of_parts-stays : (to : ℕ → ℕ) (parts : List RunPart) → of_parts (moved_parts to parts) ≡ of_parts parts
of_parts-stays to [] = refl
of_parts-stays to (part ∷ parts) =
    ap (λ (ty : TypeTree). ty ∷ of_parts (moved_parts to parts)) (named-stays to part) ∙ ap (λ (types : List TypeTree). named_type part ∷ types) (of_parts-stays to parts)

alone-moves : (to : ℕ → ℕ) (parts : List RunPart) → all_alone (moved_parts to parts) ≡ moved_operands to (all_alone parts)
alone-moves to [] = refl
alone-moves to (part ∷ parts) = ap (λ (os : List (Operand TypedNode)). alone (moved_part to part) ∷ os) (alone-moves to parts)

length-stays : (to : ℕ → ℕ) (parts : List RunPart) → length (moved_parts to parts) ≡ length parts
length-stays to [] = refl
length-stays to (part ∷ parts) = ap (λ (n : ℕ). suc n) (length-stays to parts)

-- ---- constants

constant-moves : (to : ℕ → ℕ) (forms : List ℕ) (parts : List RunPart) → constant_rule (map to forms) (moved_parts to parts) ≡ moved_next to (constant_rule forms parts)
constant-moves to [] parts = refl
constant-moves to (value ∷ []) [] = refl
constant-moves to (value ∷ []) (v ∷ more) = refl
constant-moves to (ty ∷ value ∷ others) [] = refl
constant-moves to (ty ∷ value ∷ others) (t ∷ []) = ap (λ (wanted : TypeTree). VisitKnown (to value) (Some wanted)) (named-stays to t)
constant-moves to (ty ∷ value ∷ others) (t ∷ v ∷ more) = refl

-- ---- functions

before-moves : (to : ℕ → ℕ) (ns : List ℕ) → before_last (map to ns) ≡ map to (before_last ns)
before-moves to [] = refl
before-moves to (n ∷ []) = refl
before-moves to (n ∷ m ∷ more) = ap (λ (ns : List ℕ). to n ∷ ns) (before-moves to (m ∷ more))

last-moves : (to : ℕ → ℕ) (n : ℕ) (ns : List ℕ) → last_or (to n) (map to ns) ≡ to (last_or n ns)
last-moves to n [] = refl
last-moves to n (m ∷ []) = refl
last-moves to n (m ∷ k ∷ more) = last-moves to m (k ∷ more)

each_then-moves : (to : ℕ → ℕ) (visit along : ℕ → Next TypedNode) (due owed : List RunPart → Next TypedNode) → VisitsMove to visit along → DuesMove to due owed → (ns : List ℕ) (parts : List RunPart) →
    each_then along owed (map to ns) (moved_parts to parts) ≡ moved_next to (each_then visit due ns parts)
each_then-moves to visit along due owed v d [] parts = d parts
each_then-moves to visit along due owed v d (n ∷ ns) [] = v n
each_then-moves to visit along due owed v d (n ∷ ns) (part ∷ parts) = each_then-moves to visit along due owed v d ns parts

first-moves : (to : ℕ → ℕ) (ns : List ℕ) (parts : List RunPart) → first_parts (map to ns) (moved_parts to parts) ≡ moved_parts to (first_parts ns parts)
first-moves to [] parts = refl
first-moves to (n ∷ ns) [] = refl
first-moves to (n ∷ ns) (part ∷ parts) = ap (λ (ps : List RunPart). moved_part to part ∷ ps) (first-moves to ns parts)

-- the types of a signature
types-stay : (to : ℕ → ℕ) (ns : List ℕ) (parts : List RunPart) → of_parts (first_parts (map to ns) (moved_parts to parts)) ≡ of_parts (first_parts ns parts)
types-stay to ns parts = ap (λ (ps : List RunPart). of_parts ps) (first-moves to ns parts) ∙ of_parts-stays to (first_parts ns parts)

outside_due-moves : (to : ℕ → ℕ) (name : List ℕ) (n : ℕ) (types : List TypeTree) → outside_due name (to n) types ≡ moved_next to (outside_due name n types)
outside_due-moves to name n types =
    if-moves to (may_import name types) (Done (outside_function n (before_last types) (last_or tree.VoidType types))) (Halt (Error 33))
    (Done (outside_function (to n) (before_last types) (last_or tree.VoidType types))) (Halt (Error 33)) refl refl

body-moves : (to : ℕ → ℕ) (result : TypeTree) (body : RunPart) → body_due result (moved_part to body) ≡ moved_next to (body_due result body)
body-moves to result body = if-moves to (is_no_return body.ty || is_void result) (Done body) (Halt (Error 32)) (Done (moved_part to body)) (Halt (Error 32)) refl refl

export_due-moves : (to : ℕ → ℕ) (name : List ℕ) (types : List TypeTree) (block : ℕ) (parts : List RunPart) → export_due name types (to block) (moved_parts to parts) ≡ moved_next to (export_due name types block parts)
export_due-moves to name types block [] = if-stays to (may_export name types) (Returns (last_or tree.VoidType types)) (Halt (Error 33)) refl refl
export_due-moves to name types block (set ∷ []) = refl
export_due-moves to name types block (set ∷ body ∷ more) = body-moves to (last_or tree.VoidType types) body

-- the tree of a form, and the same one where its node has another number
pub record Stands (to : ℕ → ℕ) (here other : Forest Entry) (n : ℕ) : Type 0 where
  pub root : to 0 ≡ 0
  pub same : SayTheSame here other
  pub fits : Fits to n here

child_kind-same : (to : ℕ → ℕ) (here other : Forest Entry) (n : ℕ) → Stands to here other n → (child : ℕ) → kind_of (child_tree other (to n) (to child)) ≡ kind_of (child_tree here n child)
child_kind-same to here other n s child = kind-same (child_tree here n child) (child_tree other (to n) (to child)) (child-moves to here other s.same n s.fits child).0

signature-moves : (to : ℕ → ℕ) (here other : Forest Entry) (n : ℕ) → Stands to here other n → VisitsMove to (λ child. signature_visit here n child) (λ child. signature_visit other (to n) child)
signature-moves to here other n s child =
    ap (λ (found : NodeKind). elim found [ kind.Parameter ↦ Visit (to child) None | _ ↦ VisitKnown (to child) (Some tree.TypeType) ]) (child_kind-same to here other n s child)
    ∙ by_kind (kind_of (child_tree here n child))
  where
    by_kind : (found : NodeKind) → (elim found [ kind.Parameter ↦ Visit (to child) None | _ ↦ VisitKnown (to child) (Some tree.TypeType) ])
        ≡ moved_next to (elim found [ kind.Parameter ↦ Visit child None | _ ↦ VisitKnown child (Some tree.TypeType) ])
    by_kind kind.Parameter = refl
    by_kind _ = refl

outside-moves : (to : ℕ → ℕ) (here other : Forest Entry) (n : ℕ) → Stands to here other n → (signature : List ℕ) (parts : List RunPart) →
    outside_rule other (to n) (map to signature) (moved_parts to parts) ≡ moved_next to (outside_rule here n signature parts)
outside-moves to here other n s signature parts =
    each_then-moves to (λ child. signature_visit here n child) (λ child. signature_visit other (to n) child)
    (λ more. outside_due (declared_name here) n (of_parts (first_parts signature parts))) (λ more. outside_due (declared_name other) (to n) (of_parts (first_parts (map to signature) (moved_parts to parts))))
    (signature-moves to here other n s)
    (λ more.
    ap (λ (name : List ℕ). outside_due name (to n) (of_parts (first_parts (map to signature) (moved_parts to parts)))) (declared_name-same here other s.same)
    ∙ ap (λ (types : List TypeTree). outside_due (declared_name here) (to n) types) (types-stay to signature parts)
    ∙ outside_due-moves to (declared_name here) n (of_parts (first_parts signature parts)))
    signature parts

export-moves : (to : ℕ → ℕ) (here other : Forest Entry) (n : ℕ) → Stands to here other n → (signature : List ℕ) (block : ℕ) (parts : List RunPart) →
    export_rule other (to n) (map to signature) (to block) (moved_parts to parts) ≡ moved_next to (export_rule here n signature block parts)
export-moves to here other n s signature block parts =
    each_then-moves to (λ child. signature_visit here n child) (λ child. signature_visit other (to n) child)
    (λ more. export_due (declared_name here) (of_parts (first_parts signature parts)) block more) (λ more. export_due (declared_name other) (of_parts (first_parts (map to signature) (moved_parts to parts))) (to block) more)
    (signature-moves to here other n s)
    (λ more.
    ap (λ (name : List ℕ). export_due name (of_parts (first_parts (map to signature) (moved_parts to parts))) (to block) (moved_parts to more)) (declared_name-same here other s.same)
    ∙ ap (λ (types : List TypeTree). export_due (declared_name here) types (to block) (moved_parts to more)) (types-stay to signature parts)
    ∙ export_due-moves to (declared_name here) (of_parts (first_parts signature parts)) block more)
    signature parts

-- an export, with the forms below it
forms-export : (to : ℕ → ℕ) (here other : Forest Entry) (n : ℕ) → Stands to here other n → (parts : List RunPart) →
    export_rule other (to n) (before_last (forms_below other (to n))) (last_or (to n) (forms_below other (to n))) (moved_parts to parts)
    ≡ moved_next to (export_rule here n (before_last (forms_below here n)) (last_or n (forms_below here n)) parts)
forms-export to here other n s parts =
    ap (λ (forms : List ℕ). export_rule other (to n) (before_last forms) (last_or (to n) forms) (moved_parts to parts)) (forms-move to here other s.same n s.fits)
    ∙ ap (λ (signature : List ℕ). export_rule other (to n) signature (last_or (to n) (map to (forms_below here n))) (moved_parts to parts)) (before-moves to (forms_below here n))
    ∙ ap (λ (block : ℕ). export_rule other (to n) (map to (before_last (forms_below here n))) block (moved_parts to parts)) (last-moves to n (forms_below here n))
    ∙ export-moves to here other n s (before_last (forms_below here n)) (last_or n (forms_below here n)) parts

forms-outside : (to : ℕ → ℕ) (here other : Forest Entry) (n : ℕ) → Stands to here other n → (parts : List RunPart) →
    outside_rule other (to n) (forms_below other (to n)) (moved_parts to parts) ≡ moved_next to (outside_rule here n (forms_below here n) parts)
forms-outside to here other n s parts =
    ap (λ (forms : List ℕ). outside_rule other (to n) forms (moved_parts to parts)) (forms-move to here other s.same n s.fits) ∙ outside-moves to here other n s (forms_below here n) parts

plain_function-moves : (to : ℕ → ℕ) (here other : Forest Entry) (n : ℕ) → Stands to here other n → (parts : List RunPart) → plain_function_rule other (to n) (moved_parts to parts) ≡ moved_next to (plain_function_rule here n parts)
plain_function-moves to here other n s parts =
    ap (λ (outside : Bool). elim outside [ true ↦ out | false ↦ elim (has other is_export_word) [ true ↦ in_export | false ↦ Halt (Error 36) ] ]) (has-same here other s.same is_extern_word)
    ∙ ap (λ (export : Bool). elim (has here is_extern_word) [ true ↦ out | false ↦ elim export [ true ↦ in_export | false ↦ Halt (Error 36) ] ]) (has-same here other s.same is_export_word)
    ∙ by_words (has here is_extern_word) (has here is_export_word)
  where
    out : Next TypedNode
    out = outside_rule other (to n) (forms_below other (to n)) (moved_parts to parts)

    in_export : Next TypedNode
    in_export = export_rule other (to n) (before_last (forms_below other (to n))) (last_or (to n) (forms_below other (to n))) (moved_parts to parts)

    by_words : (outside export : Bool) → (elim outside [ true ↦ out | false ↦ elim export [ true ↦ in_export | false ↦ Halt (Error 36) ] ])
        ≡ moved_next to (elim outside [ true ↦ outside_rule here n (forms_below here n) parts | false ↦ elim export [ true ↦ export_rule here n (before_last (forms_below here n)) (last_or n (forms_below here n)) parts | false ↦ Halt (Error 36) ] ])
    by_words true export = forms-outside to here other n s parts
    by_words false true = forms-export to here other n s parts
    by_words false false = refl

function-moves : (to : ℕ → ℕ) (here other : Forest Entry) (n : ℕ) → Stands to here other n → (parts : List RunPart) → function_rule other (to n) (moved_parts to parts) ≡ moved_next to (function_rule here n parts)
function-moves to here other n s parts =
    ap (λ (inferred : Bool). elim inferred [ true ↦ Halt (Error 36) | false ↦ plain_function_rule other (to n) (moved_parts to parts) ]) (has-same here other s.same is_inferred_word)
    ∙ by_word (has here is_inferred_word)
  where
    by_word : (inferred : Bool) → (elim inferred [ true ↦ Halt (Error 36) | false ↦ plain_function_rule other (to n) (moved_parts to parts) ])
        ≡ moved_next to (elim inferred [ true ↦ Halt (Error 36) | false ↦ plain_function_rule here n parts ])
    by_word true = refl
    by_word false = plain_function-moves to here other n s parts

plain_parameter-moves : (to : ℕ → ℕ) (name : List ℕ) (types : List ℕ) (parts : List RunPart) → plain_parameter_rule name (map to types) (moved_parts to parts) ≡ moved_next to (plain_parameter_rule name types parts)
plain_parameter-moves to name [] parts = refl
plain_parameter-moves to name (ty ∷ []) [] = refl
plain_parameter-moves to name (ty ∷ []) (t ∷ []) = ap (λ (named : TypeTree). Bind name named) (named-stays to t)
plain_parameter-moves to name (ty ∷ []) (t ∷ bound ∷ more) = refl
plain_parameter-moves to name (ty ∷ other ∷ types) parts = refl

parameter-moves : (to : ℕ → ℕ) (here other : Forest Entry) (n : ℕ) → Stands to here other n → (types : List ℕ) (parts : List RunPart) → parameter_rule other (map to types) (moved_parts to parts) ≡ moved_next to (parameter_rule here types parts)
parameter-moves to here other n s types parts =
    ap (λ (word : Bool). elim word [ true ↦ Halt (Error 36) | false ↦ plain_parameter_rule (declared_name other) (map to types) (moved_parts to parts) ]) (has-same here other s.same is_comptime_word)
    ∙ ap (λ (name : List ℕ). elim (has here is_comptime_word) [ true ↦ Halt (Error 36) | false ↦ plain_parameter_rule name (map to types) (moved_parts to parts) ]) (declared_name-same here other s.same)
    ∙ by_word (has here is_comptime_word)
  where
    by_word : (word : Bool) → (elim word [ true ↦ Halt (Error 36) | false ↦ plain_parameter_rule (declared_name here) (map to types) (moved_parts to parts) ])
        ≡ moved_next to (elim word [ true ↦ Halt (Error 36) | false ↦ plain_parameter_rule (declared_name here) types parts ])
    by_word true = refl
    by_word false = plain_parameter-moves to (declared_name here) types parts

-- ---- statements

statement-moves : (to : ℕ → ℕ) (here other : Forest Entry) (n : ℕ) → Stands to here other n → VisitsMove to (λ child. statement here n child) (λ child. statement other (to n) child)
statement-moves to here other n s child =
    ap (λ (found : NodeKind). if is_built found then Visit (to child) None else HaltAt (to child) (Error 36)) (child_kind-same to here other n s child)
    ∙ if-moves to (is_built (kind_of (child_tree here n child))) (Visit child None) (HaltAt child (Error 36)) (Visit (to child) None) (HaltAt (to child) (Error 36)) refl refl

last_part-moves : (to : ℕ → ℕ) (part : RunPart) (parts : List RunPart) → last_or (moved_part to part) (moved_parts to parts) ≡ moved_part to (last_or part parts)
last_part-moves to part [] = refl
last_part-moves to part (p ∷ []) = refl
last_part-moves to part (p ∷ q ∷ more) = last_part-moves to p (q ∷ more)

block_type-stays : (to : ℕ → ℕ) (parts : List RunPart) → block_type (moved_parts to parts) ≡ block_type parts
block_type-stays to parts = ap (λ (part : RunPart). elim (is_no_return part.ty) [ true ↦ tree.NoReturnType | false ↦ tree.VoidType ]) (last_part-moves to nothing parts)

block_due-moves : (to : ℕ → ℕ) (parts : List RunPart) → block_due (moved_parts to parts) ≡ moved_next to (block_due parts)
block_due-moves to parts =
    ap (λ (ty : TypeTree). Emit InOrder ty (all_alone (moved_parts to parts))) (block_type-stays to parts) ∙ ap (λ (os : List (Operand TypedNode)). Emit InOrder (block_type parts) os) (alone-moves to parts)

-- the parts that were looked at, with one more
due-append : (to : ℕ → ℕ) (done : List RunPart) (part : RunPart) → block_due (moved_parts to done ++ moved_part to part ∷ []) ≡ moved_next to (block_due (done ++ part ∷ []))
due-append to done part = ap (λ (ps : List RunPart). block_due ps) (sym (append-moves to done part)) ∙ block_due-moves to (done ++ part ∷ [])

block-moves : (to : ℕ → ℕ) (visit along : ℕ → Next TypedNode) → VisitsMove to visit along → (done : List RunPart) (ns : List ℕ) (parts : List RunPart) →
    block_from along (moved_parts to done) (map to ns) (moved_parts to parts) ≡ moved_next to (block_from visit done ns parts)
block-moves to visit along v done [] [] = block_due-moves to done
block-moves to visit along v done [] (result ∷ more) = refl
block-moves to visit along v done (n ∷ ns) [] = v n
block-moves to visit along v done (n ∷ ns) (part ∷ more) =
    by_type (is_no_return part.ty) (is_used_up part.ty) more
    (ap (λ (ps : List RunPart). block_from along ps (map to ns) (moved_parts to more)) (sym (append-moves to done part)) ∙ block-moves to visit along v (done ++ part ∷ []) ns more)
  where
    by_type : (ends used : Bool) (others : List RunPart) →
        block_from along (moved_parts to done ++ moved_part to part ∷ []) (map to ns) (moved_parts to more) ≡ moved_next to (block_from visit (done ++ part ∷ []) ns more) →
        (elim ends [
          | true ↦ elim (moved_parts to others) [ [] ↦ block_due (moved_parts to done ++ moved_part to part ∷ []) | result ∷ _ ↦ Done result ]
          | false ↦ elim used [ true ↦ block_from along (moved_parts to done ++ moved_part to part ∷ []) (map to ns) (moved_parts to more) | false ↦ HaltAt (to n) (Error 28) ]
        ])
        ≡ moved_next to (elim ends [
          | true ↦ elim others [ [] ↦ block_due (done ++ part ∷ []) | result ∷ _ ↦ Done result ]
          | false ↦ elim used [ true ↦ block_from visit (done ++ part ∷ []) ns more | false ↦ HaltAt n (Error 28) ]
        ])
    by_type true used [] later = due-append to done part
    by_type true used (result ∷ others) later = refl
    by_type false true others later = later
    by_type false false others later = refl

returned-moves : (to : ℕ → ℕ) (ty : TypeTree) (value : RunPart) → returned ty (moved_part to value) ≡ moved_next to (returned ty value)
returned-moves to ty value = refl

return-moves : (to : ℕ → ℕ) (values : List ℕ) (parts : List RunPart) → return_rule (map to values) (moved_parts to parts) ≡ moved_next to (return_rule values parts)
return-moves to [] [] = refl
return-moves to (value ∷ others) [] = refl
return-moves to [] (t ∷ []) = ap (λ (ty : TypeTree). returned {N = TypedNode} ty nothing) (named-stays to t)
return-moves to [] (t ∷ result ∷ more) = refl
return-moves to (value ∷ others) (t ∷ []) = ap (λ (ty : TypeTree). Visit (to value) (Some ty)) (named-stays to t)
return-moves to (value ∷ others) (t ∷ v ∷ []) = ap (λ (ty : TypeTree). returned ty (moved_part to v)) (named-stays to t)
return-moves to (value ∷ others) (t ∷ v ∷ result ∷ more) = refl

-- ---- calls

-- a function has the same name by its other number
abbrev pub NamesStay : (ℕ → ℕ) → Forest Entry → Forest Entry → Type 0
NamesStay to forest other = (m : ℕ) → member_name other (to m) ≡ member_name forest m

import-moves : (to : ℕ → ℕ) (forest other : Forest Entry) → NamesStay to forest other → (f : ValueTree) (params : List TypeTree) (result : TypeTree) → import_of other (moved_value to f) params result ≡ import_of forest f params result
import-moves to forest other names (tree.FuncValue file k captures) params result = ap (λ (name : List ℕ). record { name = name; params = params; result = result }) (names k)
import-moves to forest other names _ params result = refl

call_due-moves : (to : ℕ → ℕ) (import : Import) (args : List RunPart) → call_due import (moved_parts to args) ≡ moved_next to (call_due import args)
call_due-moves to import args =
    ap (λ (n : ℕ). if nat_eq n (length import.params) then Emit (CallHost import) import.result (all_alone (moved_parts to args)) else Halt (Error 18)) (length-stays to args)
    ∙ if-moves to (nat_eq (length args) (length import.params)) (Emit (CallHost import) import.result (all_alone args)) (Halt (Error 18))
    (Emit (CallHost import) import.result (all_alone (moved_parts to args))) (Halt (Error 18)) (ap (λ (os : List (Operand TypedNode)). Emit (CallHost import) import.result os) (alone-moves to args)) refl

arguments-move : (to : ℕ → ℕ) (import : Import) (ns : List ℕ) (types : List TypeTree) (done parts : List RunPart) →
    arguments import (map to ns) types (moved_parts to done) (moved_parts to parts) ≡ moved_next to (arguments import ns types done parts)
arguments-move to import [] types done [] = call_due-moves to import done
arguments-move to import [] types done (result ∷ more) = refl
arguments-move to import (n ∷ ns) [] done [] = refl
arguments-move to import (n ∷ ns) (ty ∷ types) done [] = refl
arguments-move to import (n ∷ ns) [] done (part ∷ more) =
    ap (λ (ps : List RunPart). arguments import (map to ns) [] ps (moved_parts to more)) (sym (append-moves to done part)) ∙ arguments-move to import ns [] (done ++ part ∷ []) more
arguments-move to import (n ∷ ns) (ty ∷ types) done (part ∷ more) =
    ap (λ (ps : List RunPart). arguments import (map to ns) types ps (moved_parts to more)) (sym (append-moves to done part)) ∙ arguments-move to import ns types (done ++ part ∷ []) more

call_of-moves : (to : ℕ → ℕ) (forest other : Forest Entry) → NamesStay to forest other → (args : List ℕ) (ty : TypeTree) (known : Option ValueTree) (parts : List RunPart) →
    call_of other (map to args) ty (moved_known to known) (moved_parts to parts) ≡ moved_next to (call_of forest args ty known parts)
call_of-moves to forest other names args (tree.FuncType params result comptime true) (Some f) parts =
    ap (λ (import : Import). arguments import (map to args) (wanted_types params) [] (moved_parts to parts)) (import-moves to forest other names f (wanted_types params) (result_of result))
    ∙ arguments-move to (import_of forest f (wanted_types params) (result_of result)) args (wanted_types params) [] parts
call_of-moves to forest other names args (tree.FuncType params result comptime true) None parts = refl
call_of-moves to forest other names args (tree.FuncType params result comptime false) known parts = refl
call_of-moves to forest other names args _ known parts = refl

call-moves : (to : ℕ → ℕ) (forest other : Forest Entry) → NamesStay to forest other → (args : List ℕ) (parts : List RunPart) → call_rule other (map to args) (moved_parts to parts) ≡ moved_next to (call_rule forest args parts)
call-moves to forest other names [] parts = refl
call-moves to forest other names (callee ∷ args) [] = refl
call-moves to forest other names (callee ∷ args) (f ∷ parts) = call_of-moves to forest other names args f.ty f.known parts

-- ---- all of them

abbrev pub someone : Next TypedNode → Option (Next TypedNode)
someone next = Some next

pub declaration-moves : (to : ℕ → ℕ) (forest other : Forest Entry) → NamesStay to forest other → (here there : Forest Entry) (n : ℕ) → Stands to here there n → (outer : Option NodeKind) (kind : NodeKind) (parts : List RunPart) →
    declaration_rule other there outer kind (to n) (moved_parts to parts) ≡ moved_rule to (declaration_rule forest here outer kind n parts)
declaration-moves to forest other names here there n s outer kind.Function parts = ap (λ (next : Next TypedNode). someone next) (function-moves to here there n s parts)
declaration-moves to forest other names here there n s outer kind.Parameter parts =
    ap (λ (forms : List ℕ). someone (parameter_rule there forms (moved_parts to parts))) (forms-move to here there s.same n s.fits)
    ∙ ap (λ (next : Next TypedNode). someone next) (parameter-moves to here there n s (forms_below here n) parts)
declaration-moves to forest other names here there n s outer kind.Const parts =
    ap (λ (forms : List ℕ). someone (constant_rule forms (moved_parts to parts))) (forms-move to here there s.same n s.fits)
    ∙ ap (λ (next : Next TypedNode). someone next) (constant-moves to (forms_below here n) parts)
declaration-moves to forest other names here there n s outer kind.Block parts =
    ap (λ (forms : List ℕ). someone (block_rule there (to n) forms (moved_parts to parts))) (forms-move to here there s.same n s.fits)
    ∙ ap (λ (next : Next TypedNode). someone next)
    (block-moves to (λ child. statement here n child) (λ child. statement there (to n) child) (statement-moves to here there n s) [] (forms_below here n) parts)
declaration-moves to forest other names here there n s outer kind.Return parts =
    ap (λ (forms : List ℕ). someone (elim (is_statement_of outer) [ true ↦ return_rule forms (moved_parts to parts) | false ↦ Halt (Error 36) ])) (forms-move to here there s.same n s.fits)
    ∙ by_outer (is_statement_of outer)
  where
    by_outer : (statement : Bool) → someone (elim statement [ true ↦ return_rule (map to (forms_below here n)) (moved_parts to parts) | false ↦ Halt (Error 36) ])
        ≡ moved_rule to (someone (elim statement [ true ↦ return_rule (forms_below here n) parts | false ↦ Halt (Error 36) ]))
    by_outer true = ap (λ (next : Next TypedNode). someone next) (return-moves to (forms_below here n) parts)
    by_outer false = refl
declaration-moves to forest other names here there n s outer kind.Call parts =
    ap (λ (forms : List ℕ). someone (call_rule other forms (moved_parts to parts))) (forms-move to here there s.same n s.fits)
    ∙ ap (λ (next : Next TypedNode). someone next) (call-moves to forest other names (forms_below here n) parts)
declaration-moves to forest other names here there n s outer _ parts = refl
