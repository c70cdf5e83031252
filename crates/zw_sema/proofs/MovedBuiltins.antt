-- What the rules of builtins ask for where nodes have other numbers, and so those of all scalar forms: the same, of the nodes with these numbers.
use Rattle.std.proofs.Common.{◌≡◌, refl, ℕ, ℤ, Bool, true, false, List, [], ◌∷◌, ◌++◌, Option, Some, None, ap, sym, ◌∙◌}
use Rattle.std.specs.Prelude.{if◌then◌else◌, not, ◌&&◌, map, length}
use Rattle.std.proofs.lemmas.List.{length-map}
use Rattle.zw_base.specs.declared.stop.StopKind.TheVariants.{Error}
use Rattle.zw_tree.specs.declared.ast.Entry.{Entry}
use Rattle.zw_tree.specs.declared.kind.NodeKind.{NodeKind}
use Rattle.zw_tree.specs.declared.kind.NodeKind.TheVariants as kind
use Rattle.zw_num.specs.declared.operator.Operator.{Operator}
use Rattle.zw_types.specs.TypeTrees as tree
use Rattle.zw_types.specs.TypeTrees.{TypeTree, ValueTree}
use Rattle.zw_values.specs.Coercions.{peer_of_all}
use Rattle.zw_typed.specs.Nodes.{And, Or}
use Rattle.zw_typed.specs.Nodes.{TypedNode}
use Rattle.zw_env.specs.Parts.{Operand, Next, Visit, VisitUnevaluated, Operation, Raise, Done, Halt, a_value, in_type, alone, is_lost}
use Rattle.zw_forms_scalar.specs.Operators.{is_integer, logic_rule}
use Rattle.zw_forms_scalar.specs.Builtins.{size_part, align_part, bit_size_part, Builtin, AsType, TypeOf, SizeOf, AlignOf, BitSizeOf, Casts, OnOwn, InPeer, InPeers, InShift, Quota, builtins, builtin_in, takes, named_type, on_type, is_kept, as_due, as_rule, measure_rule, cast_rule, own_rule, peer_rule, shift_rule, all_then, types_of, all_integers, all_in, peer_part, in_peers, peers_due, quota_due, quota_rule, operand, builtin_on, builtin_rule}
use Rattle.zw_forms_scalar.specs.ScalarRules.{literal, named_part, plain_name, passed_on, scalar_rule}
use Rattle.zw_sema.specs.Walk.{RunPart}
use Rattle.zw_sema.proofs.MovedValues.{moved_value, moved_known, moved_part, moved_parts}
use Rattle.zw_sema.proofs.MovedRules.{Stays, append-moves, arithmetic-moves, if-moves, literal-stays, logic-moves, lost-stays, moved_next, moved_operands, named_part-moves, named_type-stays, operand-moves, operator-moves, passed-moves, plain_name-moves, shifting-moves}

-- ---- builtins

as_due-moves : (to : ℕ → ℕ) (wanted : Option TypeTree) (v : RunPart) → as_due wanted (moved_part to v) ≡ moved_next to (as_due wanted v)
as_due-moves to wanted v =
    ap (λ (lost : Bool). if lost && not (is_kept wanted) then Halt (Error 16) else Done (moved_part to v)) (lost-stays to v)
    ∙ if-moves to (is_lost v && not (is_kept wanted)) (Halt (Error 16)) (Done v) (Halt (Error 16)) (Done (moved_part to v)) refl refl

as-moves : (to : ℕ → ℕ) (ty value : ℕ) (parts : List RunPart) → as_rule (to ty) (to value) (moved_parts to parts) ≡ moved_next to (as_rule ty value parts)
as-moves to ty value [] = refl
as-moves to ty value (t ∷ []) = ap (λ (wanted : Option TypeTree). Visit (to value) wanted) (named_type-stays to t)
as-moves to ty value (t ∷ v ∷ more) = ap (λ (wanted : Option TypeTree). as_due wanted (moved_part to v)) (named_type-stays to t) ∙ as_due-moves to (named_type t) v

abbrev pub AllMeasured : (ℕ → ℕ) → (TypeTree → Next TypedNode) → Type 0
AllMeasured to f = (ty : TypeTree) → Stays to (f ty)

size-stays : (to : ℕ → ℕ) → AllMeasured to size_part
size-stays to (tree.IntType signed bits size) = refl
size-stays to tree.BoolType = refl
size-stays to tree.VoidType = refl
size-stays to tree.ComptimeIntType = refl
size-stays to tree.TypeType = refl
size-stays to _ = refl

align-stays : (to : ℕ → ℕ) → AllMeasured to align_part
align-stays to (tree.IntType signed bits size) = refl
align-stays to tree.BoolType = refl
align-stays to tree.VoidType = refl
align-stays to _ = refl

bits-stay : (to : ℕ → ℕ) → AllMeasured to bit_size_part
bits-stay to (tree.IntType signed bits size) = refl
bits-stay to tree.BoolType = refl
bits-stay to _ = refl

on_type-moves : (to : ℕ → ℕ) (f : TypeTree → Next TypedNode) → AllMeasured to f → (part : RunPart) → on_type f (moved_part to part) ≡ moved_next to (on_type f part)
on_type-moves to f each part = ap (λ (found : Option TypeTree). elim found [ None ↦ Halt (Error 20) | Some ty ↦ f ty ]) (named_type-stays to part) ∙ by_found (named_type part)
  where
    by_found : (found : Option TypeTree) → Stays to (elim found [ None ↦ Halt (Error 20) | Some ty ↦ f ty ])
    by_found None = refl
    by_found (Some ty) = each ty

measure-moves : (to : ℕ → ℕ) (f : TypeTree → Next TypedNode) → AllMeasured to f → (ty : ℕ) (parts : List RunPart) → measure_rule f (to ty) (moved_parts to parts) ≡ moved_next to (measure_rule f ty parts)
measure-moves to f each ty [] = refl
measure-moves to f each ty (t ∷ more) = on_type-moves to f each t

cast-moves : (to : ℕ → ℕ) (name : Operator) (can : TypeTree → TypeTree → Bool) (wanted : Option TypeTree) (child : ℕ) (parts : List RunPart) →
    cast_rule name can wanted (to child) (moved_parts to parts) ≡ moved_next to (cast_rule name can wanted child parts)
cast-moves to name can None child parts = refl
cast-moves to name can (Some ty) child [] = refl
cast-moves to name can (Some ty) child (a ∷ []) =
    if-moves to (is_integer ty && can a.ty ty) (Operation name ty (alone a ∷ [])) (Halt (Error 20)) (Operation name ty (alone (moved_part to a) ∷ [])) (Halt (Error 20)) refl refl
cast-moves to name can (Some ty) child (a ∷ result ∷ more) = refl

own-moves : (to : ℕ → ℕ) (name : Operator) (result_of : TypeTree → Option TypeTree) (child : ℕ) (parts : List RunPart) → own_rule name result_of (to child) (moved_parts to parts) ≡ moved_next to (own_rule name result_of child parts)
own-moves to name result_of child [] = refl
own-moves to name result_of child (a ∷ []) = by_found (result_of a.ty)
  where
    by_found : (found : Option TypeTree) → (elim found [ None ↦ Halt (Error 20) | Some ty ↦ Operation name ty (alone (moved_part to a) ∷ []) ]) ≡ moved_next to (elim found [ None ↦ Halt (Error 20) | Some ty ↦ Operation name ty (alone a ∷ []) ])
    by_found None = refl
    by_found (Some ty) = refl
own-moves to name result_of child (a ∷ result ∷ more) = refl

peer-moves : (to : ℕ → ℕ) (name : Operator) (left right : ℕ) (parts : List RunPart) → peer_rule name (to left) (to right) (moved_parts to parts) ≡ moved_next to (peer_rule name left right parts)
peer-moves to name left right [] = refl
peer-moves to name left right (a ∷ []) = refl
peer-moves to name left right (a ∷ b ∷ []) = arithmetic-moves to name a b
peer-moves to name left right (a ∷ b ∷ result ∷ more) = refl

shift-moves : (to : ℕ → ℕ) (name : Operator) (left right : ℕ) (parts : List RunPart) → shift_rule name (to left) (to right) (moved_parts to parts) ≡ moved_next to (shift_rule name left right parts)
shift-moves to name left right [] = refl
shift-moves to name left right (a ∷ []) = refl
shift-moves to name left right (a ∷ b ∷ []) = shifting-moves to name a b
shift-moves to name left right (a ∷ b ∷ result ∷ more) = refl

-- what is visited, and what is due on parts
abbrev pub VisitsMove : (ℕ → ℕ) → (ℕ → Next TypedNode) → (ℕ → Next TypedNode) → Type 0
VisitsMove to visit along = (n : ℕ) → along (to n) ≡ moved_next to (visit n)

abbrev pub DuesMove : (ℕ → ℕ) → (List RunPart → Next TypedNode) → (List RunPart → Next TypedNode) → Type 0
DuesMove to due along = (parts : List RunPart) → along (moved_parts to parts) ≡ moved_next to (due parts)

all_then-moves : (to : ℕ → ℕ) (visit along : ℕ → Next TypedNode) (due owed : List RunPart → Next TypedNode) → VisitsMove to visit along → DuesMove to due owed → (operands : List ℕ) (parts more : List RunPart) →
    all_then along owed (map to operands) (moved_parts to parts) (moved_parts to more) ≡ moved_next to (all_then visit due operands parts more)
all_then-moves to visit along due owed v d [] parts [] = d parts
all_then-moves to visit along due owed v d [] parts (result ∷ more) = refl
all_then-moves to visit along due owed v d (n ∷ operands) parts [] = v n
all_then-moves to visit along due owed v d (n ∷ operands) parts (part ∷ more) =
    ap (λ (ps : List RunPart). all_then along owed (map to operands) ps (moved_parts to more)) (sym (append-moves to parts part))
    ∙ all_then-moves to visit along due owed v d operands (parts ++ part ∷ []) more

types-stay : (to : ℕ → ℕ) (parts : List RunPart) → types_of (moved_parts to parts) ≡ types_of parts
types-stay to [] = refl
types-stay to (part ∷ parts) = ap (λ (types : List TypeTree). part.ty ∷ types) (types-stay to parts)

all_integers-stays : (to : ℕ → ℕ) (parts : List RunPart) → all_integers (moved_parts to parts) ≡ all_integers parts
all_integers-stays to [] = refl
all_integers-stays to (part ∷ parts) = ap (λ (later : Bool). is_integer part.ty && later) (all_integers-stays to parts)

all_in-moves : (to : ℕ → ℕ) (ty : TypeTree) (parts : List RunPart) → all_in ty (moved_parts to parts) ≡ moved_operands to (all_in ty parts)
all_in-moves to ty [] = refl
all_in-moves to ty (part ∷ parts) = ap (λ (os : List (Operand TypedNode)). in_type ty (moved_part to part) ∷ os) (all_in-moves to ty parts)

peer_part-stays : (to : ℕ → ℕ) (types : List TypeTree) → Stays to (peer_part types)
peer_part-stays to [] = refl
peer_part-stays to (ty ∷ types) = by_peer (peer_of_all ty types)
  where
    by_peer : (found : Option TypeTree) → Stays to (elim found [ None ↦ Halt (Error 14) | Some peer ↦ Done (a_value tree.TypeType (tree.TypeValue peer)) ])
    by_peer None = refl
    by_peer (Some peer) = refl

type_of-moves : (to : ℕ → ℕ) → DuesMove to (λ all. peer_part (types_of all)) (λ all. peer_part (types_of all))
type_of-moves to parts = ap (λ (types : List TypeTree). peer_part {N = TypedNode} types) (types-stay to parts) ∙ peer_part-stays to (types_of parts)

in_peers-moves : (to : ℕ → ℕ) (name : Operator) (parts : List RunPart) (types : List TypeTree) → in_peers name (moved_parts to parts) types ≡ moved_next to (in_peers name parts types)
in_peers-moves to name parts [] = refl
in_peers-moves to name parts (ty ∷ types) = by_peer (peer_of_all ty types)
  where
    by_peer : (found : Option TypeTree) → (elim found [ None ↦ Halt (Error 14) | Some peer ↦ Operation name peer (all_in peer (moved_parts to parts)) ])
        ≡ moved_next to (elim found [ None ↦ Halt (Error 14) | Some peer ↦ Operation name peer (all_in peer parts) ])
    by_peer None = refl
    by_peer (Some peer) = ap (λ (os : List (Operand TypedNode)). Operation name peer os) (all_in-moves to peer parts)

peers-move : (to : ℕ → ℕ) (name : Operator) → DuesMove to (λ all. peers_due name all) (λ all. peers_due name all)
peers-move to name parts =
    ap (λ (fine : Bool). if fine then in_peers name (moved_parts to parts) (types_of (moved_parts to parts)) else Halt (Error 20)) (all_integers-stays to parts)
    ∙ ap (λ (types : List TypeTree). if all_integers parts then in_peers name (moved_parts to parts) types else Halt (Error 20)) (types-stay to parts)
    ∙ if-moves to (all_integers parts) (in_peers name parts (types_of parts)) (Halt (Error 20)) (in_peers name (moved_parts to parts) (types_of parts)) (Halt (Error 20)) (in_peers-moves to name parts (types_of parts)) refl

quota_due-moves : (to : ℕ → ℕ) (part : RunPart) → quota_due (moved_part to part) ≡ moved_next to (quota_due part)
quota_due-moves to part = by_known part.known
  where
    by_known : (known : Option ValueTree) → (elim (moved_known to known) [ None ↦ Halt (Error 16) | Some v ↦ if is_integer part.ty then Raise v else Halt (Error 20) ])
        ≡ moved_next to (elim known [ None ↦ Halt (Error 16) | Some v ↦ if is_integer part.ty then Raise v else Halt (Error 20) ])
    by_known None = refl
    by_known (Some v) = if-moves to (is_integer part.ty) (Raise v) (Halt (Error 20)) (Raise (moved_value to v)) (Halt (Error 20)) refl refl

quota-moves : (to : ℕ → ℕ) (child : ℕ) (parts : List RunPart) → quota_rule (to child) (moved_parts to parts) ≡ moved_next to (quota_rule child parts)
quota-moves to child [] = refl
quota-moves to child (part ∷ []) = quota_due-moves to part
quota-moves to child (part ∷ raised ∷ more) = refl

-- a rule of one operand, and of two
abbrev pub OfOne : (ℕ → ℕ) → (ℕ → List RunPart → Next TypedNode) → Type 0
OfOne to rule = (child : ℕ) (parts : List RunPart) → rule (to child) (moved_parts to parts) ≡ moved_next to (rule child parts)

abbrev pub OfTwo : (ℕ → ℕ) → (ℕ → ℕ → List RunPart → Next TypedNode) → Type 0
OfTwo to rule = (left right : ℕ) (parts : List RunPart) → rule (to left) (to right) (moved_parts to parts) ≡ moved_next to (rule left right parts)

on_first : (to : ℕ → ℕ) → to 0 ≡ 0 → (rule : ℕ → List RunPart → Next TypedNode) → OfOne to rule → (operands : List ℕ) (parts : List RunPart) →
    rule (operand (map to operands) 0) (moved_parts to parts) ≡ moved_next to (rule (operand operands 0) parts)
on_first to root rule each operands parts = ap (λ (child : ℕ). rule child (moved_parts to parts)) (operand-moves to root operands 0) ∙ each (operand operands 0) parts

on_both : (to : ℕ → ℕ) → to 0 ≡ 0 → (rule : ℕ → ℕ → List RunPart → Next TypedNode) → OfTwo to rule → (operands : List ℕ) (parts : List RunPart) →
    rule (operand (map to operands) 0) (operand (map to operands) 1) (moved_parts to parts) ≡ moved_next to (rule (operand operands 0) (operand operands 1) parts)
on_both to root rule each operands parts =
    ap (λ (left : ℕ). rule left (operand (map to operands) 1) (moved_parts to parts)) (operand-moves to root operands 0)
    ∙ ap (λ (right : ℕ). rule (to (operand operands 0)) right (moved_parts to parts)) (operand-moves to root operands 1)
    ∙ each (operand operands 0) (operand operands 1) parts

builtin_on-moves : (to : ℕ → ℕ) → to 0 ≡ 0 → (builtin : Builtin) (wanted : Option TypeTree) (operands : List ℕ) (parts : List RunPart) →
    builtin_on builtin wanted (map to operands) (moved_parts to parts) ≡ moved_next to (builtin_on builtin wanted operands parts)
builtin_on-moves to root AsType wanted operands parts = on_both to root (λ ty value ps. as_rule ty value ps) (λ ty value ps. as-moves to ty value ps) operands parts
builtin_on-moves to root TypeOf wanted operands parts =
    all_then-moves to (λ n. VisitUnevaluated n None) (λ n. VisitUnevaluated n None) (λ all. peer_part (types_of all)) (λ all. peer_part (types_of all)) (λ n. refl) (type_of-moves to) operands [] parts
builtin_on-moves to root SizeOf wanted operands parts = on_first to root (λ ty ps. measure_rule size_part ty ps) (λ ty ps. measure-moves to size_part (size-stays to) ty ps) operands parts
builtin_on-moves to root AlignOf wanted operands parts = on_first to root (λ ty ps. measure_rule align_part ty ps) (λ ty ps. measure-moves to align_part (align-stays to) ty ps) operands parts
builtin_on-moves to root BitSizeOf wanted operands parts = on_first to root (λ ty ps. measure_rule bit_size_part ty ps) (λ ty ps. measure-moves to bit_size_part (bits-stay to) ty ps) operands parts
builtin_on-moves to root (Casts name can) wanted operands parts = on_first to root (λ child ps. cast_rule name can wanted child ps) (λ child ps. cast-moves to name can wanted child ps) operands parts
builtin_on-moves to root (OnOwn name result_of) wanted operands parts = on_first to root (λ child ps. own_rule name result_of child ps) (λ child ps. own-moves to name result_of child ps) operands parts
builtin_on-moves to root (InPeer name) wanted operands parts = on_both to root (λ left right ps. peer_rule name left right ps) (λ left right ps. peer-moves to name left right ps) operands parts
builtin_on-moves to root (InPeers name) wanted operands parts =
    all_then-moves to (λ n. Visit n None) (λ n. Visit n None) (λ all. peers_due name all) (λ all. peers_due name all) (λ n. refl) (peers-move to name) operands [] parts
builtin_on-moves to root (InShift name) wanted operands parts = on_both to root (λ left right ps. shift_rule name left right ps) (λ left right ps. shift-moves to name left right ps) operands parts
builtin_on-moves to root Quota wanted operands parts = on_first to root (λ child ps. quota_rule child ps) (λ child ps. quota-moves to child ps) operands parts

builtin-moves : (to : ℕ → ℕ) → to 0 ≡ 0 → (name : List ℕ) (wanted : Option TypeTree) (operands : List ℕ) (parts : List RunPart) →
    builtin_rule name wanted (map to operands) (moved_parts to parts) ≡ moved_next to (builtin_rule name wanted operands parts)
builtin-moves to root name wanted operands parts = by_found (builtin_in builtins name)
  where
    by_count : (builtin : Builtin) (fine : Bool) → (elim fine [ true ↦ builtin_on builtin wanted (map to operands) (moved_parts to parts) | false ↦ Halt (Error 18) ])
        ≡ moved_next to (elim fine [ true ↦ builtin_on builtin wanted operands parts | false ↦ Halt (Error 18) ])
    by_count builtin true = builtin_on-moves to root builtin wanted operands parts
    by_count builtin false = refl

    by_found : (found : Option Builtin) →
        (elim found [ None ↦ Halt (Error 36) | Some builtin ↦ elim (takes builtin (length (map to operands))) [ true ↦ builtin_on builtin wanted (map to operands) (moved_parts to parts) | false ↦ Halt (Error 18) ] ])
        ≡ moved_next to (elim found [ None ↦ Halt (Error 36) | Some builtin ↦ elim (takes builtin (length operands)) [ true ↦ builtin_on builtin wanted operands parts | false ↦ Halt (Error 18) ] ])
    by_found None = refl
    by_found (Some builtin) =
        ap (λ (n : ℕ). elim (takes builtin n) [ true ↦ builtin_on builtin wanted (map to operands) (moved_parts to parts) | false ↦ Halt (Error 18) ]) (length-map operands to)
        ∙ by_count builtin (takes builtin (length operands))

-- ---- all of them

pub scalar-moves : (to : ℕ → ℕ) → to 0 ≡ 0 → (kind : NodeKind) (entry other : Entry) → other.name ≡ entry.name → other.number ≡ entry.number → (operands : List ℕ) (wanted : Option TypeTree) (parts : List RunPart) →
    scalar_rule kind other (map to operands) wanted (moved_parts to parts) ≡ moved_next to (scalar_rule kind entry operands wanted parts)
scalar-moves to root kind.Number entry other name number operands wanted parts = ap (λ (n : Option ℤ). literal {N = TypedNode} n) number ∙ literal-stays to entry.number
scalar-moves to root kind.Character entry other name number operands wanted parts = ap (λ (n : Option ℤ). literal {N = TypedNode} n) number ∙ literal-stays to entry.number
scalar-moves to root kind.Identifier entry other name number operands wanted parts = ap (λ (text : List ℕ). plain_name text (moved_parts to parts)) name ∙ plain_name-moves to entry.name parts
scalar-moves to root kind.QuotedIdentifier entry other name number operands wanted parts = ap (λ (text : List ℕ). named_part text (moved_parts to parts)) name ∙ named_part-moves to entry.name parts
scalar-moves to root kind.Parentheses entry other name number operands wanted parts = on_first to root (λ child ps. passed_on wanted child ps) (λ child ps. passed-moves to wanted child ps) operands parts
scalar-moves to root kind.And entry other name number operands wanted parts = on_both to root (λ left right ps. logic_rule And left right ps) (λ left right ps. logic-moves to And left right ps) operands parts
scalar-moves to root kind.Or entry other name number operands wanted parts = on_both to root (λ left right ps. logic_rule Or left right ps) (λ left right ps. logic-moves to Or left right ps) operands parts
scalar-moves to root kind.Builtin entry other name number operands wanted parts =
    ap (λ (text : List ℕ). builtin_rule text wanted (map to operands) (moved_parts to parts)) name ∙ builtin-moves to root entry.name wanted operands parts
scalar-moves to root other_kind entry other name number operands wanted parts = operator-moves to root other_kind operands parts
