-- What the rules of literals, names and operators ask for where nodes have other numbers: the same, of the nodes with these numbers.
use Rattle.std.proofs.Common.{◌≡◌, refl, ℕ, zero, suc, ℤ, Bool, true, false, nat_le, List, [], ◌∷◌, ◌++◌, Option, Some, None, ap, sym, ◌∙◌}
use Rattle.std.specs.Prelude.{if◌then◌else◌, not, ◌&&◌, ◌||◌, map, ◌==◌}
use Rattle.std.specs.Str.{bytes_eq}
use Rattle.zw_base.specs.declared.stop.StopKind.TheVariants.{Error, Limit}
use Rattle.zw_num.specs.declared.int_ty.IntTy.TheVariants.{Comptime}
use Rattle.zw_num.specs.Arithmetic.{is_in}
use Rattle.zw_token.specs.Names.{is_sized_name}
use Rattle.zw_token.specs.Numbers.{decimal_value}
use Rattle.zw_tree.specs.declared.kind.NodeKind.{NodeKind}
use Rattle.zw_num.specs.declared.operator.Operator.{Operator}
use Rattle.zw_types.specs.TypeTrees as tree
use Rattle.zw_types.specs.TypeTrees.{TypeTree, ValueTree}
use Rattle.zw_values.specs.Coercions.{peer_of}
use Rattle.zw_typed.specs.Nodes.{Logic, And, Or}
use Rattle.zw_typed.specs.Nodes.{TypedNode, Decide}
use Rattle.zw_env.specs.Parts.{Operand, Next, Visit, VisitKnown, VisitUnevaluated, Operation, Emit, Lookup, Bind, Returns, Raise, Done, Halt, HaltAt, a_value, alone, is_lost, is_comptime_only}
use Rattle.zw_env.specs.Parts as next
use Rattle.zw_forms_scalar.specs.Primitives.{type_part, plain_primitives, next_named, sized_primitive, primitive}
use Rattle.zw_forms_scalar.specs.Operators.{is_some, is_integer, is_truth, is_unsigned, is_comptime_int, known_is, is_zero, is_positive, is_natural, in_peer, arithmetic, division_in, division, shift_by, shifting, is_saturating_amount, saturating_shift, compared, ordering, has_equality, are_alike, equality, Family, Arithmetic, Division, Shifting, SaturatingShift, Ordering, Equality, binary_operator, right_wanted, on_operands, binary_rule, after_left, after_both, logic_rule, unary_operator, unary_rule}
use Rattle.zw_forms_scalar.specs.Builtins.{named_type, operand}
use Rattle.zw_forms_scalar.specs.ScalarRules.{literal, named_part, plain_name, passed_on, unary_or_none, operator_rule}
use Rattle.zw_sema.specs.Walk.{RunPart}
use Rattle.zw_sema.proofs.MovedValues.{moved_value, moved_known, moved_op, moved_part, moved_parts}

-- ---- what is asked for

abbrev pub moved_operands : (ℕ → ℕ) → List (Operand TypedNode) → List (Operand TypedNode)
moved_operands to [] = []
moved_operands to (o ∷ operands) = record { part = moved_part to o.part; as_type = o.as_type } ∷ moved_operands to operands

abbrev pub moved_next : (ℕ → ℕ) → Next TypedNode → Next TypedNode
moved_next to (Visit child wanted) = Visit (to child) wanted
moved_next to (VisitKnown child wanted) = VisitKnown (to child) wanted
moved_next to (VisitUnevaluated child wanted) = VisitUnevaluated (to child) wanted
moved_next to (Operation name ty operands) = Operation name ty (moved_operands to operands)
moved_next to (Emit op ty operands) = Emit (moved_op to op) ty (moved_operands to operands)
moved_next to (Lookup name) = Lookup name
moved_next to (Bind name ty) = Bind name ty
moved_next to (Returns ty) = Returns ty
moved_next to next.Result = next.Result
moved_next to (Raise value) = Raise (moved_value to value)
moved_next to (Done part) = Done (moved_part to part)
moved_next to (Halt why) = Halt why
moved_next to (HaltAt n why) = HaltAt (to n) why

abbrev pub moved_rule : (ℕ → ℕ) → Option (Next TypedNode) → Option (Next TypedNode)
moved_rule to None = None
moved_rule to (Some next) = Some (moved_next to next)

-- what doesn't speak of nodes or functions stays
abbrev pub Stays : (ℕ → ℕ) → Next TypedNode → Type 0
Stays to next = next ≡ moved_next to next

pub if-moves : (to : ℕ → ℕ) (t : Bool) (x y along other : Next TypedNode) → along ≡ moved_next to x → other ≡ moved_next to y → (if t then along else other) ≡ moved_next to (if t then x else y)
if-moves to true x y along other e d = e
if-moves to false x y along other e d = d

pub if-stays : (to : ℕ → ℕ) (t : Bool) (x y : Next TypedNode) → Stays to x → Stays to y → Stays to (if t then x else y)
if-stays to t x y e d = if-moves to t x y x y e d

pub append-moves : (to : ℕ → ℕ) (parts : List RunPart) (part : RunPart) → moved_parts to (parts ++ part ∷ []) ≡ moved_parts to parts ++ moved_part to part ∷ []
append-moves to [] part = refl
append-moves to (p ∷ parts) part = ap (λ (ps : List RunPart). moved_part to p ∷ ps) (append-moves to parts part)

-- ---- what is known of parts

pub lost-stays : (to : ℕ → ℕ) (part : RunPart) → is_lost (moved_part to part) ≡ is_lost part
lost-stays to part = by_known part.known
  where
    by_known : (known : Option ValueTree) → ◌≡◌ {A = Bool} (elim (moved_known to known) [ Some value ↦ false | None ↦ is_comptime_only part.ty ]) (elim known [ Some value ↦ false | None ↦ is_comptime_only part.ty ])
    by_known None = refl
    by_known (Some v) = refl

some-stays : (to : ℕ → ℕ) (known : Option ValueTree) → is_some (moved_known to known) ≡ is_some known
some-stays to None = refl
some-stays to (Some v) = refl

known_is-stays : (to : ℕ → ℕ) (is : ℤ → Bool) (known : Option ValueTree) → known_is is (moved_known to known) ≡ known_is is known
known_is-stays to is None = refl
known_is-stays to is (Some (tree.NumberValue z)) = refl
known_is-stays to is (Some _) = refl

pub named_type-stays : (to : ℕ → ℕ) (part : RunPart) → named_type (moved_part to part) ≡ named_type part
named_type-stays to part = by_known part.known
  where
    by_value : (v : ValueTree) → ◌≡◌ {A = Option TypeTree} (elim (moved_value to v) [ tree.TypeValue ty ↦ Some ty | _ ↦ None ]) (elim v [ tree.TypeValue ty ↦ Some ty | _ ↦ None ])
    by_value (tree.TypeValue ty) = refl
    by_value _ = refl

    by_known : (known : Option ValueTree) → ◌≡◌ {A = Option TypeTree} (elim (moved_known to known) [ None ↦ None | Some v ↦ elim v [ tree.TypeValue ty ↦ Some ty | _ ↦ None ] ])
        (elim known [ None ↦ None | Some v ↦ elim v [ tree.TypeValue ty ↦ Some ty | _ ↦ None ] ])
    by_known None = refl
    by_known (Some v) = by_value v

-- ---- literals and names

pub literal-stays : (to : ℕ → ℕ) (number : Option ℤ) → Stays to (literal number)
literal-stays to None = refl
literal-stays to (Some z) = if-stays to (is_in Comptime z) (Done (a_value tree.ComptimeIntType (tree.NumberValue z))) (Halt (Limit 9)) refl refl

abbrev pub AllStay : (ℕ → ℕ) → List (List ℕ × Next TypedNode) → Type 0
AllStay to [] = Unit {0}
AllStay to ((name, next) ∷ more) = Stays to next × AllStay to more

named-stays : (to : ℕ → ℕ) (table : List (List ℕ × Next TypedNode)) → AllStay to table → (name : List ℕ) → next_named table name ≡ moved_rule to (next_named table name)
named-stays to [] k name = refl
named-stays to ((text, next) ∷ more) (s, k) name = by_test (bytes_eq text name) (named-stays to more k name)
  where
    by_test : (same : Bool) → next_named more name ≡ moved_rule to (next_named more name) →
        (if same then Some next else next_named more name) ≡ moved_rule to (if same then Some next else next_named more name)
    by_test true later = ap (λ (n : Next TypedNode). Some n) s
    by_test false later = later

sized-stays : (to : ℕ → ℕ) (name : List ℕ) → Stays to (sized_primitive name)
sized-stays to [] = refl
sized-stays to (letter ∷ digits) = by_width (nat_le (decimal_value digits) 64)
  where
    by_width : (fits : Bool) → Stays to (if fits then type_part (tree.IntType (letter == 105) (decimal_value digits) false) else Halt (Limit 12))
    by_width true = refl
    by_width false = refl

primitive-stays : (to : ℕ → ℕ) (name : List ℕ) → primitive name ≡ moved_rule to (primitive name)
primitive-stays to name = by_sized (is_sized_name name)
  where
    plain : next_named plain_primitives name ≡ moved_rule to (next_named plain_primitives name)
    plain = named-stays to plain_primitives (refl, (refl, (refl, (refl, (refl, (refl, (refl, (refl, (refl, (refl, (refl, (refl, tt)))))))))))) name

    by_sized : (sized : Bool) → (if sized then Some (sized_primitive name) else next_named plain_primitives name) ≡ moved_rule to (if sized then Some (sized_primitive name) else next_named plain_primitives name)
    by_sized true = ap (λ (n : Next TypedNode). Some n) (sized-stays to name)
    by_sized false = plain

pub named_part-moves : (to : ℕ → ℕ) (name : List ℕ) (parts : List RunPart) → named_part name (moved_parts to parts) ≡ moved_next to (named_part name parts)
named_part-moves to name [] = refl
named_part-moves to name (found ∷ more) = refl

pub plain_name-moves : (to : ℕ → ℕ) (name : List ℕ) (parts : List RunPart) → plain_name name (moved_parts to parts) ≡ moved_next to (plain_name name parts)
plain_name-moves to name parts =
    ap (λ (found : Option (Next TypedNode)). elim found [ Some next ↦ next | None ↦ named_part name (moved_parts to parts) ]) (primitive-stays to name) ∙ by_found (primitive name)
  where
    by_found : (found : Option (Next TypedNode)) → (elim (moved_rule to found) [ Some next ↦ next | None ↦ named_part name (moved_parts to parts) ]) ≡ moved_next to (elim found [ Some next ↦ next | None ↦ named_part name parts ])
    by_found None = named_part-moves to name parts
    by_found (Some next) = refl

pub passed-moves : (to : ℕ → ℕ) (wanted : Option TypeTree) (inside : ℕ) (parts : List RunPart) → passed_on wanted (to inside) (moved_parts to parts) ≡ moved_next to (passed_on wanted inside parts)
passed-moves to wanted inside [] = refl
passed-moves to wanted inside (part ∷ more) = refl

-- ---- operators

in_peer-moves : (to : ℕ → ℕ) (name : Operator) (a b : RunPart) (peer : Option TypeTree) → in_peer name (moved_part to a) (moved_part to b) peer ≡ moved_next to (in_peer name a b peer)
in_peer-moves to name a b None = refl
in_peer-moves to name a b (Some ty) = refl

pub arithmetic-moves : (to : ℕ → ℕ) (name : Operator) (a b : RunPart) → arithmetic name (moved_part to a) (moved_part to b) ≡ moved_next to (arithmetic name a b)
arithmetic-moves to name a b =
    if-moves to (is_integer a.ty && is_integer b.ty) (in_peer name a b (peer_of a.ty b.ty)) (Halt (Error 20)) (in_peer name (moved_part to a) (moved_part to b) (peer_of a.ty b.ty)) (Halt (Error 20))
    (in_peer-moves to name a b (peer_of a.ty b.ty)) refl

division_in-moves : (to : ℕ → ℕ) (name : Operator) (a b : RunPart) (peer : Option TypeTree) → division_in name (moved_part to a) (moved_part to b) peer ≡ moved_next to (division_in name a b peer)
division_in-moves to name a b None = refl
division_in-moves to name a b (Some ty) =
    ap (λ (hollow : Bool). if is_unsigned ty then (if hollow then Halt (Error 21) else own) else (if known_is is_natural (moved_known to a.known) && known_is is_positive (moved_known to b.known) then own else Halt (Error 20))) (known_is-stays to is_zero b.known)
    ∙ ap (λ (fine : Bool). if is_unsigned ty then (if known_is is_zero b.known then Halt (Error 21) else own) else (if fine && known_is is_positive (moved_known to b.known) then own else Halt (Error 20))) (known_is-stays to is_natural a.known)
    ∙ ap (λ (fine : Bool). if is_unsigned ty then (if known_is is_zero b.known then Halt (Error 21) else own) else (if known_is is_natural a.known && fine then own else Halt (Error 20))) (known_is-stays to is_positive b.known)
    ∙ if-moves to (is_unsigned ty) (if known_is is_zero b.known then Halt (Error 21) else in_peer name a b (Some ty)) (if known_is is_natural a.known && known_is is_positive b.known then in_peer name a b (Some ty) else Halt (Error 20))
    (if known_is is_zero b.known then Halt (Error 21) else own) (if known_is is_natural a.known && known_is is_positive b.known then own else Halt (Error 20))
    (if-moves to (known_is is_zero b.known) (Halt (Error 21)) (in_peer name a b (Some ty)) (Halt (Error 21)) own refl refl)
    (if-moves to (known_is is_natural a.known && known_is is_positive b.known) (in_peer name a b (Some ty)) (Halt (Error 20)) own (Halt (Error 20)) refl refl)
  where
    own : Next TypedNode
    own = in_peer name (moved_part to a) (moved_part to b) (Some ty)

division-moves : (to : ℕ → ℕ) (name : Operator) (a b : RunPart) → division name (moved_part to a) (moved_part to b) ≡ moved_next to (division name a b)
division-moves to name a b =
    if-moves to (is_integer a.ty && is_integer b.ty) (division_in name a b (peer_of a.ty b.ty)) (Halt (Error 20)) (division_in name (moved_part to a) (moved_part to b) (peer_of a.ty b.ty)) (Halt (Error 20))
    (division_in-moves to name a b (peer_of a.ty b.ty)) refl

shift_by-moves : (to : ℕ → ℕ) (name : Operator) (a b : RunPart) → shift_by name (moved_part to a) (moved_part to b) ≡ moved_next to (shift_by name a b)
shift_by-moves to name a b =
    ap (λ (there : Bool). if is_comptime_int a.ty && not there then Halt (Error 16) else Operation name a.ty (alone (moved_part to a) ∷ alone (moved_part to b) ∷ [])) (some-stays to b.known)
    ∙ if-moves to (is_comptime_int a.ty && not (is_some b.known)) (Halt (Error 16)) (Operation name a.ty (alone a ∷ alone b ∷ [])) (Halt (Error 16)) (Operation name a.ty (alone (moved_part to a) ∷ alone (moved_part to b) ∷ [])) refl refl

pub shifting-moves : (to : ℕ → ℕ) (name : Operator) (a b : RunPart) → shifting name (moved_part to a) (moved_part to b) ≡ moved_next to (shifting name a b)
shifting-moves to name a b =
    if-moves to (is_integer a.ty && is_integer b.ty) (shift_by name a b) (Halt (Error 20)) (shift_by name (moved_part to a) (moved_part to b)) (Halt (Error 20)) (shift_by-moves to name a b) refl

saturating-moves : (to : ℕ → ℕ) (name : Operator) (a b : RunPart) → saturating_shift name (moved_part to a) (moved_part to b) ≡ moved_next to (saturating_shift name a b)
saturating-moves to name a b =
    ap (λ (fine : Bool). if is_integer a.ty && (is_unsigned b.ty || (is_comptime_int b.ty && fine)) then shift_by name (moved_part to a) (moved_part to b) else Halt (Error 20)) (known_is-stays to is_natural b.known)
    ∙ if-moves to (is_integer a.ty && is_saturating_amount b) (shift_by name a b) (Halt (Error 20)) (shift_by name (moved_part to a) (moved_part to b)) (Halt (Error 20)) (shift_by-moves to name a b) refl

ordering-moves : (to : ℕ → ℕ) (name : Operator) (a b : RunPart) → ordering name (moved_part to a) (moved_part to b) ≡ moved_next to (ordering name a b)
ordering-moves to name a b =
    if-moves to (is_integer a.ty && is_integer b.ty) (compared name a b) (Halt (Error 20)) (compared name (moved_part to a) (moved_part to b)) (Halt (Error 20)) refl refl

equality-moves : (to : ℕ → ℕ) (name : Operator) (a b : RunPart) → equality name (moved_part to a) (moved_part to b) ≡ moved_next to (equality name a b)
equality-moves to name a b =
    if-moves to (are_alike a.ty b.ty) (compared name a b) refused (compared name (moved_part to a) (moved_part to b)) refused refl
    (if-stays to (has_equality a.ty && has_equality b.ty) (Halt (Error 14)) (Halt (Error 20)) refl refl)
  where
    refused : Next TypedNode
    refused = if has_equality a.ty && has_equality b.ty then Halt (Error 14) else Halt (Error 20)

operands-move : (to : ℕ → ℕ) (family : Family) (name : Operator) (a b : RunPart) → on_operands family name (moved_part to a) (moved_part to b) ≡ moved_next to (on_operands family name a b)
operands-move to Arithmetic name a b = arithmetic-moves to name a b
operands-move to Division name a b = division-moves to name a b
operands-move to Shifting name a b = shifting-moves to name a b
operands-move to SaturatingShift name a b = saturating-moves to name a b
operands-move to Ordering name a b = ordering-moves to name a b
operands-move to Equality name a b = equality-moves to name a b

wanted-stays : (to : ℕ → ℕ) (family : Family) (a : RunPart) → right_wanted family (moved_part to a) ≡ right_wanted family a
wanted-stays to Shifting a = refl
wanted-stays to _ a = refl

binary-moves : (to : ℕ → ℕ) (family : Family) (name : Operator) (left right : ℕ) (parts : List RunPart) → binary_rule family name (to left) (to right) (moved_parts to parts) ≡ moved_next to (binary_rule family name left right parts)
binary-moves to family name left right [] = refl
binary-moves to family name left right (a ∷ []) = ap (λ (wanted : Option TypeTree). Visit (to right) wanted) (wanted-stays to family a)
binary-moves to family name left right (a ∷ b ∷ []) = operands-move to family name a b
binary-moves to family name left right (a ∷ b ∷ result ∷ more) = refl

left-moves : (to : ℕ → ℕ) (op : Logic) (right : ℕ) (known : Option ValueTree) → after_left op (to right) (moved_known to known) ≡ moved_next to (after_left op right known)
left-moves to And right None = refl
left-moves to Or right None = refl
left-moves to And right (Some (tree.TruthValue true)) = refl
left-moves to And right (Some (tree.TruthValue false)) = refl
left-moves to Or right (Some (tree.TruthValue true)) = refl
left-moves to Or right (Some (tree.TruthValue false)) = refl
left-moves to And right (Some _) = refl
left-moves to Or right (Some _) = refl

both-moves : (to : ℕ → ℕ) (op : Logic) (a b : RunPart) → after_both op (moved_part to a) (moved_part to b) ≡ moved_next to (after_both op a b)
both-moves to op a b =
    ap (λ (there : Bool). if there then Done (moved_part to b) else emitted) (some-stays to a.known)
    ∙ if-moves to (is_some a.known) (Done b) (Emit (Decide op) tree.BoolType (alone a ∷ alone b ∷ [])) (Done (moved_part to b)) emitted refl refl
  where
    emitted : Next TypedNode
    emitted = Emit (Decide op) tree.BoolType (alone (moved_part to a) ∷ alone (moved_part to b) ∷ [])

pub logic-moves : (to : ℕ → ℕ) (op : Logic) (left right : ℕ) (parts : List RunPart) → logic_rule op (to left) (to right) (moved_parts to parts) ≡ moved_next to (logic_rule op left right parts)
logic-moves to op left right [] = refl
logic-moves to op left right (a ∷ []) =
    if-moves to (is_truth a.ty) (after_left op right a.known) (Halt (Error 20)) (after_left op (to right) (moved_known to a.known)) (Halt (Error 20)) (left-moves to op right a.known) refl
logic-moves to op left right (a ∷ b ∷ []) =
    if-moves to (is_truth b.ty) (after_both op a b) (Halt (Error 20)) (after_both op (moved_part to a) (moved_part to b)) (Halt (Error 20)) (both-moves to op a b) refl
logic-moves to op left right (a ∷ b ∷ result ∷ more) = refl

unary-moves : (to : ℕ → ℕ) (name : Operator) (is : TypeTree → Bool) (child : ℕ) (parts : List RunPart) → unary_rule name is (to child) (moved_parts to parts) ≡ moved_next to (unary_rule name is child parts)
unary-moves to name is child [] = refl
unary-moves to name is child (a ∷ []) = if-moves to (is a.ty) (Operation name a.ty (alone a ∷ [])) (Halt (Error 20)) (Operation name a.ty (alone (moved_part to a) ∷ [])) (Halt (Error 20)) refl refl
unary-moves to name is child (a ∷ result ∷ more) = refl

-- ---- operands by their places: none is the root, which keeps its number

pub operand-moves : (to : ℕ → ℕ) → to 0 ≡ 0 → (operands : List ℕ) (k : ℕ) → operand (map to operands) k ≡ to (operand operands k)
operand-moves to root [] k = sym root
operand-moves to root (n ∷ ns) zero = refl
operand-moves to root (n ∷ ns) (suc k) = operand-moves to root ns k

pub operator-moves : (to : ℕ → ℕ) → to 0 ≡ 0 → (kind : NodeKind) (operands : List ℕ) (parts : List RunPart) →
    operator_rule kind (map to operands) (moved_parts to parts) ≡ moved_next to (operator_rule kind operands parts)
operator-moves to root kind operands parts = by_binary (binary_operator kind)
  where
    first : operand (map to operands) 0 ≡ to (operand operands 0)
    first = operand-moves to root operands 0

    second : operand (map to operands) 1 ≡ to (operand operands 1)
    second = operand-moves to root operands 1

    by_unary : (found : Option (Operator × (TypeTree → Bool))) → unary_or_none found (map to operands) (moved_parts to parts) ≡ moved_next to (unary_or_none found operands parts)
    by_unary None = refl
    by_unary (Some (name, is)) = ap (λ (child : ℕ). unary_rule name is child (moved_parts to parts)) first ∙ unary-moves to name is (operand operands 0) parts

    by_binary : (found : Option (Family × Operator)) →
        (elim found [ Some pair ↦ binary_rule pair.0 pair.1 (operand (map to operands) 0) (operand (map to operands) 1) (moved_parts to parts) | None ↦ unary_or_none (unary_operator kind) (map to operands) (moved_parts to parts) ])
        ≡ moved_next to (elim found [ Some pair ↦ binary_rule pair.0 pair.1 (operand operands 0) (operand operands 1) parts | None ↦ unary_or_none (unary_operator kind) operands parts ])
    by_binary None = by_unary (unary_operator kind)
    by_binary (Some pair) =
        ap (λ (left : ℕ). binary_rule pair.0 pair.1 left (operand (map to operands) 1) (moved_parts to parts)) first
        ∙ ap (λ (right : ℕ). binary_rule pair.0 pair.1 (to (operand operands 0)) right (moved_parts to parts)) second
        ∙ binary-moves to pair.0 pair.1 (operand operands 0) (operand operands 1) parts
