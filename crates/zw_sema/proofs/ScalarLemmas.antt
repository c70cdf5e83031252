-- What the rules of literals, names, operators and builtins ask for keeps values to their types.
use Rattle.std.proofs.Common.{◌≡◌, refl, ℕ, ◌≤◌, ℤ, Bool, true, false, List, [], ◌∷◌, ◌++◌, Option, Some, None, arith, nat_le, nat_eq}
use Rattle.std.specs.Prelude.{if◌then◌else◌, not, ◌&&◌, option_and_then}
use Rattle.std.specs.Str.{bytes_eq}
use Rattle.zw_base.specs.declared.stop.StopKind.TheVariants.{Error, Limit}
use Rattle.zw_num.specs.declared.int_ty.IntTy.{IntTy}
use Rattle.zw_num.specs.declared.int_ty.IntTy.TheVariants.{Sized, Comptime}
use Rattle.zw_num.specs.declared.operator.Arithmetic.TheVariants as sum
use Rattle.zw_num.specs.declared.operator.Bitwise.TheVariants as bits
use Rattle.zw_num.specs.declared.operator.Comparison.TheVariants as order
use Rattle.zw_num.specs.declared.operator.Division.TheVariants as quotient
use Rattle.zw_num.specs.declared.operator.Logic.TheVariants as logic
use Rattle.zw_num.specs.declared.operator.Shift.TheVariants as shift
use Rattle.zw_num.specs.declared.operator.Unary.TheVariants as one
use Rattle.zw_num.specs.declared.operator.Operator.{Operator}
use Rattle.zw_num.specs.declared.operator.Operator.TheVariants as family
use Rattle.zw_num.specs.Arithmetic.{is_in}
use Rattle.zw_num.proofs.WrappedLemmas.{in_from_test}
use Rattle.zw_token.specs.Names.{is_sized_name}
use Rattle.zw_token.specs.Numbers.{decimal_value}
use Rattle.zw_tree.specs.declared.kind.NodeKind.{NodeKind}
use Rattle.zw_tree.specs.declared.kind.NodeKind.TheVariants as kind
use Rattle.zw_types.specs.TypeTrees as tree
use Rattle.zw_types.specs.TypeTrees.{TypeTree, ValueTree}
use Rattle.zw_values.specs.Sameness.{is_same}
use Rattle.zw_values.specs.Coercions.{integer_of, has_all, is_no_return, is_undefined_type, integer_peer, peer_of, peer_of_all}
use Rattle.zw_typed.specs.Nodes.{Logic, And, Or, TypedNode}
use Rattle.zw_env.specs.Parts.{Next, Operation, Done, Halt, a_value, alone}
use Rattle.zw_typed.specs.ValueTypes.{HasWidths, IsValueOf, IsKnownOf}
use Rattle.zw_env.specs.SoundParts.{IsSound, AreSound, IsSoundWish, StaysIn, IsSoundNext}
use Rattle.zw_forms_scalar.specs.Primitives.{type_part, truth_part, sized_type, plain_primitives, next_named, sized_primitive, primitive}
use Rattle.zw_forms_scalar.specs.Operators.{is_some, is_integer, is_truth, is_unsigned, is_comptime_int, has_negatives, is_sized, known_is, is_zero, is_positive, is_natural, in_peer, arithmetic, division_in, division, amount_bits, amount_type, shift_by, shifting, is_saturating_amount, saturating_shift, compared, ordering, has_equality, are_alike, equality, Family, Arithmetic, Division, Shifting, SaturatingShift, Ordering, Equality, binary_operator, right_wanted, on_operands, binary_rule, after_left, logic_rule, unary_operator, unary_rule}
use Rattle.zw_forms_scalar.specs.Builtins.{named_type, operand}
use Rattle.zw_forms_scalar.specs.ScalarRules.{literal, named_part, plain_name, passed_on, unary_or_none, operator_rule}
use Rattle.zw_sema.specs.Walk.{RunPart}
use Rattle.zw_sema.proofs.OperationLemmas.{stays-arithmetic, stays-division, stays-bitwise, stays-shift, stays-one, negates, stays-wide, stays-order, stays-negation}

-- ---- choices

pub next-if : (t : Bool) (x y : Next TypedNode) → IsSoundNext x → IsSoundNext y → IsSoundNext (if t then x else y)
next-if true x y i j = i
next-if false x y i j = j

pub wish-if : (t : Bool) (x y : Option TypeTree) → IsSoundWish x → IsSoundWish y → IsSoundWish (if t then x else y)
wish-if true x y i j = i
wish-if false x y i j = j

abbrev pub IsSoundRule : Option (Next TypedNode) → Type 0
IsSoundRule None = Unit {0}
IsSoundRule (Some next) = IsSoundNext next

pub sound-append : (parts : List RunPart) (part : RunPart) → AreSound parts → IsSound part → AreSound (parts ++ part ∷ [])
sound-append [] part k i = (i, tt)
sound-append (p ∷ parts) part (j, k) i = (j, sound-append parts part k i)

-- ---- types that a part names

pub named-wide : (of ty : TypeTree) → IsValueOf of (tree.TypeValue ty) → HasWidths ty
named-wide tree.TypeType ty h = h
named-wide (tree.IntType signed bits size) ty h = absurd h
named-wide tree.ComptimeIntType ty h = absurd h
named-wide tree.BoolType ty h = absurd h
named-wide tree.VoidType ty h = absurd h
named-wide (tree.FuncType params result comptime outside) ty h = absurd h
named-wide _ ty h = absurd h

pub named_type-wide : (part : RunPart) → IsSound part → IsSoundWish (named_type part)
named_type-wide part i = by_known part.known i.known
  where
    by_value : (v : ValueTree) → IsValueOf part.ty v → IsSoundWish (elim v [ tree.TypeValue ty ↦ Some ty | _ ↦ None ])
    by_value (tree.TypeValue ty) h = named-wide part.ty ty h
    by_value _ h = tt

    by_known : (known : Option ValueTree) → IsKnownOf part.ty known → IsSoundWish (elim known [ None ↦ None | Some v ↦ elim v [ tree.TypeValue ty ↦ Some ty | _ ↦ None ] ])
    by_known None h = tt
    by_known (Some v) h = by_value v h

-- ---- literals and names

pub literal-sound : (number : Option ℤ) → IsSoundNext {N = TypedNode} (literal number)
literal-sound None = tt
literal-sound (Some z) = by_test (is_in Comptime z) refl
  where
    by_test : (there : Bool) → is_in Comptime z ≡ there → IsSoundNext {N = TypedNode} (if there then Done (a_value tree.ComptimeIntType (tree.NumberValue z)) else Halt (Limit 9))
    by_test true e = record { ty = tt; known = in_from_test Comptime z e }
    by_test false e = tt

type-sound : (ty : TypeTree) → HasWidths ty → IsSoundNext {N = TypedNode} (type_part ty)
type-sound ty h = record { ty = tt; known = h }

truth-sound : (b : Bool) → IsSoundNext {N = TypedNode} (truth_part b)
truth-sound b = record { ty = tt; known = tt }

sized-sound : (signed : Bool) (bits : ℕ) → IsSoundNext {N = TypedNode} (sized_type signed bits)
sized-sound signed bits = by_test (nat_le bits 64) refl
  where
    by_test : (few : Bool) → nat_le bits 64 ≡ few → IsSoundNext {N = TypedNode} (if few then type_part (tree.IntType signed bits false) else Halt (Limit 12))
    by_test true e = record { ty = tt; known = grind arith }
    by_test false e = tt

sized_primitive-sound : (name : List ℕ) → IsSoundNext {N = TypedNode} (sized_primitive name)
sized_primitive-sound [] = tt
sized_primitive-sound (letter ∷ digits) = sized-sound (nat_eq letter 105) (decimal_value digits)

abbrev pub AllRulesSound : List (List ℕ × Next TypedNode) → Type 0
AllRulesSound [] = Unit {0}
AllRulesSound ((text, next) ∷ more) = IsSoundNext next × AllRulesSound more

next_named-sound : (table : List (List ℕ × Next TypedNode)) → AllRulesSound table → (name : List ℕ) → IsSoundRule (next_named table name)
next_named-sound [] k name = tt
next_named-sound ((text, next) ∷ more) (i, k) name = by_test (bytes_eq text name) (next_named-sound more k name)
  where
    by_test : (same : Bool) → IsSoundRule (next_named more name) → IsSoundRule (if same then Some next else next_named more name)
    by_test true later = i
    by_test false later = later

plain-sound : AllRulesSound plain_primitives
plain-sound = (
  type-sound (tree.IntType false 32 true) (omega arith),
  (
    type-sound (tree.IntType true 32 true) (omega arith),
    (
      type-sound tree.ComptimeIntType tt,
      (
        type-sound tree.BoolType tt,
        (type-sound tree.VoidType tt, (type-sound tree.TypeType tt, (truth-sound true, (truth-sound false, (tt, (tt, (tt, (tt, tt)))))))),
      ),
    ),
  ),
)

primitive-sound : (name : List ℕ) → IsSoundRule (primitive name)
primitive-sound name = by_test (is_sized_name name)
  where
    by_test : (sized : Bool) → IsSoundRule (if sized then Some (sized_primitive name) else next_named plain_primitives name)
    by_test true = sized_primitive-sound name
    by_test false = next_named-sound plain_primitives plain-sound name

pub named_part-sound : (name : List ℕ) (parts : List RunPart) → AreSound parts → IsSoundNext (named_part name parts)
named_part-sound name [] k = tt
named_part-sound name (found ∷ more) (i, k) = i

pub plain_name-sound : (name : List ℕ) (parts : List RunPart) → AreSound parts → IsSoundNext (plain_name name parts)
plain_name-sound name parts k = by_found (primitive name) (primitive-sound name)
  where
    by_found : (found : Option (Next TypedNode)) → IsSoundRule found → IsSoundNext (elim found [ Some next ↦ next | None ↦ named_part name parts ])
    by_found (Some next) i = i
    by_found None i = named_part-sound name parts k

pub passed_on-sound : (wanted : Option TypeTree) (inside : ℕ) (parts : List RunPart) → IsSoundWish wanted → AreSound parts → IsSoundNext (passed_on wanted inside parts)
passed_on-sound wanted inside [] h k = h
passed_on-sound wanted inside (part ∷ more) h (i, k) = i

-- ---- peer types

integer_peer-wide : (a b : TypeTree) → HasWidths a → HasWidths b → (x y : Option IntTy) → IsSoundWish (integer_peer a x b y)
integer_peer-wide a b h g (Some Comptime) (Some y) = g
integer_peer-wide a b h g (Some (Sized signed bits)) (Some Comptime) = h
integer_peer-wide a b h g (Some (Sized signed bits)) (Some (Sized signed' bits')) =
    wish-if (has_all (Sized signed bits) (Sized signed' bits')) (Some a) (if has_all (Sized signed' bits') (Sized signed bits) then Some b else None) h
    (wish-if (has_all (Sized signed' bits') (Sized signed bits)) (Some b) None g tt)
integer_peer-wide a b h g (Some Comptime) None = tt
integer_peer-wide a b h g (Some (Sized signed bits)) None = tt
integer_peer-wide a b h g None y = tt

pub peer_of-wide : (a b : TypeTree) → HasWidths a → HasWidths b → IsSoundWish (peer_of a b)
peer_of-wide a b h g =
    wish-if (is_no_return a) (Some b) _ g (wish-if (is_no_return b) (Some a) _ h (wish-if (is_undefined_type a) (Some b) _ g (wish-if (is_undefined_type b) (Some a) _ h
    (wish-if (is_same a b) (Some a) _ h (integer_peer-wide a b h g (integer_of a) (integer_of b))))))

abbrev pub AllWide : List TypeTree → Type 0
AllWide [] = Unit {0}
AllWide (ty ∷ types) = HasWidths ty × AllWide types

pub peer_of_all-wide : (a : TypeTree) (types : List TypeTree) → HasWidths a → AllWide types → IsSoundWish (peer_of_all a types)
peer_of_all-wide a [] h k = h
peer_of_all-wide a (b ∷ more) h (g, k) = by_peer (peer_of a b) (peer_of-wide a b h g) (λ t w. peer_of_all-wide t more w k)
  where
    by_peer : (peer : Option TypeTree) → IsSoundWish peer → ((t : TypeTree) → HasWidths t → IsSoundWish (peer_of_all t more)) → IsSoundWish (option_and_then (λ t. peer_of_all t more) peer)
    by_peer None w later = tt
    by_peer (Some t) w later = later t w

-- ---- operators

abbrev pub StaysOnTwo : Operator → Type 0
StaysOnTwo name = (ty : TypeTree) → HasWidths ty → StaysIn name (ty ∷ ty ∷ []) ty

abbrev pub StaysShifted : Operator → Type 0
StaysShifted name = (ty amount : TypeTree) → StaysIn name (ty ∷ amount ∷ []) ty

abbrev pub StaysTrue : Operator → Type 0
StaysTrue name = (from : List TypeTree) → StaysIn name from tree.BoolType

in_peer-sound : (name : Operator) → StaysOnTwo name → (a b : RunPart) → IsSound a → IsSound b → (peer : Option TypeTree) → IsSoundWish peer → IsSoundNext (in_peer name a b peer)
in_peer-sound name stays a b i j None h = tt
in_peer-sound name stays a b i j (Some ty) h = (h, (((i, h), ((j, h), tt)), stays ty h))

pub arithmetic-sound : (name : Operator) → StaysOnTwo name → (a b : RunPart) → IsSound a → IsSound b → IsSoundNext (arithmetic name a b)
arithmetic-sound name stays a b i j =
    next-if (is_integer a.ty && is_integer b.ty) (in_peer name a b (peer_of a.ty b.ty)) (Halt (Error 20)) (in_peer-sound name stays a b i j (peer_of a.ty b.ty) (peer_of-wide a.ty b.ty i.ty j.ty)) tt

division_in-sound : (name : Operator) → StaysOnTwo name → (a b : RunPart) → IsSound a → IsSound b → (peer : Option TypeTree) → IsSoundWish peer → IsSoundNext (division_in name a b peer)
division_in-sound name stays a b i j None h = tt
division_in-sound name stays a b i j (Some ty) h =
    next-if (is_unsigned ty) _ _ (next-if (known_is is_zero b.known) _ _ tt (in_peer-sound name stays a b i j (Some ty) h))
    (next-if (known_is is_natural a.known && known_is is_positive b.known) _ _ (in_peer-sound name stays a b i j (Some ty) h) tt)

division-sound : (name : Operator) → StaysOnTwo name → (a b : RunPart) → IsSound a → IsSound b → IsSoundNext (division name a b)
division-sound name stays a b i j =
    next-if (is_integer a.ty && is_integer b.ty) _ _ (division_in-sound name stays a b i j (peer_of a.ty b.ty) (peer_of-wide a.ty b.ty i.ty j.ty)) tt

shift_by-sound : (name : Operator) → StaysShifted name → (a b : RunPart) → IsSound a → IsSound b → IsSoundNext (shift_by name a b)
shift_by-sound name stays a b i j = next-if (is_comptime_int a.ty && not (is_some b.known)) _ _ tt (i.ty, (((i, i.ty), ((j, j.ty), tt)), stays a.ty b.ty))

pub shifting-sound : (name : Operator) → StaysShifted name → (a b : RunPart) → IsSound a → IsSound b → IsSoundNext (shifting name a b)
shifting-sound name stays a b i j = next-if (is_integer a.ty && is_integer b.ty) _ _ (shift_by-sound name stays a b i j) tt

saturating-sound : (name : Operator) → StaysShifted name → (a b : RunPart) → IsSound a → IsSound b → IsSoundNext (saturating_shift name a b)
saturating-sound name stays a b i j = next-if (is_integer a.ty && is_saturating_amount b) _ _ (shift_by-sound name stays a b i j) tt

compared-sound : (name : Operator) → StaysTrue name → (a b : RunPart) → IsSound a → IsSound b → IsSoundNext (compared name a b)
compared-sound name stays a b i j = (tt, (((i, i.ty), ((j, j.ty), tt)), stays (a.ty ∷ b.ty ∷ [])))

ordering-sound : (name : Operator) → StaysTrue name → (a b : RunPart) → IsSound a → IsSound b → IsSoundNext (ordering name a b)
ordering-sound name stays a b i j = next-if (is_integer a.ty && is_integer b.ty) _ _ (compared-sound name stays a b i j) tt

equality-sound : (name : Operator) → StaysTrue name → (a b : RunPart) → IsSound a → IsSound b → IsSoundNext (equality name a b)
equality-sound name stays a b i j =
    next-if (are_alike a.ty b.ty) _ _ (compared-sound name stays a b i j) (next-if (has_equality a.ty && has_equality b.ty) (Halt (Error 14)) (Halt (Error 20)) tt tt)

-- what an operator of a family owes
abbrev pub FamilyStays : Family → Operator → Type 0
FamilyStays Arithmetic name = StaysOnTwo name
FamilyStays Division name = StaysOnTwo name
FamilyStays Shifting name = StaysShifted name
FamilyStays SaturatingShift name = StaysShifted name
FamilyStays Ordering name = StaysTrue name
FamilyStays Equality name = StaysTrue name

operands-sound : (family : Family) (name : Operator) → FamilyStays family name → (a b : RunPart) → IsSound a → IsSound b → IsSoundNext (on_operands family name a b)
operands-sound Arithmetic name stays a b i j = arithmetic-sound name stays a b i j
operands-sound Division name stays a b i j = division-sound name stays a b i j
operands-sound Shifting name stays a b i j = shifting-sound name stays a b i j
operands-sound SaturatingShift name stays a b i j = saturating-sound name stays a b i j
operands-sound Ordering name stays a b i j = ordering-sound name stays a b i j
operands-sound Equality name stays a b i j = equality-sound name stays a b i j

pub below-if : (t : Bool) (m n : ℕ) → m ≤ 64 → n ≤ 64 → (if t then m else n) ≤ 64
below-if true m n h g = h
below-if false m n h g = g

amount-few : (bits : ℕ) → amount_bits bits ≤ 64
amount-few bits =
    below-if (nat_le bits 1) 0 _ (omega arith) (below-if (nat_le bits 2) 1 _ (omega arith) (below-if (nat_le bits 4) 2 _ (omega arith) (below-if (nat_le bits 8) 3 _ (omega arith)
    (below-if (nat_le bits 16) 4 _ (omega arith) (below-if (nat_le bits 32) 5 6 (omega arith) (omega arith))))))

pub amount-wide : (ty : TypeTree) → IsSoundWish (amount_type ty)
amount-wide (tree.IntType signed bits size) = amount-few bits
amount-wide tree.ComptimeIntType = tt
amount-wide _ = tt

right-wide : (family : Family) (a : RunPart) → IsSoundWish (right_wanted family a)
right-wide Shifting a = amount-wide a.ty
right-wide Arithmetic a = tt
right-wide Division a = tt
right-wide SaturatingShift a = tt
right-wide Ordering a = tt
right-wide Equality a = tt

binary-sound : (family : Family) (name : Operator) → FamilyStays family name → (left right : ℕ) (parts : List RunPart) → AreSound parts → IsSoundNext (binary_rule family name left right parts)
binary-sound family name stays left right [] k = tt
binary-sound family name stays left right (a ∷ []) k = right-wide family a
binary-sound family name stays left right (a ∷ b ∷ []) (i, (j, k)) = operands-sound family name stays a b i j
binary-sound family name stays left right (a ∷ b ∷ result ∷ more) (i, (j, (r, k))) = r

abbrev pub BinaryStays : Option (Family × Operator) → Type 0
BinaryStays None = Unit {0}
BinaryStays (Some found) = FamilyStays found.0 found.1

binary-stays : (k : NodeKind) → BinaryStays (binary_operator k)
binary-stays kind.Add = λ ty h values i v e. stays-arithmetic sum.Add ty h values i v e
binary-stays kind.Subtract = λ ty h values i v e. stays-arithmetic sum.Sub ty h values i v e
binary-stays kind.Multiply = λ ty h values i v e. stays-arithmetic sum.Mul ty h values i v e
binary-stays kind.AddWrap = λ ty h values i v e. stays-arithmetic sum.AddWrap ty h values i v e
binary-stays kind.SubtractWrap = λ ty h values i v e. stays-arithmetic sum.SubWrap ty h values i v e
binary-stays kind.MultiplyWrap = λ ty h values i v e. stays-arithmetic sum.MulWrap ty h values i v e
binary-stays kind.AddSaturate = λ ty h values i v e. stays-arithmetic sum.AddSat ty h values i v e
binary-stays kind.SubtractSaturate = λ ty h values i v e. stays-arithmetic sum.SubSat ty h values i v e
binary-stays kind.MultiplySaturate = λ ty h values i v e. stays-arithmetic sum.MulSat ty h values i v e
binary-stays kind.BitAnd = λ ty h values i v e. stays-bitwise bits.And ty h values i v e
binary-stays kind.BitOr = λ ty h values i v e. stays-bitwise bits.Or ty h values i v e
binary-stays kind.BitXor = λ ty h values i v e. stays-bitwise bits.Xor ty h values i v e
binary-stays kind.Divide = λ ty h values i v e. stays-division quotient.Div ty h values i v e
binary-stays kind.Remainder = λ ty h values i v e. stays-division quotient.Rem ty h values i v e
binary-stays kind.ShiftLeft = λ ty amount values i v e. stays-shift shift.Shl ty amount values i v e
binary-stays kind.ShiftRight = λ ty amount values i v e. stays-shift shift.Shr ty amount values i v e
binary-stays kind.ShiftLeftSaturate = λ ty amount values i v e. stays-shift shift.ShlSat ty amount values i v e
binary-stays kind.Less = λ from values i v e. stays-order order.Less from values i v e
binary-stays kind.LessOrEqual = λ from values i v e. stays-order order.LessOrEqual from values i v e
binary-stays kind.Greater = λ from values i v e. stays-order order.Greater from values i v e
binary-stays kind.GreaterOrEqual = λ from values i v e. stays-order order.GreaterOrEqual from values i v e
binary-stays kind.Equal = λ from values i v e. stays-order order.Equal from values i v e
binary-stays kind.NotEqual = λ from values i v e. stays-order order.NotEqual from values i v e
binary-stays _ = tt

-- ---- `and` and `or`

left-sound : (op : Logic) (right : ℕ) (known : Option ValueTree) → IsSoundNext {N = TypedNode} (after_left op right known)
left-sound And right (Some (tree.TruthValue false)) = record { ty = tt; known = tt }
left-sound And right (Some (tree.TruthValue true)) = tt
left-sound Or right (Some (tree.TruthValue true)) = record { ty = tt; known = tt }
left-sound Or right (Some (tree.TruthValue false)) = tt
left-sound And right None = tt
left-sound Or right None = tt
left-sound And right (Some _) = tt
left-sound Or right (Some _) = tt

pub logic-sound : (op : Logic) (left right : ℕ) (parts : List RunPart) → AreSound parts → IsSoundNext (logic_rule op left right parts)
logic-sound op left right [] k = tt
logic-sound op left right (a ∷ []) k = next-if (is_truth a.ty) _ _ (left-sound op right a.known) tt
logic-sound op left right (a ∷ b ∷ []) (i, (j, k)) = next-if (is_truth b.ty) _ _ (next-if (is_some a.known) _ _ j (tt, ((i, i.ty), ((j, j.ty), tt)))) tt
logic-sound op left right (a ∷ b ∷ result ∷ more) (i, (j, (r, k))) = r

-- ---- operators with one operand

abbrev pub StaysOnOne : Operator → (TypeTree → Bool) → Type 0
StaysOnOne name is_defined = (ty : TypeTree) → is_defined ty ≡ true → StaysIn name (ty ∷ []) ty

unary-sound : (name : Operator) (is_defined : TypeTree → Bool) → StaysOnOne name is_defined → (operand : ℕ) (parts : List RunPart) → AreSound parts → IsSoundNext (unary_rule name is_defined operand parts)
unary-sound name is_defined stays operand [] k = tt
unary-sound name is_defined stays operand (a ∷ []) (i, k) = by_test (is_defined a.ty) refl
  where
    by_test : (there : Bool) → is_defined a.ty ≡ there → IsSoundNext (if there then Operation name a.ty (alone a ∷ []) else Halt (Error 20))
    by_test true e = (i.ty, (((i, i.ty), tt), stays a.ty e))
    by_test false e = tt
unary-sound name is_defined stays operand (a ∷ result ∷ more) (i, (r, k)) = r

negate-stays : StaysOnOne (family.Unary one.Neg) has_negatives
negate-stays (tree.IntType signed bits size) e = λ values i v is. stays-one one.Neg (tree.IntType signed bits size) signed bits size values i v is
negate-stays tree.ComptimeIntType e = λ values i v is. stays-wide one.Neg negates tree.ComptimeIntType values i v is
negate-stays _ e = cc

negate_wrap-stays : StaysOnOne (family.Unary one.NegWrap) is_sized
negate_wrap-stays (tree.IntType signed bits size) e = λ values i v is. stays-one one.NegWrap (tree.IntType signed bits size) signed bits size values i v is
negate_wrap-stays _ e = cc

bit_not-stays : StaysOnOne (family.Unary one.BitNot) is_sized
bit_not-stays (tree.IntType signed bits size) e = λ values i v is. stays-one one.BitNot (tree.IntType signed bits size) signed bits size values i v is
bit_not-stays _ e = cc

not-stays : StaysOnOne (family.Logic logic.Not) is_truth
not-stays tree.BoolType e = λ values i v is. stays-negation (tree.BoolType ∷ []) values i v is
not-stays _ e = cc

abbrev pub UnaryStays : Option (Operator × (TypeTree → Bool)) → Type 0
UnaryStays None = Unit {0}
UnaryStays (Some found) = StaysOnOne found.0 found.1

unary-stays : (k : NodeKind) → UnaryStays (unary_operator k)
unary-stays kind.Negate = negate-stays
unary-stays kind.NegateWrap = negate_wrap-stays
unary-stays kind.BitNot = bit_not-stays
unary-stays kind.Not = not-stays
unary-stays _ = tt

unary_or_none-sound : (found : Option (Operator × (TypeTree → Bool))) → UnaryStays found → (operands : List ℕ) (parts : List RunPart) → AreSound parts → IsSoundNext (unary_or_none found operands parts)
unary_or_none-sound (Some (name, is_defined)) stays operands parts k = unary-sound name is_defined stays (operand operands 0) parts k
unary_or_none-sound None stays operands parts k = tt

pub operator-sound : (k : NodeKind) (operands : List ℕ) (parts : List RunPart) → AreSound parts → IsSoundNext (operator_rule k operands parts)
operator-sound k operands parts i = by_found (binary_operator k) (binary-stays k)
  where
    by_found : (found : Option (Family × Operator)) → BinaryStays found →
        IsSoundNext (elim found [ Some f ↦ binary_rule f.0 f.1 (operand operands 0) (operand operands 1) parts | None ↦ unary_or_none (unary_operator k) operands parts ])
    by_found (Some f) stays = binary-sound f.0 f.1 stays (operand operands 0) (operand operands 1) parts i
    by_found None stays = unary_or_none-sound (unary_operator k) (unary-stays k) operands parts i
