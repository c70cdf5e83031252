-- An operator on values of types that fit it gives a value of its type, or panics.
use Rattle.std.proofs.Common.{◌≡◌, inl, inr, refl, ℕ, ◌^◌, ◌<◌, ◌≤◌, ℤ, pos, Bool, true, false, List, [], ◌∷◌, sym, subst, arith}
use Rattle.std.specs.Prelude.{Result, Ok, Err, All}
use Rattle.std.proofs.lemmas.Int.{ints}
use Rattle.std.proofs.lemmas.List.Elements.{All-head, All-tail}
use Rattle.zw_num.specs.declared.int_ty.IntTy.{IntTy}
use Rattle.zw_num.specs.declared.int_ty.IntTy.TheVariants.{Sized, Comptime}
use Rattle.zw_num.specs.declared.num_fault.NumFault.{NumFault}
use Rattle.zw_num.specs.declared.num_fault.NumFault.TheVariants as fault
use Rattle.zw_num.specs.declared.operator.Cast.{Cast}
use Rattle.zw_num.specs.declared.operator.Cast.TheVariants as cast
use Rattle.zw_num.specs.declared.operator.Comparison.{Comparison}
use Rattle.zw_num.specs.declared.operator.Comparison.TheVariants as order
use Rattle.zw_num.specs.declared.operator.Count.{Count}
use Rattle.zw_num.specs.declared.operator.Division.{Division}
use Rattle.zw_num.specs.declared.operator.Division.TheVariants as quotient
use Rattle.zw_num.specs.declared.operator.Extreme.{Extreme}
use Rattle.zw_num.specs.declared.operator.Logic.{Logic}
use Rattle.zw_num.specs.declared.operator.Logic.TheVariants as logic
use Rattle.zw_num.specs.declared.operator.Operator.{Operator}
use Rattle.zw_num.specs.declared.operator.Operator.TheVariants as family
use Rattle.zw_num.specs.declared.operator.Shift.{Shift}
use Rattle.zw_num.specs.declared.operator.Shift.TheVariants as by
use Rattle.zw_num.specs.declared.operator.Unary.{Unary}
use Rattle.zw_num.specs.declared.operator.Unary.TheVariants as one
use Rattle.zw_num.specs.Arithmetic.{IsType, IsIn, pattern}
use Rattle.zw_num.specs.Meanings.{arithmetic, division, bitwise, shift, unary, counted, extreme, converted}
use Rattle.zw_num.proofs.WrappedLemmas.{wrapped_in}
use Rattle.zw_types.specs.TypeTrees as tree
use Rattle.zw_types.specs.TypeTrees.{TypeTree, ValueTree}
use Rattle.zw_values.specs.Applied.{outcome_of, outcome_of_fault, on_integers, on_integer, on_two, equality, compared_values, extreme_from, extreme_of, applied}
use Rattle.zw_typed.specs.ValueTypes.{IsNumberIn, IsValueOf, AreValuesOf}
use Rattle.zw_typed.specs.NodeTypes.{IsSized, IsUnsigned, IsSigned, HasWholeBytes, DivisionFits, IsCutTo, HasSameBits, IsMagnitude, UnaryFits, CountFits, IsEquality, OrderFits, CastFits, LogicFits, OperandsFit}
use Rattle.zw_typed.specs.FlowTypes.{IsRunType, OneIsKnown, KnownFits, OperatesOn, ComesTo}
use Rattle.zw_typed.proofs.ResultLemmas.{ResultIn, arithmetic-in, division-in, bitwise-in, shift-in, cast-in, unary-in, counted_le, one_of-in}

-- ---- the values of operands

-- two numbers, of types of numbers
two_numbers : (t u : TypeTree) (own other : IntTy) → ((v : ValueTree) → IsValueOf t v → IsNumberIn own v) → ((v : ValueTree) → IsValueOf u v → IsNumberIn other v) →
    (P : List ValueTree → Type 0) → ((x y : ℤ) → IsIn own x → IsIn other y → P (tree.NumberValue x ∷ tree.NumberValue y ∷ [])) →
    (values : List ValueTree) → AreValuesOf (t ∷ u ∷ []) values → P values
two_numbers t u own other first second P each (a ∷ b ∷ []) (i, (j, k)) = by_first a (first a i)
  where
    by_second : (x : ℤ) → IsIn own x → (b : ValueTree) → IsNumberIn other b → P (tree.NumberValue x ∷ b ∷ [])
    by_second x i (tree.NumberValue y) j = each x y i j
    by_second x i _ j = absurd j

    by_first : (a : ValueTree) → IsNumberIn own a → P (a ∷ b ∷ [])
    by_first (tree.NumberValue x) i = by_second x i b (second b j)
    by_first _ i = absurd i
two_numbers t u own other first second P each (a ∷ b ∷ c ∷ more) (i, (j, k)) = absurd k
two_numbers t u own other first second P each (a ∷ []) (i, k) = absurd k
two_numbers t u own other first second P each [] k = absurd k

one_value : (t : TypeTree) (P : List ValueTree → Type 0) → ((v : ValueTree) → IsValueOf t v → P (v ∷ [])) → (values : List ValueTree) → AreValuesOf (t ∷ []) values → P values
one_value t P each (a ∷ []) (i, k) = each a i
one_value t P each (a ∷ b ∷ more) (i, k) = absurd k
one_value t P each [] k = absurd k

one_number : (t : TypeTree) (own : IntTy) → ((v : ValueTree) → IsValueOf t v → IsNumberIn own v) → (P : List ValueTree → Type 0) →
    ((x : ℤ) → IsIn own x → P (tree.NumberValue x ∷ [])) → (values : List ValueTree) → AreValuesOf (t ∷ []) values → P values
one_number t own into P each values k = one_value t P (λ v i. by_value v (into v i)) values k
  where
    by_value : (v : ValueTree) → IsNumberIn own v → P (v ∷ [])
    by_value (tree.NumberValue x) i = each x i
    by_value _ i = absurd i

one_truth : (P : List ValueTree → Type 0) → ((b : Bool) → P (tree.TruthValue b ∷ [])) → (values : List ValueTree) → AreValuesOf (tree.BoolType ∷ []) values → P values
one_truth P each values k = one_value tree.BoolType P by_value values k
  where
    by_value : (v : ValueTree) → IsValueOf tree.BoolType v → P (v ∷ [])
    by_value (tree.TruthValue b) i = each b
    by_value _ i = absurd i

two_truths : (P : List ValueTree → Type 0) → ((a b : Bool) → P (tree.TruthValue a ∷ tree.TruthValue b ∷ [])) → (values : List ValueTree) →
    AreValuesOf (tree.BoolType ∷ tree.BoolType ∷ []) values → P values
two_truths P each (tree.TruthValue a ∷ tree.TruthValue b ∷ []) k = each a b
two_truths P each (tree.TruthValue a ∷ tree.TruthValue b ∷ c ∷ more) (i, (j, k)) = absurd k
two_truths P each (tree.TruthValue a ∷ _ ∷ more) (i, (j, k)) = absurd j
two_truths P each (tree.TruthValue a ∷ []) (i, k) = absurd k
two_truths P each (_ ∷ more) (i, k) = absurd i
two_truths P each [] k = absurd k

-- ---- outcomes of numbers

fault_comes : (signed : Bool) (bits : ℕ) (size : Bool) (e : NumFault) → ComesTo (tree.IntType signed bits size) (outcome_of_fault (Sized signed bits) e)
fault_comes signed bits size fault.Overflow = tt
fault_comes signed bits size fault.DivZero = tt
fault_comes signed bits size fault.Remainder = tt
fault_comes signed bits size fault.ShiftAmount = tt
fault_comes signed bits size fault.ShiftBits = tt
fault_comes signed bits size fault.Truncated = tt
fault_comes signed bits size fault.Negative = tt

number_comes : (signed : Bool) (bits : ℕ) (size : Bool) (r : Result ℤ NumFault) → ResultIn (Sized signed bits) r →
    ComesTo (tree.IntType signed bits size) (outcome_of (Sized signed bits) r)
number_comes signed bits size (Ok z) i = i
number_comes signed bits size (Err e) i = fault_comes signed bits size e

-- two integers of the result's type
integers_come : (meaning : IntTy → ℤ → ℤ → Result ℤ NumFault) → ((ty : IntTy) → IsType ty → (x y : ℤ) → IsIn ty x → IsIn ty y → ResultIn ty (meaning ty x y)) →
    (ty : TypeTree) → IsSized ty → IsRunType ty → (values : List ValueTree) → AreValuesOf (ty ∷ ty ∷ []) values → ComesTo ty (on_integers meaning ty values)
integers_come meaning keeps (tree.IntType signed bits size) sized wide values k =
    two_numbers (tree.IntType signed bits size) (tree.IntType signed bits size) (Sized signed bits) (Sized signed bits) (λ v i. i) (λ v i. i)
    (λ vs. ComesTo (tree.IntType signed bits size) (on_integers meaning (tree.IntType signed bits size) vs))
    (λ x y i j. number_comes signed bits size (meaning (Sized signed bits) x y) (keeps (Sized signed bits) wide x y i j)) values k
integers_come meaning keeps _ sized wide values k = absurd sized

-- one of the result's type, and an amount
amount_comes : (op : Shift) (ty amount : TypeTree) (other : IntTy) → ((v : ValueTree) → IsValueOf amount v → IsNumberIn other v) → IsSized ty →
    (values : List ValueTree) → AreValuesOf (ty ∷ amount ∷ []) values → ComesTo ty (on_integers (shift op) ty values)
amount_comes op (tree.IntType signed bits size) amount other into sized values k =
    two_numbers (tree.IntType signed bits size) amount (Sized signed bits) other (λ v i. i) into
    (λ vs. ComesTo (tree.IntType signed bits size) (on_integers (shift op) (tree.IntType signed bits size) vs))
    (λ x y i j. number_comes signed bits size (shift op (Sized signed bits) x y) (shift-in op (Sized signed bits) x y i)) values k
amount_comes op _ amount other into sized values k = absurd sized

shift_comes : (op : Shift) (ty amount : TypeTree) → IsSized ty → IsSized amount → (values : List ValueTree) → AreValuesOf (ty ∷ amount ∷ []) values →
    ComesTo ty (on_integers (shift op) ty values)
shift_comes op ty (tree.IntType signed bits size) sized other values k = amount_comes op ty (tree.IntType signed bits size) (Sized signed bits) (λ v i. i) sized values k
shift_comes op ty _ sized other values k = absurd other

-- one integer, of any type
integer_comes : (meaning : IntTy → IntTy → ℤ → Result ℤ NumFault) → ((own : IntTy) (signed : Bool) (bits : ℕ) (x : ℤ) → ResultIn (Sized signed bits) (meaning own (Sized signed bits) x)) →
    (from ty : TypeTree) → IsSized from → IsSized ty → (values : List ValueTree) → AreValuesOf (from ∷ []) values → ComesTo ty (on_integer meaning (from ∷ []) ty values)
integer_comes meaning keeps (tree.IntType s n l) (tree.IntType signed bits size) own sized values k =
    one_number (tree.IntType s n l) (Sized s n) (λ v i. i)
    (λ vs. ComesTo (tree.IntType signed bits size) (on_integer meaning (tree.IntType s n l ∷ []) (tree.IntType signed bits size) vs))
    (λ x i. number_comes signed bits size (meaning (Sized s n) (Sized signed bits) x) (keeps (Sized s n) signed bits x)) values k
integer_comes meaning keeps (tree.IntType s n l) _ own sized values k = absurd sized
integer_comes meaning keeps _ ty own sized values k = absurd own

-- ---- types that fit

sized_unsigned : (ty : TypeTree) → IsUnsigned ty → IsSized ty
sized_unsigned (tree.IntType signed bits size) h = tt
sized_unsigned _ h = absurd h

sized_signed : (ty : TypeTree) → IsSigned ty → IsSized ty
sized_signed (tree.IntType signed bits size) h = tt
sized_signed _ h = absurd h

sized_bytes : (ty : TypeTree) → HasWholeBytes ty → IsSized ty
sized_bytes (tree.IntType signed bits size) h = tt
sized_bytes _ h = absurd h

sized_division : (op : Division) (ty : TypeTree) → DivisionFits op ty → IsSized ty
sized_division quotient.Div ty h = sized_unsigned ty h
sized_division quotient.Rem ty h = sized_unsigned ty h
sized_division _ ty h = h

sized_cut : (from ty : TypeTree) → IsCutTo from ty → IsSized from × IsSized ty
sized_cut (tree.IntType s n l) (tree.IntType signed bits size) h = (tt, tt)
sized_cut (tree.IntType s n l) _ h = absurd h
sized_cut _ ty h = absurd h

sized_same : (from ty : TypeTree) → HasSameBits from ty → IsSized from × IsSized ty
sized_same (tree.IntType s n l) (tree.IntType signed bits size) h = (tt, tt)
sized_same (tree.IntType s n l) _ h = absurd h
sized_same _ ty h = absurd h

sized_magnitude : (from ty : TypeTree) → IsMagnitude from ty → IsSized from × IsSized ty
sized_magnitude (tree.IntType s n l) ty h = (tt, subst (λ (t : TypeTree). IsSized t) (sym h) tt)
sized_magnitude _ ty h = absurd h

both_sized : (from ty : TypeTree) → from ≡ ty → IsSized ty → IsSized from × IsSized ty
both_sized from ty e h = (subst (λ (t : TypeTree). IsSized t) (sym e) h, h)

sized_unary : (op : Unary) (from ty : TypeTree) → UnaryFits op from ty → IsSized from × IsSized ty
sized_unary one.Neg from ty (h, e) = both_sized from ty e (sized_signed ty h)
sized_unary one.NegWrap from ty (h, e) = both_sized from ty e h
sized_unary one.BitNot from ty (h, e) = both_sized from ty e h
sized_unary one.ByteSwap from ty (h, e) = both_sized from ty e (sized_bytes ty h)
sized_unary one.BitReverse from ty (h, e) = both_sized from ty e h
sized_unary one.Abs from ty h = sized_magnitude from ty h

-- ---- counts, orders, the least and the greatest

count_comes : (op : Count) (from ty : TypeTree) → CountFits from ty → (values : List ValueTree) → AreValuesOf (from ∷ []) values → ComesTo ty (applied (family.Count op) (from ∷ []) ty values)
count_comes op (tree.IntType signed bits size) (tree.IntType false wide false) (room, least) values k =
    one_number (tree.IntType signed bits size) (Sized signed bits) (λ v i. i)
    (λ vs. ComesTo (tree.IntType false wide false) (applied (family.Count op) (tree.IntType signed bits size ∷ []) (tree.IntType false wide false) vs))
    (λ z i. in_room bits wide (counted op bits (pattern bits z)) (counted_le op bits z) room) values k
  where
    in_room : (bits wide n : ℕ) → n ≤ bits → bits < 2 ^ wide → IsIn (Sized false wide) (pos n)
    in_room bits wide n few room = record { at_least = omega (arith, ints); at_most = omega (arith, ints, few, room) }
count_comes op (tree.IntType signed bits size) (tree.IntType false wide true) h values k = absurd h
count_comes op (tree.IntType signed bits size) (tree.IntType true wide l) h values k = absurd h
count_comes op (tree.IntType signed bits size) _ h values k = absurd h
count_comes op _ ty h values k = absurd h

truths_come : (op : Comparison) → IsEquality op → (same : Bool) → ComesTo tree.BoolType (equality op same)
truths_come order.Equal h same = tt
truths_come order.NotEqual h same = tt
truths_come order.Less h same = absurd h
truths_come order.LessOrEqual h same = absurd h
truths_come order.Greater h same = absurd h
truths_come order.GreaterOrEqual h same = absurd h

numbers_compared : (op : Comparison) (t u : TypeTree) (own other : IntTy) → ((v : ValueTree) → IsValueOf t v → IsNumberIn own v) →
    ((v : ValueTree) → IsValueOf u v → IsNumberIn other v) → (values : List ValueTree) → AreValuesOf (t ∷ u ∷ []) values → ComesTo tree.BoolType (on_two (compared_values op) values)
numbers_compared op t u own other first second values k =
    two_numbers t u own other first second (λ vs. ComesTo tree.BoolType (on_two (compared_values op) vs)) (λ x y i j. tt) values k

order_comes : (op : Comparison) (a b : TypeTree) → OrderFits op a b → (values : List ValueTree) → AreValuesOf (a ∷ b ∷ []) values →
    ComesTo tree.BoolType (on_two (compared_values op) values)
order_comes op (tree.IntType s n l) (tree.IntType s' n' l') h values k =
    numbers_compared op (tree.IntType s n l) (tree.IntType s' n' l') (Sized s n) (Sized s' n') (λ v i. i) (λ v i. i) values k
order_comes op tree.BoolType tree.BoolType h values k =
    two_truths (λ vs. ComesTo tree.BoolType (on_two (compared_values op) vs)) (λ a b. truths_come op h _) values k
order_comes op (tree.IntType s n l) _ h values k = absurd h
order_comes op tree.BoolType _ h values k = absurd h
order_comes op _ b h values k = absurd h

known_order_comes : (op : Comparison) (a b : TypeTree) → OneIsKnown a b → (values : List ValueTree) → AreValuesOf (a ∷ b ∷ []) values →
    ComesTo tree.BoolType (on_two (compared_values op) values)
known_order_comes op (tree.IntType s n l) tree.ComptimeIntType h values k =
    numbers_compared op (tree.IntType s n l) tree.ComptimeIntType (Sized s n) Comptime (λ v i. i) (λ v i. i) values k
known_order_comes op tree.ComptimeIntType (tree.IntType s n l) h values k =
    numbers_compared op tree.ComptimeIntType (tree.IntType s n l) Comptime (Sized s n) (λ v i. i) (λ v i. i) values k
known_order_comes op (tree.IntType s n l) _ h values k = absurd h
known_order_comes op tree.ComptimeIntType _ h values k = absurd h
known_order_comes op _ b h values k = absurd h

abbrev NumbersIn : IntTy → List ValueTree → Type 0
NumbersIn ty [] = Unit {0}
NumbersIn ty (v ∷ values) = IsNumberIn ty v × NumbersIn ty values

numbers_in : (signed : Bool) (bits : ℕ) (size : Bool) (types : List TypeTree) → All (λ a. a ≡ tree.IntType signed bits size) types → (values : List ValueTree) → AreValuesOf types values →
    NumbersIn (Sized signed bits) values
numbers_in signed bits size [] same [] k = tt
numbers_in signed bits size [] same (v ∷ values) k = absurd k
numbers_in signed bits size (t ∷ types) same [] k = absurd k
numbers_in signed bits size (t ∷ types) same (v ∷ values) (i, k) = (
  subst (λ (s : TypeTree). IsValueOf s v) (All-head (λ a. a ≡ tree.IntType signed bits size) t types same) i,
  numbers_in signed bits size types (All-tail (λ a. a ≡ tree.IntType signed bits size) t types same) values k,
)

extremes_from : (op : Extreme) (signed : Bool) (bits : ℕ) (size : Bool) (a : ℤ) → IsIn (Sized signed bits) a → (values : List ValueTree) → NumbersIn (Sized signed bits) values →
    ComesTo (tree.IntType signed bits size) (extreme_from op a values)
extremes_from op signed bits size a i [] k = i
extremes_from op signed bits size a i (tree.NumberValue b ∷ values) (j, k) =
    extremes_from op signed bits size (extreme op a b) (one_of-in op (Sized signed bits) a b i j) values k
extremes_from op signed bits size a i (_ ∷ values) (j, k) = absurd j

extremes_of : (op : Extreme) (signed : Bool) (bits : ℕ) (size : Bool) (t : TypeTree) (types : List TypeTree) (values : List ValueTree) → AreValuesOf (t ∷ types) values →
    NumbersIn (Sized signed bits) values → ComesTo (tree.IntType signed bits size) (extreme_of op values)
extremes_of op signed bits size t types [] k n = absurd k
extremes_of op signed bits size t types (tree.NumberValue a ∷ values) k (i, n) = extremes_from op signed bits size a i values n
extremes_of op signed bits size t types (_ ∷ values) k (i, n) = absurd i

extreme_comes : (op : Extreme) (kids : List TypeTree) (ty : TypeTree) → IsSized ty → (kids ≡ [] → ⊥) → All (λ a. a ≡ ty) kids → (values : List ValueTree) → AreValuesOf kids values →
    ComesTo ty (extreme_of op values)
extreme_comes op [] ty sized some same values k = absurd (some refl)
extreme_comes op (t ∷ types) (tree.IntType signed bits size) sized some same values k =
    extremes_of op signed bits size t types values k (numbers_in signed bits size (t ∷ types) same values k)
extreme_comes op (t ∷ types) _ sized some same values k = absurd sized

-- ---- casts

of_kids : (kids these : List TypeTree) → kids ≡ these → (values : List ValueTree) → AreValuesOf kids values → AreValuesOf these values
of_kids kids these e values k = subst (λ (ts : List TypeTree). AreValuesOf ts values) e k

bit_comes : (values : List ValueTree) → AreValuesOf (tree.BoolType ∷ []) values → (kids : List TypeTree) →
    ComesTo (tree.IntType false 1 false) (applied (family.Cast cast.IntFromBool) kids (tree.IntType false 1 false) values)
bit_comes values k kids =
    one_truth (λ vs. ComesTo (tree.IntType false 1 false) (applied (family.Cast cast.IntFromBool) kids (tree.IntType false 1 false) vs)) by_truth values k
  where
    by_truth : (b : Bool) → ComesTo (tree.IntType false 1 false) (applied (family.Cast cast.IntFromBool) kids (tree.IntType false 1 false) (tree.TruthValue b ∷ []))
    by_truth true = record { at_least = omega (arith, ints); at_most = omega (arith, ints) }
    by_truth false = record { at_least = omega (arith, ints); at_most = omega (arith, ints) }

cast_comes : (op : Cast) (kids : List TypeTree) (ty : TypeTree) → CastFits op kids ty → (values : List ValueTree) → AreValuesOf kids values → ComesTo ty (applied (family.Cast op) kids ty values)
cast_comes cast.IntFromBool kids ty (is, e) values k =
    subst (λ (t : TypeTree). ComesTo t (applied (family.Cast cast.IntFromBool) kids t values)) (sym is) (bit_comes values (of_kids kids (tree.BoolType ∷ []) e values k) kids)
cast_comes cast.IntCast (a ∷ []) ty (h, i) values k =
    integer_comes (λ own. converted cast.IntCast) (λ own signed bits x. cast-in (Sized signed bits) x) a ty h i values k
cast_comes cast.Truncate (a ∷ []) ty h values k =
    integer_comes (λ own. converted cast.Truncate) (λ own signed bits x. wrapped_in signed bits x) a ty (sized_cut a ty h).0 (sized_cut a ty h).1 values k
cast_comes cast.BitCast (a ∷ []) ty h values k =
    integer_comes (λ own. converted cast.BitCast) (λ own signed bits x. wrapped_in signed bits x) a ty (sized_same a ty h).0 (sized_same a ty h).1 values k
cast_comes cast.As kids ty h values k = absurd h
cast_comes cast.IntCast [] ty h values k = absurd h
cast_comes cast.IntCast (a ∷ b ∷ more) ty h values k = absurd h
cast_comes cast.Truncate [] ty h values k = absurd h
cast_comes cast.Truncate (a ∷ b ∷ more) ty h values k = absurd h
cast_comes cast.BitCast [] ty h values k = absurd h
cast_comes cast.BitCast (a ∷ b ∷ more) ty h values k = absurd h

logic_comes : (op : Logic) (kids : List TypeTree) (ty : TypeTree) → LogicFits op kids ty → (values : List ValueTree) → AreValuesOf kids values → ComesTo ty (applied (family.Logic op) kids ty values)
logic_comes logic.Not kids ty (is, e) values k =
    subst (λ (t : TypeTree). ComesTo t (applied (family.Logic logic.Not) kids t values)) (sym is)
    (one_truth (λ vs. ComesTo tree.BoolType (applied (family.Logic logic.Not) kids tree.BoolType vs)) (λ b. tt) values (of_kids kids (tree.BoolType ∷ []) e values k))
logic_comes logic.And kids ty h values k = absurd h
logic_comes logic.Or kids ty h values k = absurd h

-- ---- all of them

operands_come : (op : Operator) (kids : List TypeTree) (ty : TypeTree) → OperandsFit op kids ty → IsRunType ty → (values : List ValueTree) → AreValuesOf kids values → ComesTo ty (applied op kids ty values)
operands_come (family.Arithmetic op) kids ty (sized, e) wide values k =
    integers_come (arithmetic op) (λ own w x y i j. arithmetic-in op own x y) ty sized wide values (of_kids kids (ty ∷ ty ∷ []) e values k)
operands_come (family.Division op) kids ty (fits, e) wide values k =
    integers_come (division op) (λ own w x y i j. division-in op own w x y i j) ty (sized_division op ty fits) wide values (of_kids kids (ty ∷ ty ∷ []) e values k)
operands_come (family.Bitwise op) kids ty (sized, e) wide values k =
    integers_come (λ own x y. Ok (bitwise op x y)) (λ own w x y i j. bitwise-in op own x y i j) ty sized wide values (of_kids kids (ty ∷ ty ∷ []) e values k)
operands_come (family.Shift op) (a ∷ b ∷ []) ty (sized, same, other) wide values k =
    shift_comes op ty b sized other values (subst (λ (t : TypeTree). AreValuesOf (t ∷ b ∷ []) values) same k)
operands_come (family.Shift op) [] ty h wide values k = absurd h
operands_come (family.Shift op) (a ∷ []) ty h wide values k = absurd h
operands_come (family.Shift op) (a ∷ b ∷ c ∷ more) ty h wide values k = absurd h
operands_come (family.Unary op) (a ∷ []) ty fits wide values k =
    integer_comes (unary op) (λ own signed bits x. unary-in op own signed bits x) a ty (sized_unary op a ty fits).0 (sized_unary op a ty fits).1 values k
operands_come (family.Unary op) [] ty h wide values k = absurd h
operands_come (family.Unary op) (a ∷ b ∷ more) ty h wide values k = absurd h
operands_come (family.Count op) (a ∷ []) ty fits wide values k = count_comes op a ty fits values k
operands_come (family.Count op) [] ty h wide values k = absurd h
operands_come (family.Count op) (a ∷ b ∷ more) ty h wide values k = absurd h
operands_come (family.Extreme op) kids ty (sized, some, same) wide values k = extreme_comes op kids ty sized some same values k
operands_come (family.Comparison op) (a ∷ b ∷ []) ty (is, fits) wide values k =
    subst (λ (t : TypeTree). ComesTo t (on_two (compared_values op) values)) (sym is) (order_comes op a b fits values k)
operands_come (family.Comparison op) [] ty h wide values k = absurd h
operands_come (family.Comparison op) (a ∷ []) ty h wide values k = absurd h
operands_come (family.Comparison op) (a ∷ b ∷ c ∷ more) ty h wide values k = absurd h
operands_come (family.Cast op) kids ty fits wide values k = cast_comes op kids ty fits values k
operands_come (family.Logic op) kids ty fits wide values k = logic_comes op kids ty fits values k
operands_come (family.Measure op) kids ty h wide values k = absurd h

known_come : (op : Operator) (kids : List TypeTree) (ty : TypeTree) → KnownFits op kids ty → (values : List ValueTree) → AreValuesOf kids values → ComesTo ty (applied op kids ty values)
known_come (family.Comparison op) (a ∷ b ∷ []) ty (is, fits) values k =
    subst (λ (t : TypeTree). ComesTo t (on_two (compared_values op) values)) (sym is) (known_order_comes op a b fits values k)
known_come (family.Shift by.ShlSat) (a ∷ b ∷ []) ty (sized, same, other) values k =
    amount_comes by.ShlSat ty tree.ComptimeIntType Comptime (λ v i. i) sized values
    (subst (λ (t : TypeTree). AreValuesOf (ty ∷ t ∷ []) values) other (subst (λ (t : TypeTree). AreValuesOf (t ∷ b ∷ []) values) same k))
known_come (family.Comparison op) [] ty h values k = absurd h
known_come (family.Comparison op) (a ∷ []) ty h values k = absurd h
known_come (family.Comparison op) (a ∷ b ∷ c ∷ more) ty h values k = absurd h
known_come (family.Shift by.ShlSat) [] ty h values k = absurd h
known_come (family.Shift by.ShlSat) (a ∷ []) ty h values k = absurd h
known_come (family.Shift by.ShlSat) (a ∷ b ∷ c ∷ more) ty h values k = absurd h
known_come (family.Shift _) kids ty h values k = absurd h
known_come _ kids ty h values k = absurd h

pub operator_comes : (op : Operator) (kids : List TypeTree) (ty : TypeTree) → OperatesOn op kids ty → IsRunType ty → (values : List ValueTree) → AreValuesOf kids values → ComesTo ty (applied op kids ty values)
operator_comes op kids ty (inl fits) wide values k = operands_come op kids ty fits wide values k
operator_comes op kids ty (inr fits) wide values k = known_come op kids ty fits values k
