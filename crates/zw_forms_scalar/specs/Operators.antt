-- The rules of operators on integers, truth values and types (Zig Language Reference 0.13.0, Operators), with the numbers of their errors
-- (this project's own): 14 no peer type, 16 a known value is required, 20 not defined on the type, 21 illegal while compiling.
use Rattle.std.specs.Prelude.{ℕ, ℤ, pos, negsuc, Bool, true, false, not, ◌&&◌, ◌||◌, nat_eq, nat_le, int_lt, if◌then◌else◌, List, [], ◌∷◌, Option, Some, None}
use Rattle.zw_base.specs.declared.stop.StopKind.TheVariants.{Error}
use Rattle.zw_num.specs.declared.operator.Arithmetic.TheVariants as sum
use Rattle.zw_num.specs.declared.operator.Bitwise.TheVariants as bits
use Rattle.zw_num.specs.declared.operator.Comparison.TheVariants as order
use Rattle.zw_num.specs.declared.operator.Division.TheVariants as quotient
use Rattle.zw_num.specs.declared.operator.Logic.TheVariants as logic
use Rattle.zw_num.specs.declared.operator.Shift.TheVariants as shift
use Rattle.zw_num.specs.declared.operator.Unary.TheVariants as one
use Rattle.zw_num.specs.declared.operator.Operator.{Operator}
use Rattle.zw_num.specs.declared.operator.Operator.TheVariants as family
use Rattle.zw_tree.specs.declared.kind.NodeKind.{NodeKind}
use Rattle.zw_tree.specs.declared.kind.NodeKind.TheVariants as kind
use Rattle.zw_types.specs.TypeTrees as tree
use Rattle.zw_types.specs.TypeTrees.{TypeTree, ValueTree}
use Rattle.zw_values.specs.Coercions.{integer_of, peer_of}
use Rattle.zw_typed.specs.Nodes.{Logic, And, Or, Decide}
use Rattle.zw_env.specs.Parts.{Part, Next, Visit, Operation, Emit, Done, Halt, a_value, in_type, alone}

-- ---- what is asked of a part

abbrev pub is_some : {A : Type 0} → Option A → Bool
is_some None = false
is_some (Some a) = true

abbrev pub is_integer : TypeTree → Bool
is_integer ty = is_some (integer_of ty)

abbrev pub is_truth : TypeTree → Bool
is_truth tree.BoolType = true
is_truth _ = false

abbrev pub is_type : TypeTree → Bool
is_type tree.TypeType = true
is_type _ = false

abbrev pub is_unsigned : TypeTree → Bool
is_unsigned (tree.IntType signed bits size) = not signed
is_unsigned _ = false

abbrev pub is_comptime_int : TypeTree → Bool
is_comptime_int tree.ComptimeIntType = true
is_comptime_int _ = false

-- signed, or `comptime_int`
abbrev pub has_negatives : TypeTree → Bool
has_negatives (tree.IntType signed bits size) = signed
has_negatives tree.ComptimeIntType = true
has_negatives _ = false

abbrev pub is_sized : TypeTree → Bool
is_sized (tree.IntType signed bits size) = true
is_sized _ = false

-- of a number that is known
abbrev pub known_is : (ℤ → Bool) → Option ValueTree → Bool
known_is is (Some (tree.NumberValue z)) = is z
known_is is _ = false

abbrev pub is_zero : ℤ → Bool
is_zero (pos n) = nat_eq n 0
is_zero (negsuc n) = false

abbrev pub is_positive : ℤ → Bool
is_positive z = int_lt (pos 0) z

abbrev pub is_natural : ℤ → Bool
is_natural (pos n) = true
is_natural (negsuc n) = false

-- ---- two integers in the peer type

abbrev pub in_peer : {N : Type 0} → Operator → Part N → Part N → Option TypeTree → Next N
in_peer name a b None = Halt (Error 14)
in_peer name a b (Some ty) = Operation name ty (in_type ty a ∷ in_type ty b ∷ [])

abbrev pub arithmetic : {N : Type 0} → Operator → Part N → Part N → Next N
arithmetic name a b = if is_integer a.ty && is_integer b.ty then in_peer name a b (peer_of a.ty b.ty) else Halt (Error 20)

-- `/` and `%`: unsigned, or known with a numerator of at least 0 and a denominator above 0; a denominator that is known to be 0 can't be
abbrev pub division_in : {N : Type 0} → Operator → Part N → Part N → Option TypeTree → Next N
division_in name a b None = Halt (Error 14)
division_in name a b (Some ty) =
    if is_unsigned ty then (if known_is is_zero b.known then Halt (Error 21) else in_peer name a b (Some ty))
    else (if known_is is_natural a.known && known_is is_positive b.known then in_peer name a b (Some ty) else Halt (Error 20))

abbrev pub division : {N : Type 0} → Operator → Part N → Part N → Next N
division name a b = if is_integer a.ty && is_integer b.ty then division_in name a b (peer_of a.ty b.ty) else Halt (Error 20)

-- ---- shifts

-- the least w with 2 ^ w at least the bits
abbrev pub amount_bits : ℕ → ℕ
amount_bits bits =
    if nat_le bits 1 then 0 else (if nat_le bits 2 then 1 else (if nat_le bits 4 then 2 else (if nat_le bits 8 then 3 else (
    if nat_le bits 16 then 4 else (if nat_le bits 32 then 5 else 6)))))

-- the type that is wanted of the amount
abbrev pub amount_type : TypeTree → Option TypeTree
amount_type (tree.IntType signed bits size) = Some (tree.IntType false (amount_bits bits) false)
amount_type tree.ComptimeIntType = Some tree.ComptimeIntType
amount_type _ = None

-- a `comptime_int` is shifted by an amount that is known
abbrev pub shift_by : {N : Type 0} → Operator → Part N → Part N → Next N
shift_by name a b =
    if is_comptime_int a.ty && not (is_some b.known) then Halt (Error 16) else Operation name a.ty (alone a ∷ alone b ∷ [])

abbrev pub shifting : {N : Type 0} → Operator → Part N → Part N → Next N
shifting name a b = if is_integer a.ty && is_integer b.ty then shift_by name a b else Halt (Error 20)

-- the amount of `<<|` is of an unsigned type, or a known `comptime_int` that isn't negative
abbrev pub is_saturating_amount : {N : Type 0} → Part N → Bool
is_saturating_amount b = is_unsigned b.ty || (is_comptime_int b.ty && known_is is_natural b.known)

abbrev pub saturating_shift : {N : Type 0} → Operator → Part N → Part N → Next N
saturating_shift name a b = if is_integer a.ty && is_saturating_amount b then shift_by name a b else Halt (Error 20)

-- ---- comparisons, of exact values whatever the types of the integers

abbrev pub compared : {N : Type 0} → Operator → Part N → Part N → Next N
compared name a b = Operation name tree.BoolType (alone a ∷ alone b ∷ [])

abbrev pub ordering : {N : Type 0} → Operator → Part N → Part N → Next N
ordering name a b = if is_integer a.ty && is_integer b.ty then compared name a b else Halt (Error 20)

abbrev pub has_equality : TypeTree → Bool
has_equality ty = is_integer ty || is_truth ty || is_type ty

abbrev pub are_alike : TypeTree → TypeTree → Bool
are_alike a b = (is_integer a && is_integer b) || (is_truth a && is_truth b) || (is_type a && is_type b)

abbrev pub equality : {N : Type 0} → Operator → Part N → Part N → Next N
equality name a b =
    if are_alike a.ty b.ty then compared name a b else (if has_equality a.ty && has_equality b.ty then Halt (Error 14) else Halt (Error 20))

-- ---- the operators with two operands

pub data Family : Type 0 where
  Arithmetic Division Shifting SaturatingShift Ordering Equality : Family

-- what it asks of its operands, and the operator itself
abbrev pub binary_operator : NodeKind → Option (Family × Operator)
binary_operator kind.Add = Some (Arithmetic, family.Arithmetic sum.Add)
binary_operator kind.Subtract = Some (Arithmetic, family.Arithmetic sum.Sub)
binary_operator kind.Multiply = Some (Arithmetic, family.Arithmetic sum.Mul)
binary_operator kind.AddWrap = Some (Arithmetic, family.Arithmetic sum.AddWrap)
binary_operator kind.SubtractWrap = Some (Arithmetic, family.Arithmetic sum.SubWrap)
binary_operator kind.MultiplyWrap = Some (Arithmetic, family.Arithmetic sum.MulWrap)
binary_operator kind.AddSaturate = Some (Arithmetic, family.Arithmetic sum.AddSat)
binary_operator kind.SubtractSaturate = Some (Arithmetic, family.Arithmetic sum.SubSat)
binary_operator kind.MultiplySaturate = Some (Arithmetic, family.Arithmetic sum.MulSat)
binary_operator kind.BitAnd = Some (Arithmetic, family.Bitwise bits.And)
binary_operator kind.BitOr = Some (Arithmetic, family.Bitwise bits.Or)
binary_operator kind.BitXor = Some (Arithmetic, family.Bitwise bits.Xor)
binary_operator kind.Divide = Some (Division, family.Division quotient.Div)
binary_operator kind.Remainder = Some (Division, family.Division quotient.Rem)
binary_operator kind.ShiftLeft = Some (Shifting, family.Shift shift.Shl)
binary_operator kind.ShiftRight = Some (Shifting, family.Shift shift.Shr)
binary_operator kind.ShiftLeftSaturate = Some (SaturatingShift, family.Shift shift.ShlSat)
binary_operator kind.Less = Some (Ordering, family.Comparison order.Less)
binary_operator kind.LessOrEqual = Some (Ordering, family.Comparison order.LessOrEqual)
binary_operator kind.Greater = Some (Ordering, family.Comparison order.Greater)
binary_operator kind.GreaterOrEqual = Some (Ordering, family.Comparison order.GreaterOrEqual)
binary_operator kind.Equal = Some (Equality, family.Comparison order.Equal)
binary_operator kind.NotEqual = Some (Equality, family.Comparison order.NotEqual)
binary_operator _ = None

-- what is wanted of the right operand, when the left one is there
abbrev pub right_wanted : {N : Type 0} → Family → Part N → Option TypeTree
right_wanted Shifting a = amount_type a.ty
right_wanted _ a = None

abbrev pub on_operands : {N : Type 0} → Family → Operator → Part N → Part N → Next N
on_operands Arithmetic name a b = arithmetic name a b
on_operands Division name a b = division name a b
on_operands Shifting name a b = shifting name a b
on_operands SaturatingShift name a b = saturating_shift name a b
on_operands Ordering name a b = ordering name a b
on_operands Equality name a b = equality name a b

-- The left operand, the right one, and the operator on them: `left` and `right` are the children.
abbrev pub binary_rule : {N : Type 0} → Family → Operator → ℕ → ℕ → List (Part N) → Next N
binary_rule family name left right [] = Visit left None
binary_rule family name left right (a ∷ []) = Visit right (right_wanted family a)
binary_rule family name left right (a ∷ b ∷ []) = on_operands family name a b
binary_rule family name left right (a ∷ b ∷ result ∷ more) = Done result

-- ---- `and` and `or`: where the left operand is known and decides, the right one isn't analysed

abbrev pub after_left : {N : Type 0} → Logic → ℕ → Option ValueTree → Next N
after_left And right (Some (tree.TruthValue false)) = Done (a_value tree.BoolType (tree.TruthValue false))
after_left Or right (Some (tree.TruthValue true)) = Done (a_value tree.BoolType (tree.TruthValue true))
after_left _ right _ = Visit right None

-- a left operand that is known and doesn't decide leaves the right one as the result
abbrev pub after_both : {N : Type 0} → Logic → Part N → Part N → Next N
after_both op a b =
    if is_some a.known then Done b else Emit (Decide op) tree.BoolType (alone a ∷ alone b ∷ [])

abbrev pub logic_rule : {N : Type 0} → Logic → ℕ → ℕ → List (Part N) → Next N
logic_rule op left right [] = Visit left None
logic_rule op left right (a ∷ []) = if is_truth a.ty then after_left op right a.known else Halt (Error 20)
logic_rule op left right (a ∷ b ∷ []) = if is_truth b.ty then after_both op a b else Halt (Error 20)
logic_rule op left right (a ∷ b ∷ result ∷ more) = Done result

-- ---- the operators with one operand

-- the operator, and the types that it is defined on
abbrev pub unary_operator : NodeKind → Option (Operator × (TypeTree → Bool))
unary_operator kind.Negate = Some (family.Unary one.Neg, has_negatives)
unary_operator kind.NegateWrap = Some (family.Unary one.NegWrap, is_sized)
unary_operator kind.BitNot = Some (family.Unary one.BitNot, is_sized)
unary_operator kind.Not = Some (family.Logic logic.Not, is_truth)
unary_operator _ = None

abbrev pub unary_rule : {N : Type 0} → Operator → (TypeTree → Bool) → ℕ → List (Part N) → Next N
unary_rule name is_defined operand [] = Visit operand None
unary_rule name is_defined operand (a ∷ []) = if is_defined a.ty then Operation name a.ty (alone a ∷ []) else Halt (Error 20)
unary_rule name is_defined operand (a ∷ result ∷ more) = Done result
