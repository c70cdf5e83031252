-- The rules of operators on integers, truth values and types (Zig Language Reference 0.13.0, Operators), where operands may be of any form, with the numbers
-- of their errors (this project's own): 14 no peer type, 16 a known value is required, 20 not defined on the type, 21 illegal while compiling.
use Rattle.std.specs.Prelude.{ℕ, Bool, true, false, not, ◌&&◌, ◌||◌, List, [], ◌∷◌, Option, Some, None}
use Rattle.zw_base.specs.declared.stop.StopKind.TheVariants.{Error}
use Rattle.zw_num.specs.declared.operator.Operator.{Operator}
use Rattle.zw_types.specs.TypeTrees as tree
use Rattle.zw_types.specs.TypeTrees.{TypeTree, ValueTree}
use Rattle.zw_values.specs.Coercions.{peer_of}
use Rattle.zw_typed.specs.Nodes.{Logic, And, Or}
use Rattle.zw_env.specs.FlowParts.{Part, Occurrence, Rule, Next, Ask, Operate, Become, Emit, Done, Halt, Wanted, Nothing, wanted_of, Deciding, a_value, in_type, alone, known_of, is_known, never_ends, operand_at, take, last_of}
use Rattle.zw_env.specs.FlowChildren.{forms}
use Rattle.zw_forms_scalar.specs.Operators.{Family, Arithmetic, Division, Shifting, SaturatingShift, Ordering, Equality, is_integer, is_unsigned, is_comptime_int, is_truth, has_equality, are_alike, known_is, is_zero, is_positive, is_natural, amount_type}

-- What is due with the result of an operator: the result, and the parts behind it.
abbrev pub Rest : Type 0 → Type 0
Rest N = Part N → List (Part N) → Next N

-- ---- two integers in the peer type

abbrev pub in_peer : {N : Type 0} → Operator → Part N → Part N → Option TypeTree → List (Part N) → Rest N → Next N
in_peer name a b None parts due = Halt (Error 14)
in_peer name a b (Some ty) parts due = take (Operate name ty (in_type ty a ∷ in_type ty b ∷ [])) parts due

abbrev pub arithmetic : {N : Type 0} → Operator → Part N → Part N → List (Part N) → Rest N → Next N
arithmetic name a b parts due =
    elim (is_integer a.ty && is_integer b.ty) [ true ↦ in_peer name a b (peer_of a.ty b.ty) parts due | false ↦ Halt (Error 20) ]

-- `/` and `%`, on operands that are of the peer type by now: unsigned, or known with a numerator of at least 0 and a denominator above 0. A denominator
-- that is known to be 0 can't be.
abbrev pub divided : {N : Type 0} → Operator → TypeTree → Part N → Part N → List (Part N) → Rest N → Next N
divided name ty a b parts due =
    elim (is_unsigned ty || (known_is is_natural (known_of a) && known_is is_positive (known_of b))) [
      | false ↦ Halt (Error 20)
      | true ↦ elim (known_is is_zero (known_of b)) [ true ↦ Halt (Error 21) | false ↦ take (Operate name ty (alone a ∷ alone b ∷ [])) parts due ]
    ]

abbrev pub division_in : {N : Type 0} → Operator → Part N → Part N → Option TypeTree → List (Part N) → Rest N → Next N
division_in name a b None parts due = Halt (Error 14)
division_in name a b (Some ty) parts due =
    take (Become ty a) parts (λ x more. take (Become ty b) more (λ y others. divided name ty x y others due))

abbrev pub division : {N : Type 0} → Operator → Part N → Part N → List (Part N) → Rest N → Next N
division name a b parts due =
    elim (is_integer a.ty && is_integer b.ty) [ true ↦ division_in name a b (peer_of a.ty b.ty) parts due | false ↦ Halt (Error 20) ]

-- ---- shifts

-- a `comptime_int` is shifted by an amount that is known
abbrev pub shift_by : {N : Type 0} → Operator → Part N → Part N → List (Part N) → Rest N → Next N
shift_by name a b parts due =
    elim (is_comptime_int a.ty && not (is_known b)) [ true ↦ Halt (Error 16) | false ↦ take (Operate name a.ty (alone a ∷ alone b ∷ [])) parts due ]

abbrev pub shifting : {N : Type 0} → Operator → Part N → Part N → List (Part N) → Rest N → Next N
shifting name a b parts due = elim (is_integer a.ty && is_integer b.ty) [ true ↦ shift_by name a b parts due | false ↦ Halt (Error 20) ]

-- the amount of `<<|` is of an unsigned type, or a `comptime_int`, which has to be known and isn't negative
abbrev pub is_amount : TypeTree → Bool
is_amount ty = is_unsigned ty || is_comptime_int ty

abbrev pub is_negative_amount : {N : Type 0} → Part N → Bool
is_negative_amount b = is_comptime_int b.ty && (is_known b && not (known_is is_natural (known_of b)))

abbrev pub saturating_shift : {N : Type 0} → Operator → Part N → Part N → List (Part N) → Rest N → Next N
saturating_shift name a b parts due =
    elim (is_integer a.ty && (is_amount b.ty && not (is_negative_amount b))) [ true ↦ shift_by name a b parts due | false ↦ Halt (Error 20) ]

-- ---- comparisons, of exact values whatever the types of the integers

abbrev pub compared : {N : Type 0} → Operator → Part N → Part N → List (Part N) → Rest N → Next N
compared name a b parts due = take (Operate name tree.BoolType (alone a ∷ alone b ∷ [])) parts due

abbrev pub ordering : {N : Type 0} → Operator → Part N → Part N → List (Part N) → Rest N → Next N
ordering name a b parts due = elim (is_integer a.ty && is_integer b.ty) [ true ↦ compared name a b parts due | false ↦ Halt (Error 20) ]

abbrev pub no_equality : {N : Type 0} → Part N → Part N → Next N
no_equality a b = elim (has_equality a.ty && has_equality b.ty) [ true ↦ Halt (Error 14) | false ↦ Halt (Error 20) ]

abbrev pub equality : {N : Type 0} → Operator → Part N → Part N → List (Part N) → Rest N → Next N
equality name a b parts due = elim (are_alike a.ty b.ty) [ true ↦ compared name a b parts due | false ↦ no_equality a b ]

-- ---- the operators with two operands

abbrev pub on_operands : {N : Type 0} → Family → Operator → Part N → Part N → List (Part N) → Rest N → Next N
on_operands Arithmetic name a b parts due = arithmetic name a b parts due
on_operands Division name a b parts due = division name a b parts due
on_operands Shifting name a b parts due = shifting name a b parts due
on_operands SaturatingShift name a b parts due = saturating_shift name a b parts due
on_operands Ordering name a b parts due = ordering name a b parts due
on_operands Equality name a b parts due = equality name a b parts due

-- what is wanted of the right operand, when the left one is there
abbrev pub right_wanted : {N : Type 0} → Family → Part N → Wanted
right_wanted Shifting a = wanted_of (amount_type a.ty)
right_wanted _ a = Nothing

-- the left operand, the right one, and the operator on them
abbrev pub binary_on : {N : Type 0} → Family → Operator → List ℕ → Rule N
binary_on family name (left ∷ right ∷ others) site parts =
    take (Ask (operand_at site left Nothing)) parts (λ a more.
    take (Ask (operand_at site right (right_wanted family a))) more (λ b rest.
    on_operands family name a b rest (λ result last. Done result)))
binary_on family name _ site parts = Halt (Error 36)

abbrev pub binary_rule : {N : Type 0} → Family → Operator → Rule N
binary_rule family name site parts = binary_on family name (forms site.here) site parts

-- ---- `and` and `or`: where the left operand is known and decides, the right one isn't analysed

pub data Left : Type 0 where
  Decides : ValueTree → Left
  Passes : Left
  IsOpen : Left

abbrev pub left_of : Logic → Option ValueTree → Left
left_of And (Some (tree.TruthValue false)) = Decides (tree.TruthValue false)
left_of Or (Some (tree.TruthValue true)) = Decides (tree.TruthValue true)
left_of op None = IsOpen
left_of op (Some v) = Passes

-- The right operand stands under a condition where the left one isn't known, and then needn't come to its end.
abbrev pub right_at : {N : Type 0} → Occurrence → ℕ → Bool → Next N
right_at site right unknown = Ask (record (operand_at site right Nothing) { ends = not unknown; conditional = unknown })

abbrev pub is_decided : {N : Type 0} → Part N → Bool
is_decided b = is_truth b.ty || never_ends b

abbrev pub after_both : {N : Type 0} → Logic → Part N → Part N → List (Part N) → Next N
after_both op a b parts =
    elim (is_decided b) [ true ↦ last_of (Emit (Deciding op a b) tree.BoolType) parts | false ↦ Halt (Error 20) ]

abbrev pub the_right : {N : Type 0} → Part N → Next N
the_right b = elim (is_truth b.ty) [ true ↦ Done b | false ↦ Halt (Error 20) ]

abbrev pub after_left : {N : Type 0} → Logic → ℕ → Occurrence → Part N → Left → List (Part N) → Next N
after_left op right site a (Decides v) parts = Done (a_value tree.BoolType v)
after_left op right site a Passes parts = take (right_at site right false) parts (λ b more. the_right b)
after_left op right site a IsOpen parts = take (right_at site right true) parts (λ b more. after_both op a b more)

abbrev pub logic_on : {N : Type 0} → Logic → List ℕ → Rule N
logic_on op (left ∷ right ∷ others) site parts =
    take (Ask (operand_at site left Nothing)) parts (λ a more.
    elim (is_truth a.ty) [ true ↦ after_left op right site a (left_of op (known_of a)) more | false ↦ Halt (Error 20) ])
logic_on op _ site parts = Halt (Error 36)

abbrev pub logic_rule : {N : Type 0} → Logic → Rule N
logic_rule op site parts = logic_on op (forms site.here) site parts

-- ---- the operators with one operand

abbrev pub unary_on : {N : Type 0} → Operator → (TypeTree → Bool) → List ℕ → Rule N
unary_on name is_defined (child ∷ others) site parts =
    take (Ask (operand_at site child Nothing)) parts (λ a more.
    elim (is_defined a.ty) [ true ↦ last_of (Operate name a.ty (alone a ∷ [])) more | false ↦ Halt (Error 20) ])
unary_on name is_defined [] site parts = Halt (Error 36)

abbrev pub unary_rule : {N : Type 0} → Operator → (TypeTree → Bool) → Rule N
unary_rule name is_defined site parts = unary_on name is_defined (forms site.here) site parts
