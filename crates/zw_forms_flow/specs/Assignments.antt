-- The rules of assignments (Zig Language Reference 0.13.0, Assignment), with the numbers of their errors (this project's own): 16 a known value is required, 19 it
-- can't be written.
use Rattle.std.specs.Prelude.{ℕ, true, false, List, [], ◌∷◌, Option, Some, None}
use Rattle.zw_base.specs.declared.stop.StopKind.TheVariants.{Error}
use Rattle.zw_num.specs.declared.operator.Operator.{Operator}
use Rattle.zw_tree.specs.declared.kind.NodeKind.{NodeKind}
use Rattle.zw_tree.specs.declared.kind.NodeKind.TheVariants as kind
use Rattle.zw_types.specs.TypeTrees as tree
use Rattle.zw_env.specs.FlowParts.{Part, Stands, IsPlace, Occurrence, Rule, Next, Ask, Emit, Done, Halt, Reading, Writing, Updating, Discarding, Wanted, Nothing, OfType, wanted_of, Visit, nothing, is_known, is_lost, operand_at, take, last_of}
use Rattle.zw_env.specs.FlowChildren.{forms}
use Rattle.zw_forms_scalar.specs.Operators.{Family, Shifting, SaturatingShift, binary_operator, amount_type}
use Rattle.zw_forms_scalar.specs.FlowOperators.{on_operands}

-- the place is found before the value is evaluated
abbrev pub place_at : Occurrence → ℕ → Visit
place_at site child = record (operand_at site child Nothing) { as_place = true }

-- ---- `=`, and `_ =`

-- what isn't a place that can be written is told behind the value
abbrev pub written : {N : Type 0} → Stands N → Part N → List (Part N) → Next N
written (IsPlace true place) v parts = elim (is_lost v) [ true ↦ Halt (Error 16) | false ↦ last_of (Emit (Writing place v) tree.VoidType) parts ]
written _ v parts = Halt (Error 19)

abbrev pub discarded : {N : Type 0} → Part N → List (Part N) → Next N
discarded v parts =
    elim (is_lost v) [
      | true ↦ Halt (Error 16)
      | false ↦ elim (is_known v) [ true ↦ Done nothing | false ↦ last_of (Emit (Discarding v) tree.VoidType) parts ]
    ]

abbrev pub assign_on : {N : Type 0} → List ℕ → Rule N
assign_on (value ∷ []) site parts = take (Ask (operand_at site value Nothing)) parts (λ v more. discarded v more)
assign_on (place ∷ value ∷ others) site parts =
    take (Ask (place_at site place)) parts (λ p more.
    take (Ask (operand_at site value (OfType p.ty))) more (λ v rest. written p.stands v rest))
assign_on [] site parts = Halt (Error 36)

abbrev pub assign_rule : {N : Type 0} → Rule N
assign_rule site parts = assign_on (forms site.here) site parts

-- ---- `op=`

-- the operator of an assignment
abbrev pub operator_of : NodeKind → Option NodeKind
operator_of kind.AddAssign = Some kind.Add
operator_of kind.AddWrapAssign = Some kind.AddWrap
operator_of kind.AddSaturateAssign = Some kind.AddSaturate
operator_of kind.SubtractAssign = Some kind.Subtract
operator_of kind.SubtractWrapAssign = Some kind.SubtractWrap
operator_of kind.SubtractSaturateAssign = Some kind.SubtractSaturate
operator_of kind.MultiplyAssign = Some kind.Multiply
operator_of kind.MultiplyWrapAssign = Some kind.MultiplyWrap
operator_of kind.MultiplySaturateAssign = Some kind.MultiplySaturate
operator_of kind.DivideAssign = Some kind.Divide
operator_of kind.RemainderAssign = Some kind.Remainder
operator_of kind.BitAndAssign = Some kind.BitAnd
operator_of kind.BitXorAssign = Some kind.BitXor
operator_of kind.BitOrAssign = Some kind.BitOr
operator_of kind.ShiftLeftAssign = Some kind.ShiftLeft
operator_of kind.ShiftLeftSaturateAssign = Some kind.ShiftLeftSaturate
operator_of kind.ShiftRightAssign = Some kind.ShiftRight
operator_of _ = None

-- what is wanted of the right side: the type of the place, of a shift the type of amounts, and of `<<|` none
abbrev pub right_wanted : {N : Type 0} → Family → Part N → Wanted
right_wanted Shifting p = wanted_of (amount_type p.ty)
right_wanted SaturatingShift p = Nothing
right_wanted _ p = OfType p.ty

-- The value at the place is read in front of the right operand. What the operator makes of both has the place's type.
abbrev pub updated : {N : Type 0} → Family → Operator → Stands N → Part N → Part N → List (Part N) → Next N
updated family name (IsPlace true place) p v parts =
    take (Emit (Reading place) p.ty) parts (λ read more.
    on_operands family name read v more (λ result rest. last_of (Emit (Updating place result) tree.VoidType) rest))
updated family name _ p v parts = Halt (Error 19)

abbrev pub update_on : {N : Type 0} → Family → Operator → List ℕ → Rule N
update_on family name (place ∷ value ∷ others) site parts =
    take (Ask (place_at site place)) parts (λ p more.
    take (Ask (operand_at site value (right_wanted family p))) more (λ v rest. updated family name p.stands p v rest))
update_on family name _ site parts = Halt (Error 36)

abbrev pub update_rule : {N : Type 0} → Family × Operator → Rule N
update_rule found site parts = update_on found.0 found.1 (forms site.here) site parts

abbrev pub update_found : {N : Type 0} → Option (Family × Operator) → Option (Rule N)
update_found None = None
update_found (Some found) = Some (update_rule found)

-- the rule of an assignment with an operator
abbrev pub update_of : {N : Type 0} → Option NodeKind → Option (Rule N)
update_of None = None
update_of (Some operator) = update_found (binary_operator operator)
