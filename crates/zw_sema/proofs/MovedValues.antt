-- The functions in values, nodes and parts with other numbers. Operations do the same on such values: none looks at a function's number.
use Rattle.std.proofs.Common.{◌≡◌, refl, ℕ, ℤ, Bool, true, false, not, List, [], ◌∷◌, Option, Some, None}
use Rattle.std.specs.Prelude.{if◌then◌else◌, Result, Ok, Err}
use Rattle.zw_num.specs.declared.int_ty.IntTy.{IntTy}
use Rattle.zw_num.specs.declared.int_ty.IntTy.TheVariants.{Sized, Comptime}
use Rattle.zw_num.specs.declared.num_fault.NumFault.{NumFault}
use Rattle.zw_num.specs.declared.num_fault.NumFault.TheVariants as fault
use Rattle.zw_num.specs.declared.operator.Cast.{Cast}
use Rattle.zw_num.specs.declared.operator.Cast.TheVariants as cast
use Rattle.zw_num.specs.declared.operator.Comparison.{Comparison}
use Rattle.zw_num.specs.declared.operator.Comparison.TheVariants as order
use Rattle.zw_num.specs.declared.operator.Count.{Count}
use Rattle.zw_num.specs.declared.operator.Extreme.{Extreme}
use Rattle.zw_num.specs.declared.operator.Logic.{Logic}
use Rattle.zw_num.specs.declared.operator.Logic.TheVariants as logic
use Rattle.zw_num.specs.declared.operator.Measure.{Measure}
use Rattle.zw_num.specs.declared.operator.Measure.TheVariants as measure
use Rattle.zw_num.specs.declared.operator.Operator.{Operator}
use Rattle.zw_num.specs.declared.operator.Operator.TheVariants as family
use Rattle.zw_num.specs.Meanings.{arithmetic, division, bitwise, shift, extreme, unary, converted}
use Rattle.zw_types.specs.TypeTrees as tree
use Rattle.zw_types.specs.TypeTrees.{TypeTree, ValueTree}
use Rattle.zw_values.specs.Sameness.{is_same}
use Rattle.zw_values.specs.Coercions.{integer_of}
use Rattle.zw_values.specs.Applied.{Outcome, Gives, Panics, IsWild, Passes, outcome_of_fault, outcome_of, of_two_numbers, of_number, equality, compared_values, count_on_value, extreme_from, extreme_of, negated, both, either, int_from_bool, bit_size, number_or_wild, bit_size_of, on_one, on_two, in_integers, first_integers, on_integers, on_integer, cast_applied, logic_applied, measured, applied}
use Rattle.zw_typed.specs.Nodes.{Op, Constant, TypedNode, TypedNodes, node, no_nodes, node_and}
use Rattle.zw_sema.specs.Walk.{RunPart}

-- a function's value is that of the function with another number
abbrev pub moved_value : (ℕ → ℕ) → ValueTree → ValueTree
moved_value to (tree.FuncValue file n captures) = tree.FuncValue file (to n) captures
moved_value to v = v

abbrev pub moved_values : (ℕ → ℕ) → List ValueTree → List ValueTree
moved_values to [] = []
moved_values to (v ∷ values) = moved_value to v ∷ moved_values to values

abbrev pub moved_known : (ℕ → ℕ) → Option ValueTree → Option ValueTree
moved_known to None = None
moved_known to (Some v) = Some (moved_value to v)

abbrev pub moved_op : (ℕ → ℕ) → Op → Op
moved_op to (Constant v) = Constant (moved_value to v)
moved_op to op = op

abbrev mutual
  pub moved_node : (ℕ → ℕ) → TypedNode → TypedNode
  moved_node to (node op ty kids) = node (moved_op to op) ty (moved_nodes to kids)

  pub moved_nodes : (ℕ → ℕ) → TypedNodes → TypedNodes
  moved_nodes to no_nodes = no_nodes
  moved_nodes to (node_and n ns) = node_and (moved_node to n) (moved_nodes to ns)

abbrev pub moved_run : (ℕ → ℕ) → Option TypedNode → Option TypedNode
moved_run to None = None
moved_run to (Some n) = Some (moved_node to n)

abbrev pub moved_part : (ℕ → ℕ) → RunPart → RunPart
moved_part to part = record { ty = part.ty; known = moved_known to part.known; node = moved_run to part.node }

abbrev pub moved_parts : (ℕ → ℕ) → List RunPart → List RunPart
moved_parts to [] = []
moved_parts to (part ∷ parts) = moved_part to part ∷ moved_parts to parts

-- ---- operations

abbrev pub moved_outcome : (ℕ → ℕ) → Outcome → Outcome
moved_outcome to (Gives v) = Gives (moved_value to v)
moved_outcome to (Panics cause) = Panics cause
moved_outcome to IsWild = IsWild
moved_outcome to (Passes limit) = Passes limit

fault-stays : (to : ℕ → ℕ) (ty : IntTy) (e : NumFault) → outcome_of_fault ty e ≡ moved_outcome to (outcome_of_fault ty e)
fault-stays to Comptime fault.Overflow = refl
fault-stays to (Sized signed bits) fault.Overflow = refl
fault-stays to Comptime _ = refl
fault-stays to (Sized signed bits) _ = refl

outcome-stays : (to : ℕ → ℕ) (ty : IntTy) (result : Result ℤ NumFault) → outcome_of ty result ≡ moved_outcome to (outcome_of ty result)
outcome-stays to ty (Ok z) = refl
outcome-stays to ty (Err e) = fault-stays to ty e

abbrev pub MovesOne : (ℕ → ℕ) → (ValueTree → Outcome) → Type 0
MovesOne to f = (a : ValueTree) → f (moved_value to a) ≡ moved_outcome to (f a)

abbrev pub MovesTwo : (ℕ → ℕ) → (ValueTree → ValueTree → Outcome) → Type 0
MovesTwo to f = (a b : ValueTree) → f (moved_value to a) (moved_value to b) ≡ moved_outcome to (f a b)

on_one-moves : (to : ℕ → ℕ) (f : ValueTree → Outcome) → MovesOne to f → (values : List ValueTree) → on_one f (moved_values to values) ≡ moved_outcome to (on_one f values)
on_one-moves to f each [] = refl
on_one-moves to f each (a ∷ []) = each a
on_one-moves to f each (a ∷ b ∷ more) = refl

on_two-moves : (to : ℕ → ℕ) (f : ValueTree → ValueTree → Outcome) → MovesTwo to f → (values : List ValueTree) → on_two f (moved_values to values) ≡ moved_outcome to (on_two f values)
on_two-moves to f each [] = refl
on_two-moves to f each (a ∷ []) = refl
on_two-moves to f each (a ∷ b ∷ []) = each a b
on_two-moves to f each (a ∷ b ∷ c ∷ more) = refl

integers-moves : (to : ℕ → ℕ) (ty : Option IntTy) (f g : IntTy → Outcome) → ((own : IntTy) → g own ≡ moved_outcome to (f own)) → in_integers ty g ≡ moved_outcome to (in_integers ty f)
integers-moves to None f g each = refl
integers-moves to (Some ty) f g each = each ty

pair-moves : (to : ℕ → ℕ) (ty : IntTy) (meaning : ℤ → ℤ → Result ℤ NumFault) → MovesTwo to (of_two_numbers ty meaning)
pair-moves to ty meaning (tree.NumberValue a) (tree.NumberValue b) = outcome-stays to ty (meaning a b)
pair-moves to ty meaning (tree.NumberValue a) _ = refl
pair-moves to ty meaning _ b = refl

number-moves : (to : ℕ → ℕ) (ty : IntTy) (meaning : ℤ → Result ℤ NumFault) → MovesOne to (of_number ty meaning)
number-moves to ty meaning (tree.NumberValue a) = outcome-stays to ty (meaning a)
number-moves to ty meaning _ = refl

two-move : (to : ℕ → ℕ) (meaning : IntTy → ℤ → ℤ → Result ℤ NumFault) (ty : TypeTree) (values : List ValueTree) → on_integers meaning ty (moved_values to values) ≡ moved_outcome to (on_integers meaning ty values)
two-move to meaning ty values =
    integers-moves to (integer_of ty) (λ own. on_two (of_two_numbers own (meaning own)) values) (λ own. on_two (of_two_numbers own (meaning own)) (moved_values to values))
    (λ own. on_two-moves to (of_two_numbers own (meaning own)) (pair-moves to own (meaning own)) values)

one-moves : (to : ℕ → ℕ) (meaning : IntTy → IntTy → ℤ → Result ℤ NumFault) (from : List TypeTree) (ty : TypeTree) (values : List ValueTree) →
    on_integer meaning from ty (moved_values to values) ≡ moved_outcome to (on_integer meaning from ty values)
one-moves to meaning from ty values =
    integers-moves to (first_integers from) (λ own. in_integers (integer_of ty) (λ its. on_one (of_number its (meaning own its)) values))
    (λ own. in_integers (integer_of ty) (λ its. on_one (of_number its (meaning own its)) (moved_values to values)))
    (λ own. integers-moves to (integer_of ty) (λ its. on_one (of_number its (meaning own its)) values) (λ its. on_one (of_number its (meaning own its)) (moved_values to values))
    (λ its. on_one-moves to (of_number its (meaning own its)) (number-moves to its (meaning own its)) values))

count-moves : (to : ℕ → ℕ) (count : Count) (own : IntTy) → MovesOne to (count_on_value count own)
count-moves to count own (tree.NumberValue a) = refl
count-moves to count own _ = refl

equality-stays : (to : ℕ → ℕ) (op : Comparison) (same : Bool) → equality op same ≡ moved_outcome to (equality op same)
equality-stays to order.Equal same = refl
equality-stays to order.NotEqual same = refl
equality-stays to _ same = refl

compared-moves : (to : ℕ → ℕ) (op : Comparison) → MovesTwo to (compared_values op)
compared-moves to op (tree.NumberValue a) (tree.NumberValue b) = refl
compared-moves to op (tree.NumberValue a) _ = refl
compared-moves to op (tree.TruthValue a) (tree.TruthValue b) = equality-stays to op (if a then b else not b)
compared-moves to op (tree.TruthValue a) _ = refl
compared-moves to op (tree.TypeValue a) (tree.TypeValue b) = equality-stays to op (is_same a b)
compared-moves to op (tree.TypeValue a) _ = refl
compared-moves to op _ b = refl

extreme_from-moves : (to : ℕ → ℕ) (op : Extreme) (a : ℤ) (values : List ValueTree) → extreme_from op a (moved_values to values) ≡ moved_outcome to (extreme_from op a values)
extreme_from-moves to op a [] = refl
extreme_from-moves to op a (tree.NumberValue b ∷ more) = extreme_from-moves to op (extreme op a b) more
extreme_from-moves to op a (_ ∷ more) = refl

extreme-moves : (to : ℕ → ℕ) (op : Extreme) (values : List ValueTree) → extreme_of op (moved_values to values) ≡ moved_outcome to (extreme_of op values)
extreme-moves to op [] = refl
extreme-moves to op (tree.NumberValue a ∷ more) = extreme_from-moves to op a more
extreme-moves to op (_ ∷ more) = refl

both-moves : (to : ℕ → ℕ) → MovesTwo to both
both-moves to (tree.TruthValue true) b = refl
both-moves to (tree.TruthValue false) b = refl
both-moves to _ b = refl

either-moves : (to : ℕ → ℕ) → MovesTwo to either
either-moves to (tree.TruthValue true) b = refl
either-moves to (tree.TruthValue false) b = refl
either-moves to _ b = refl

negated-moves : (to : ℕ → ℕ) → MovesOne to negated
negated-moves to (tree.TruthValue b) = refl
negated-moves to _ = refl

truth-moves : (to : ℕ → ℕ) → MovesOne to int_from_bool
truth-moves to (tree.TruthValue b) = refl
truth-moves to _ = refl

number-stays : (to : ℕ → ℕ) (bits : Option ℕ) → number_or_wild bits ≡ moved_outcome to (number_or_wild bits)
number-stays to None = refl
number-stays to (Some n) = refl

bits-moves : (to : ℕ → ℕ) → MovesOne to bit_size_of
bits-moves to (tree.TypeValue ty) = number-stays to (bit_size ty)
bits-moves to _ = refl

cast-moves : (to : ℕ → ℕ) (op : Cast) (from : List TypeTree) (ty : TypeTree) (values : List ValueTree) →
    cast_applied op from ty (moved_values to values) ≡ moved_outcome to (cast_applied op from ty values)
cast-moves to cast.As from ty values = on_two-moves to (λ of v. Gives v) (λ of v. refl) values
cast-moves to cast.IntFromBool from ty values = on_one-moves to int_from_bool (truth-moves to) values
cast-moves to cast.IntCast from ty values = one-moves to (λ own. converted cast.IntCast) from ty values
cast-moves to cast.Truncate from ty values = one-moves to (λ own. converted cast.Truncate) from ty values
cast-moves to cast.BitCast from ty values = one-moves to (λ own. converted cast.BitCast) from ty values

logic-moves : (to : ℕ → ℕ) (op : Logic) (values : List ValueTree) → logic_applied op (moved_values to values) ≡ moved_outcome to (logic_applied op values)
logic-moves to logic.And values = on_two-moves to both (both-moves to) values
logic-moves to logic.Or values = on_two-moves to either (either-moves to) values
logic-moves to logic.Not values = on_one-moves to negated (negated-moves to) values

measure-moves : (to : ℕ → ℕ) (op : Measure) (values : List ValueTree) → measured op (moved_values to values) ≡ moved_outcome to (measured op values)
measure-moves to measure.BitSizeOf values = on_one-moves to bit_size_of (bits-moves to) values
measure-moves to measure.SizeOf values = refl
measure-moves to measure.AlignOf values = refl

pub applied-moves : (to : ℕ → ℕ) (op : Operator) (from : List TypeTree) (ty : TypeTree) (values : List ValueTree) →
    applied op from ty (moved_values to values) ≡ moved_outcome to (applied op from ty values)
applied-moves to (family.Arithmetic op) from ty values = two-move to (arithmetic op) ty values
applied-moves to (family.Division op) from ty values = two-move to (division op) ty values
applied-moves to (family.Bitwise op) from ty values = two-move to (λ own a b. Ok (bitwise op a b)) ty values
applied-moves to (family.Shift op) from ty values = two-move to (shift op) ty values
applied-moves to (family.Comparison op) from ty values = on_two-moves to (compared_values op) (compared-moves to op) values
applied-moves to (family.Extreme op) from ty values = extreme-moves to op values
applied-moves to (family.Unary op) from ty values = one-moves to (unary op) from ty values
applied-moves to (family.Count op) from ty values =
    integers-moves to (first_integers from) (λ own. on_one (count_on_value op own) values) (λ own. on_one (count_on_value op own) (moved_values to values))
    (λ own. on_one-moves to (count_on_value op own) (count-moves to op own) values)
applied-moves to (family.Cast op) from ty values = cast-moves to op from ty values
applied-moves to (family.Logic op) from ty values = logic-moves to op values
applied-moves to (family.Measure op) from ty values = measure-moves to op values
