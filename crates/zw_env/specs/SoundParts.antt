-- When what is known of parts is of their types, and when what a rule asks for keeps to that (this project's own).
use Rattle.std.specs.Prelude.{◌≡◌, List, [], ◌∷◌, Option, Some, None}
use Rattle.zw_num.specs.declared.operator.Operator.{Operator}
use Rattle.zw_types.specs.TypeTrees.{TypeTree, ValueTree}
use Rattle.zw_values.specs.Applied as operation
use Rattle.zw_values.specs.Applied.{applied}
use Rattle.zw_typed.specs.ValueTypes.{HasWidths, IsValueOf, AreValuesOf, IsKnownOf}
use Rattle.zw_env.specs.Parts.{Part, Operand, Next, Visit, VisitKnown, VisitUnevaluated, Operation, Emit, Lookup, Bind, Returns, Raise, Done, Halt, HaltAt}
use Rattle.zw_env.specs.Parts as next

-- what is known of a part is a value of its type
pub record IsSound {N : Type 0} (part : Part N) : Type 0 where
  pub ty : HasWidths part.ty
  pub known : IsKnownOf part.ty part.known

abbrev pub AreSound : {N : Type 0} → List (Part N) → Type 0
AreSound [] = Unit {0}
AreSound (part ∷ parts) = IsSound part × AreSound parts

abbrev pub AreSoundOperands : {N : Type 0} → List (Operand N) → Type 0
AreSoundOperands [] = Unit {0}
AreSoundOperands (o ∷ operands) = (IsSound o.part × HasWidths o.as_type) × AreSoundOperands operands

abbrev pub types_used : {N : Type 0} → List (Operand N) → List TypeTree
types_used [] = []
types_used (o ∷ operands) = o.as_type ∷ types_used operands

abbrev pub IsSoundWish : Option TypeTree → Type 0
IsSoundWish None = Unit {0}
IsSoundWish (Some ty) = HasWidths ty

-- an operation on values of these types gives values of the result type
abbrev pub StaysIn : Operator → List TypeTree → TypeTree → Type 0
StaysIn name from to =
    (values : List ValueTree) → AreValuesOf from values → (v : ValueTree) → applied name from to values ≡ operation.Gives v → IsValueOf to v

-- what a rule asks for keeps values to their types
abbrev pub IsSoundNext : {N : Type 0} → Next N → Type 0
IsSoundNext (Visit child wanted) = IsSoundWish wanted
IsSoundNext (VisitKnown child wanted) = IsSoundWish wanted
IsSoundNext (VisitUnevaluated child wanted) = IsSoundWish wanted
IsSoundNext (Operation name ty operands) = HasWidths ty × (AreSoundOperands operands × StaysIn name (types_used operands) ty)
IsSoundNext (Emit op ty operands) = HasWidths ty × AreSoundOperands operands
IsSoundNext (Lookup name) = Unit {0}
IsSoundNext (Bind name ty) = HasWidths ty
IsSoundNext (Returns ty) = HasWidths ty
IsSoundNext next.Result = Unit {0}
IsSoundNext (Raise value) = Unit {0}
IsSoundNext (Done part) = IsSound part
IsSoundNext (Halt why) = Unit {0}
IsSoundNext (HaltAt n why) = Unit {0}
