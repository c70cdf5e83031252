-- What an operator or builtin comes to, also where it asks a table for the layout of a type.
use Rattle.std.specs.Prelude.{◌≡◌, ◌<◌, ℕ, pos, List, All, Option, Some, None, MatchOption}
use Rattle.zw_num.specs.declared.int_ty.IntTy.TheVariants.{Comptime}
use Rattle.zw_num.specs.declared.operator.Measure.{Measure}
use Rattle.zw_num.specs.declared.operator.Measure.TheVariants.{SizeOf, AlignOf, BitSizeOf}
use Rattle.zw_num.specs.declared.operator.Operator.{Operator}
use Rattle.zw_num.specs.declared.operator.Operator.TheVariants as family
use Rattle.zw_num.specs.Arithmetic.{exact}
use Rattle.zw_types.specs.declared.value.Value.{Value}
use Rattle.zw_types.specs.TypeTrees.{TypeTree, ValueTree, NumberValue}
use Rattle.zw_types.specs.Tables.{TypeTable}
use Rattle.zw_types.specs.Readings.{types_in}
use Rattle.zw_layout.specs.Sizes.{IsSize, IsAlign}
use Rattle.zw_values.specs.Applied.{Outcome, Gives, IsWild, outcome_of, bit_size, number_or_wild, applied}
use Rattle.zw_ops.specs.Operands.{asked_type}

-- `@sizeOf`: what only the compiler knows has no bytes, and a size past the range of `comptime_int` passes its limit
abbrev pub size_outcome : Option ℕ → Outcome
size_outcome None = Gives (NumberValue (pos 0))
size_outcome (Some size) = outcome_of Comptime (exact Comptime (pos size))

-- `@alignOf`, of types with a run-time form alone
abbrev pub align_outcome : Option ℕ → Outcome
align_outcome None = IsWild
align_outcome (Some align) = Gives (NumberValue (pos align))

abbrev pub IsMeasure : TypeTable → Measure → TypeTree → Outcome → Type 0
IsMeasure table SizeOf ty outcome = (size : Option ℕ) × IsSize table ty size × (outcome ≡ size_outcome size)
IsMeasure table AlignOf ty outcome = (align : Option ℕ) × IsAlign table ty align × (outcome ≡ align_outcome align)
IsMeasure table BitSizeOf ty outcome = outcome ≡ number_or_wild (bit_size ty)

-- What an operator comes to, on operands of these types, with a result of this type. Operands that weren't checked come to `IsWild`,
-- which means nothing there.
abbrev pub IsOutcome : TypeTable → Operator → List TypeTree → TypeTree → List ValueTree → Outcome → Type 0
IsOutcome table (family.Measure op) from to values outcome = MatchOption (asked_type values) (outcome ≡ IsWild) (λ ty. IsMeasure table op ty outcome)
IsOutcome table op from to values outcome = outcome ≡ applied op from to values

-- the types that a value mentions are among so many
abbrev pub IsHeld : ℕ → Value → Type 0
IsHeld count value = All (λ k. k < count) (types_in value)
