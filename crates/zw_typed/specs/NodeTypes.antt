-- Which types the kids of a node have, by what it does, at run time (Zig Language Reference 0.13.0, Operators, Builtin Functions).
use Rattle.std.specs.Prelude.{◌≡◌, ◌≢◌, ◌<◌, ◌≤◌, ℕ, ◌+◌, ◌*◌, ◌%◌, ◌^◌, true, false, List, [], ◌∷◌, slice_get, All, Some, None, Ok}
use Rattle.zw_num.specs.declared.operator.Cast.{Cast}
use Rattle.zw_num.specs.declared.operator.Cast.TheVariants as cast
use Rattle.zw_num.specs.declared.operator.Comparison.{Comparison}
use Rattle.zw_num.specs.declared.operator.Comparison.TheVariants as order
use Rattle.zw_num.specs.declared.operator.Division.{Division}
use Rattle.zw_num.specs.declared.operator.Division.TheVariants as quotient
use Rattle.zw_num.specs.declared.operator.Logic.{Logic}
use Rattle.zw_num.specs.declared.operator.Logic.TheVariants as logic
use Rattle.zw_num.specs.declared.operator.Operator.{Operator}
use Rattle.zw_num.specs.declared.operator.Operator.TheVariants as family
use Rattle.zw_num.specs.declared.operator.Unary.{Unary}
use Rattle.zw_num.specs.declared.operator.Unary.TheVariants as one
use Rattle.zw_types.specs.TypeTrees as tree
use Rattle.zw_types.specs.TypeTrees.{TypeTree}
use Rattle.zw_values.specs.Coercions.{coercion}
use Rattle.zw_typed.specs.Nodes.{Op, Constant, Argument, Operate, Become, Decide, CallHost, InOrder, Return}
use Rattle.zw_typed.specs.ValueTypes.{IsValueOf}
use Rattle.zw_typed.specs.Exports.{Exported}

-- ---- operators

abbrev pub IsSized : TypeTree → Type 0
IsSized (tree.IntType signed bits size) = Unit {0}
IsSized _ = ⊥

abbrev pub IsUnsigned : TypeTree → Type 0
IsUnsigned (tree.IntType false bits size) = Unit {0}
IsUnsigned _ = ⊥

abbrev pub IsSigned : TypeTree → Type 0
IsSigned (tree.IntType true bits size) = Unit {0}
IsSigned _ = ⊥

abbrev pub HasWholeBytes : TypeTree → Type 0
HasWholeBytes (tree.IntType signed bits size) = bits % 8 ≡ 0
HasWholeBytes _ = ⊥

-- `/` and `%` are for unsigned integers
abbrev pub DivisionFits : Division → TypeTree → Type 0
DivisionFits quotient.Div ty = IsUnsigned ty
DivisionFits quotient.Rem ty = IsUnsigned ty
DivisionFits _ ty = IsSized ty

-- cut down to an integer of the same sign and no more bits
abbrev pub IsCutTo : TypeTree → TypeTree → Type 0
IsCutTo (tree.IntType signed bits size) (tree.IntType signed' bits' size') = (signed ≡ signed') × (bits' ≤ bits)
IsCutTo _ _ = ⊥

abbrev pub HasSameBits : TypeTree → TypeTree → Type 0
HasSameBits (tree.IntType signed bits size) (tree.IntType signed' bits' size') = bits ≡ bits'
HasSameBits _ _ = ⊥

-- the unsigned type of the width
abbrev pub IsMagnitude : TypeTree → TypeTree → Type 0
IsMagnitude (tree.IntType signed bits size) to = to ≡ tree.IntType false bits size
IsMagnitude _ to = ⊥

abbrev pub UnaryFits : Unary → TypeTree → TypeTree → Type 0
UnaryFits one.Neg from to = IsSigned to × (from ≡ to)
UnaryFits one.NegWrap from to = IsSized to × (from ≡ to)
UnaryFits one.BitNot from to = IsSized to × (from ≡ to)
UnaryFits one.ByteSwap from to = HasWholeBytes to × (from ≡ to)
UnaryFits one.BitReverse from to = IsSized to × (from ≡ to)
UnaryFits one.Abs from to = IsMagnitude from to

-- the least unsigned type that holds the width itself
abbrev pub CountFits : TypeTree → TypeTree → Type 0
CountFits (tree.IntType signed bits size) (tree.IntType false wide false) = (bits < 2 ^ wide) × (2 ^ wide ≤ 2 * bits + 1)
CountFits _ _ = ⊥

abbrev pub IsEquality : Comparison → Type 0
IsEquality order.Equal = Unit {0}
IsEquality order.NotEqual = Unit {0}
IsEquality _ = ⊥

-- any two integers; two truth values are equal or not
abbrev pub OrderFits : Comparison → TypeTree → TypeTree → Type 0
OrderFits op (tree.IntType signed bits size) (tree.IntType signed' bits' size') = Unit {0}
OrderFits op tree.BoolType tree.BoolType = IsEquality op
OrderFits op _ _ = ⊥

abbrev pub CastFits : Cast → List TypeTree → TypeTree → Type 0
CastFits cast.IntFromBool kids ty = (ty ≡ tree.IntType false 1 false) × (kids ≡ tree.BoolType ∷ [])
CastFits cast.IntCast (a ∷ []) ty = IsSized a × IsSized ty
CastFits cast.Truncate (a ∷ []) ty = IsCutTo a ty
CastFits cast.BitCast (a ∷ []) ty = HasSameBits a ty
CastFits _ kids ty = ⊥

-- `and` and `or` are nodes of their own
abbrev pub LogicFits : Logic → List TypeTree → TypeTree → Type 0
LogicFits logic.Not kids ty = (ty ≡ tree.BoolType) × (kids ≡ tree.BoolType ∷ [])
LogicFits _ kids ty = ⊥

abbrev pub OperandsFit : Operator → List TypeTree → TypeTree → Type 0
OperandsFit (family.Arithmetic op) kids ty = IsSized ty × (kids ≡ ty ∷ ty ∷ [])
OperandsFit (family.Division op) kids ty = DivisionFits op ty × (kids ≡ ty ∷ ty ∷ [])
OperandsFit (family.Bitwise op) kids ty = IsSized ty × (kids ≡ ty ∷ ty ∷ [])
OperandsFit (family.Shift op) (a ∷ b ∷ []) ty = IsSized ty × (a ≡ ty) × IsSized b
OperandsFit (family.Unary op) (a ∷ []) ty = UnaryFits op a ty
OperandsFit (family.Count op) (a ∷ []) ty = CountFits a ty
OperandsFit (family.Extreme op) kids ty = IsSized ty × (kids ≢ []) × All (λ a. a ≡ ty) kids
OperandsFit (family.Comparison op) (a ∷ b ∷ []) ty = (ty ≡ tree.BoolType) × OrderFits op a b
OperandsFit (family.Cast op) kids ty = CastFits op kids ty
OperandsFit (family.Logic op) kids ty = LogicFits op kids ty
OperandsFit _ kids ty = ⊥

-- ---- nodes

-- a type that becomes another whatever its value is
abbrev pub Becomes : List TypeTree → TypeTree → Type 0
Becomes (a ∷ []) ty = (row : ℕ) × (coercion a None ty ≡ Ok row)
Becomes _ ty = ⊥

-- what comes to its end, or never does
abbrev pub IsStatement : TypeTree → Type 0
IsStatement tree.VoidType = Unit {0}
IsStatement tree.NoReturnType = Unit {0}
IsStatement _ = ⊥

-- the types of the kids, in a function
abbrev pub KidsFit : Exported → Op → TypeTree → List TypeTree → Type 0
KidsFit f (Constant value) ty kids = IsValueOf ty value × (kids ≡ [])
KidsFit f (Argument k) ty kids = (slice_get f.params k ≡ Some ty) × (kids ≡ [])
KidsFit f (Operate op) ty kids = OperandsFit op kids ty
KidsFit f Become ty kids = Becomes kids ty
KidsFit f (Decide logic) ty kids = (ty ≡ tree.BoolType) × (kids ≡ tree.BoolType ∷ tree.BoolType ∷ [])
KidsFit f (CallHost import) ty kids = (ty ≡ import.result) × (kids ≡ import.params)
KidsFit f InOrder ty kids = IsStatement ty × All IsStatement kids
KidsFit f Return ty kids = (ty ≡ tree.NoReturnType) × (kids ≡ f.result ∷ [])
