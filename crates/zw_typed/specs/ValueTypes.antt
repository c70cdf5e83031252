-- Which values are values of a type, as far as types have values that are built (Zig Language Reference 0.13.0, Values).
use Rattle.std.specs.Prelude.{◌≤◌, List, [], ◌∷◌, Option, Some, None}
use Rattle.zw_num.specs.declared.int_ty.IntTy.{IntTy}
use Rattle.zw_num.specs.declared.int_ty.IntTy.TheVariants.{Sized, Comptime}
use Rattle.zw_num.specs.Arithmetic.{IsIn}
use Rattle.zw_types.specs.TypeTrees as tree
use Rattle.zw_types.specs.TypeTrees.{TypeTree, TypeOption, TypeOptions, ValueTree}

abbrev mutual
  -- the integers in a type have at most 64 bits
  pub HasWidths : TypeTree → Type 0
  HasWidths (tree.IntType signed bits size) = bits ≤ 64
  HasWidths (tree.FuncType params result comptime outside) = AllHaveWidths params × MayHaveWidths result
  HasWidths _ = Unit {0}

  pub MayHaveWidths : TypeOption → Type 0
  MayHaveWidths tree.NoType = Unit {0}
  MayHaveWidths (tree.TheType ty) = HasWidths ty

  pub AllHaveWidths : TypeOptions → Type 0
  AllHaveWidths tree.no_types = Unit {0}
  AllHaveWidths (tree.type_and ty types) = MayHaveWidths ty × AllHaveWidths types

abbrev pub IsNumberIn : IntTy → ValueTree → Type 0
IsNumberIn ty (tree.NumberValue z) = IsIn ty z
IsNumberIn ty _ = ⊥

abbrev pub IsTruth : ValueTree → Type 0
IsTruth (tree.TruthValue b) = Unit {0}
IsTruth _ = ⊥

abbrev pub IsNothing : ValueTree → Type 0
IsNothing (tree.PartsValue tree.no_values) = Unit {0}
IsNothing _ = ⊥

abbrev pub IsTypeValue : ValueTree → Type 0
IsTypeValue (tree.TypeValue ty) = HasWidths ty
IsTypeValue _ = ⊥

abbrev pub IsFunction : ValueTree → Type 0
IsFunction (tree.FuncValue file node captures) = Unit {0}
IsFunction _ = ⊥

-- a value of the type, as far as types have values that are built
abbrev pub IsValueOf : TypeTree → ValueTree → Type 0
IsValueOf (tree.IntType signed bits size) v = IsNumberIn (Sized signed bits) v
IsValueOf tree.ComptimeIntType v = IsNumberIn Comptime v
IsValueOf tree.BoolType v = IsTruth v
IsValueOf tree.VoidType v = IsNothing v
IsValueOf tree.TypeType v = IsTypeValue v
IsValueOf (tree.FuncType params result comptime outside) v = IsFunction v
IsValueOf _ v = ⊥

abbrev pub AreValuesOf : List TypeTree → List ValueTree → Type 0
AreValuesOf [] [] = Unit {0}
AreValuesOf (ty ∷ types) (v ∷ values) = IsValueOf ty v × AreValuesOf types values
AreValuesOf _ _ = ⊥

abbrev pub IsKnownOf : TypeTree → Option ValueTree → Type 0
IsKnownOf ty None = Unit {0}
IsKnownOf ty (Some v) = IsValueOf ty v
