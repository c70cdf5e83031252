-- What only the compiler knows is told by the element, where there is one.
use Rattle.std.specs.Prelude.{◌≡◌, Some}
use Rattle.zw_types.specs.TypeTrees as tree
use Rattle.zw_types.specs.TypeTrees.{TypeTree}
use Rattle.zw_types.specs.TypeTexts.{element_of}
use Rattle.zw_types.specs.Sizes.{is_comptime_only}
use Rattle.std.proofs.Common.{ap}

some_type : (a b : TypeTree) → Some a ≡ Some b → a ≡ b
some_type a b e = cc

pub element_tells : (ty of : TypeTree) → Some of ≡ element_of ty → is_comptime_only of ≡ is_comptime_only ty
element_tells (tree.ArrayType len x sentinel) of e = ap is_comptime_only (some_type of x e)
element_tells (tree.PointerType many constant x) of e = ap is_comptime_only (some_type of x e)
element_tells (tree.SliceType constant x sentinel) of e = ap is_comptime_only (some_type of x e)
element_tells (tree.OptionalType x) of e = ap is_comptime_only (some_type of x e)
element_tells (tree.ErrorUnionType set x) of e = ap is_comptime_only (some_type of x e)
element_tells _ of e = cc
