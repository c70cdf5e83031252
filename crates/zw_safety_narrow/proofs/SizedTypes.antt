-- On a sized type a result wraps round, or is held at the ends of the type.
use Rattle.std.proofs.Common.{◌≡◌, ℤ, Ok, refl}
use Rattle.zw_num.specs.Arithmetic.{IsSized, wrapped, saturated}
use Rattle.zw_num.specs.Meanings.{wrapping, saturating}
use Rattle.zw_num.specs.declared.int_ty.IntTy.{IntTy}
use Rattle.zw_num.specs.declared.int_ty.IntTy.TheVariants.{Sized, Comptime}
use Rattle.zw_safety_narrow.specs.Operators.{IsNarrow, IsStored}

pub narrow_sized : (t : IntTy) → IsNarrow t → IsSized t
narrow_sized (Sized signed bits) h = tt
narrow_sized Comptime h = h

pub stored_sized : (t : IntTy) → IsStored t → IsSized t
stored_sized (Sized signed bits) h = tt
stored_sized Comptime h = h

pub sized_wraps : (t : IntTy) (z : ℤ) → IsSized t → wrapping t z ≡ Ok (wrapped t z)
sized_wraps (Sized signed bits) z h = refl
sized_wraps Comptime z h = absurd h

pub sized_saturates : (t : IntTy) (z : ℤ) → IsSized t → saturating t z ≡ Ok (saturated t z)
sized_saturates (Sized signed bits) z h = refl
sized_saturates Comptime z h = absurd h
