-- How large the values of sized types are, and what their values wrapped are.
use Rattle.std.proofs.Common.{ℕ, ◌^◌, ◌≤◌, pos, negsuc, ◌≤ℤ◌, true, false, arith}
use Rattle.std.proofs.lemmas.Int.{ints}
use Rattle.std.proofs.lemmas.Nat.{pow_pos}
use Rattle.std.proofs.Math.Nat.{pow-le-pow_right}
use Rattle.zw_num.specs.declared.int_ty.IntTy.{IntTy}
use Rattle.zw_num.specs.declared.int_ty.IntTy.TheVariants.{Sized, Comptime}
use Rattle.zw_num.specs.Arithmetic.{IsType, IsSized, least, greatest}

-- the least and the greatest value of a sized type lie round 0, and not far from it
pub record IsNarrow (ty : IntTy) : Type 0 where
  pub not_low : negsuc (2 ^ 63) ≤ℤ least ty
  pub starts : least ty ≤ℤ pos 0
  pub ends : pos 0 ≤ℤ greatest ty
  pub not_high : greatest ty ≤ℤ pos (2 ^ 64)

narrow_bits : (bits : ℕ) → bits ≤ 64 → 2 ^ bits ≤ 2 ^ 64
narrow_bits bits h = pow-le-pow_right {n = 2} (omega arith) h

pub narrow : (ty : IntTy) → IsType ty → IsSized ty → IsNarrow ty
narrow (Sized false bits) h s =
    let p = pow_pos bits in
    let q = narrow_bits bits h in
    record { not_low = omega (arith, ints); starts = omega (arith, ints); ends = omega (arith, ints); not_high = omega (arith, ints) }
narrow (Sized true bits) h s =
    let p = pow_pos bits in
    let q = narrow_bits bits h in
    record { not_low = omega (arith, ints); starts = omega (arith, ints); ends = omega (arith, ints); not_high = omega (arith, ints) }
narrow Comptime h s = absurd s
