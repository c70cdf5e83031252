-- What lies outside an `i128` lies outside every type, and the nearest value of a type is the same from the nearest `i128` on.
use Rattle.std.proofs.Common.{◌≡◌, ◌-◌, ◌^◌, ◌≤◌, ℤ, pos, neg_ℤ, negsuc, ◌≤ℤ◌, true, false, inl, inr, Err, arith, FitsSigned}
use Rattle.std.proofs.lemmas.Int.{ints, clamps}
use Rattle.std.proofs.lemmas.Bool.{cases_lt}
use Rattle.std.proofs.Math.Nat.{pow-le-pow_right}
use Rattle.std.specs.Int.{w128, saturate_signed}
use Rattle.zw_num.specs.declared.int_ty.IntTy.{IntTy}
use Rattle.zw_num.specs.declared.int_ty.IntTy.TheVariants.{Sized, Comptime}
use Rattle.zw_num.specs.declared.num_fault.NumFault.TheVariants.{Overflow}
use Rattle.zw_num.specs.Arithmetic.{IsType, least, greatest, is_in, exact, saturated}

-- the values of each type are numbers of an `i128`
pub record IsWide (ty : IntTy) : Type 0 where
  pub low : neg_ℤ (pos (2 ^ 127)) ≤ℤ least ty
  pub starts : least ty ≤ℤ pos 0
  pub ends : pos 0 ≤ℤ greatest ty
  pub high : greatest ty ≤ℤ pos (2 ^ 127 - 1)

pub wide : (ty : IntTy) → IsType ty → IsWide ty
wide (Sized false bits) h = let few : 2 ^ bits ≤ 2 ^ 64 = pow-le-pow_right {n = 2} (omega arith) h in
    record { low = omega (arith, ints); starts = omega (arith, ints); ends = omega (arith, ints); high = omega (arith, ints) }
wide (Sized true bits) h = let few : 2 ^ bits ≤ 2 ^ 64 = pow-le-pow_right {n = 2} (omega arith) h in
    record { low = omega (arith, ints); starts = omega (arith, ints); ends = omega (arith, ints); high = omega (arith, ints) }
wide Comptime h = record { low = omega (arith, ints); starts = omega (arith, ints); ends = omega (arith, ints); high = omega (arith, ints) }

pub saturated_twice : (ty : IntTy) → IsType ty → (z : ℤ) → saturated ty (saturate_signed w128 z) ≡ saturated ty z
saturated_twice ty h (pos n) = let range = wide ty h in omega (arith, ints, clamps)
saturated_twice ty h (negsuc n) = let range = wide ty h in omega (arith, ints, clamps)

-- a number outside an `i128` is a value of no type
pub exact_far : (ty : IntTy) → IsType ty → (z : ℤ) → (FitsSigned w128 z → ⊥) → exact ty z ≡ Err Overflow
exact_far ty h z far = let range = wide ty h in grind (arith, ints)

pub outside : (ty : IntTy) → IsType ty → (z : ℤ) → (FitsSigned w128 z → ⊥) → is_in ty z ≡ false
outside ty h z far = let range = wide ty h in grind (arith, ints)

-- beyond an `i128` the nearest value is an end of the type
pub low_end : (ty : IntTy) → IsType ty → (z : ℤ) → z ≤ℤ pos 0 → (FitsSigned w128 z → ⊥) → least ty ≡ saturated ty z
low_end ty h (pos n) low far = absurd (far (record { sfits = omega (arith, ints) }))
low_end ty h (negsuc n) low far =
    elim (cases_lt n (2 ^ 127)) [
      | inl less ↦ absurd (far (record { sfits = less }))
      | inr more ↦ let range = wide ty h in omega (arith, ints, clamps)
    ]

pub high_end : (ty : IntTy) → IsType ty → (z : ℤ) → pos 0 ≤ℤ z → (FitsSigned w128 z → ⊥) → greatest ty ≡ saturated ty z
high_end ty h (negsuc n) high far = absurd (omega (arith, ints))
high_end ty h (pos n) high far =
    elim (cases_lt n (2 ^ 127)) [
      | inl less ↦ absurd (far (record { sfits = less }))
      | inr more ↦ let range = wide ty h in omega (arith, ints, clamps)
    ]
