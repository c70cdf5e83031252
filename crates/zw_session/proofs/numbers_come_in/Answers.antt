use Rattle.std.proofs.Common.{ℕ, ◌<◌, ◌^◌, ℤ, pos, negsuc, refl, arith}
use Rattle.std.proofs.Math.Nat.{mod-lt, mod-eq_of_lt}
use Rattle.std.proofs.lemmas.Nat.{pow_pos}
use Rattle.zw_session.specs.Incoming.{modulo}
use Rattle.zw_session.proofs.numbers_come_in.Goals as goal

below : (bits : ℕ) (z : ℤ) → modulo bits z < 2 ^ bits
below bits (pos n) = mod-lt n (pow_pos bits)
below bits (negsuc n) = omega (arith, pow_pos bits)

pub returns : goal.returns
returns c = record {
  below = below;
  kept = λ bits n small. mod-eq_of_lt small;
  greatest = refl;
  too_great = refl;
  least = refl;
  too_small = refl;
  long = refl;
  byte = refl;
  negative_byte = refl;
  negative = refl;
  even = refl;
  odd = refl;
}
