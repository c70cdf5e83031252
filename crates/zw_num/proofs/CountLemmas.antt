-- Counts in a width from counts in a wider one.
use Rattle.std.proofs.Common.{◌≡◌, ℕ, zero, suc, ◌+◌, ◌-◌, ◌*◌, ◌/◌, ◌%◌, ◌^◌, ◌<◌, ◌≤◌, inl, inr, ap, ◌∙◌, arith}
use Rattle.std.specs.Prelude.{min}
use Rattle.std.proofs.lemmas.Bool.{cases_lt}
use Rattle.std.proofs.lemmas.Nat.{leading_length}
use Rattle.std.proofs.Math.Nat.{pow-suc, pow-le-pow_right}
use lib.Count.{count_leading_zeros, count_trailing_zeros, under}

-- the length of a number is no more than any other length of it
no_longer : (a m n : ℕ) → 2 ^ m ≤ 2 * a + 1 → a < 2 ^ n → m ≤ n
no_longer a m n h k =
    elim (cases_lt n m) [
      | inl above ↦ absurd (let more : 2 ^ suc n ≤ 2 ^ m = pow-le-pow_right {n = 2} (omega arith) (omega arith) in omega (arith, pow-suc 2 n))
      | inr within ↦ within
    ]

pub leading_wider : (k l a : ℕ) → a < 2 ^ k → k ≤ l → count_leading_zeros l a ≡ (l - k) + count_leading_zeros k a
leading_wider k l a h w =
    let more : 2 ^ k ≤ 2 ^ l = pow-le-pow_right {n = 2} (omega arith) w in
    let here = leading_length k a h in
    let there = leading_length l a (omega arith) in
    let low = no_longer a here.0 there.0 here.3 there.2 in
    let high = no_longer a there.0 here.0 there.3 here.2 in
    omega (arith, here.1, there.1)

under_min : (d t w : ℕ) → min (under d t) (suc w) ≡ under d (min t w)
under_min zero t w = omega arith
under_min (suc d) t w = omega arith

pub trailing_narrow : (w l n : ℕ) → w ≤ l → min (count_trailing_zeros l n) w ≡ count_trailing_zeros w n
unfolding count_trailing_zeros
trailing_narrow zero l n h = omega arith
trailing_narrow (suc w) zero n h = absurd (omega arith)
trailing_narrow (suc w) (suc l) n h =
    under_min (n % 2) (count_trailing_zeros l (n / 2)) w ∙ ap (under (n % 2)) (trailing_narrow w l (n / 2) (omega arith))
