-- What the counts of bits are.
use Rattle.std.proofs.Common.{◌≡◌, ℕ, zero, suc, ◌+◌, ◌-◌, ◌*◌, ◌/◌, ◌%◌, ◌^◌, ◌<◌, ◌≤◌, ℤ, pos, negsuc, refl, ap, sym, subst, ◌∙◌, arith}
use Rattle.std.specs.Prelude.{count_ones}
use Rattle.std.specs.Int.{bit_at}
use Rattle.std.proofs.lemmas.Nat.{leading_length, ones_cat, pow_pos, ones-le, div_below, div-add-mod'}
use Rattle.std.proofs.lemmas.Nat.Bits.{bit_at_lowest, bit_at-suc, bit_at_cat_low}
use Rattle.std.proofs.Math.Nat.{pow-suc}
use lib.Count.{ones_step, count_leading_zeros, count_trailing_zeros, under}
use Rattle.zw_num.specs.Arithmetic.{HasLeadingZeros, HasTrailingZeros, ones_of, pattern, bits_not}

pub leading : (bits n : ℕ) → n < 2 ^ bits → HasLeadingZeros bits n (count_leading_zeros bits n)
leading bits n h =
    let length = leading_length bits n h in
    let k = count_leading_zeros bits n in
    let rest : bits - k ≡ length.0 = omega (arith, length.1) in
    record {
      among = omega (arith, length.1);
      zeros = subst (λ (m : ℕ). n < 2 ^ m) (sym rest) length.2;
      one = λ (some : k < bits).
          let more : length.0 ≡ suc (bits - k - 1) = omega (arith, length.1) in
          let power = ap (λ (m : ℕ). 2 ^ m) more ∙ pow-suc 2 (bits - k - 1) in
          omega (arith, length.3);
    }

zeros_more : (n t i : ℕ) → n % 2 ≡ 0 → ((j : ℕ) → j < t → bit_at (n / 2) j ≡ 0) → i < suc t → bit_at n i ≡ 0
zeros_more n t zero e z h = bit_at_lowest n ∙ e
zeros_more n t (suc i) e z h = bit_at-suc n i ∙ z i (omega arith)

trailing_step : (bits n d t : ℕ) → n % 2 ≡ d → HasTrailingZeros bits (n / 2) t → HasTrailingZeros (suc bits) n (under d t)
trailing_step bits n zero t e r = record {
  among = omega (arith, r.among);
  zeros = λ (i : ℕ) (h : i < suc t). zeros_more n t i e r.zeros h;
  one = λ (h : suc t < suc bits). bit_at-suc n t ∙ r.one (omega arith);
}
trailing_step bits n (suc d) t e r = record {
  among = omega arith;
  zeros = λ (i : ℕ) (h : i < 0). absurd (omega arith);
  one = λ (h : 0 < suc bits). omega (arith, bit_at_lowest n);
}

pub trailing : (bits n : ℕ) → HasTrailingZeros bits n (count_trailing_zeros bits n)
unfolding count_trailing_zeros
trailing zero n = record { among = omega arith; zeros = λ (i : ℕ) (h : i < 0). absurd (omega arith); one = λ (h : 0 < 0). absurd (omega arith) }
trailing (suc bits) n = trailing_step bits n (n % 2) (count_trailing_zeros bits (n / 2)) refl (trailing bits (n / 2))

-- ---- ones

ones_low : (j k n : ℕ) → j ≤ k → ones_of j (n % 2 ^ k) ≡ ones_of j n
unfolding ones_of
ones_low zero k n h = refl
ones_low (suc j) k n h =
    let some = pow_pos k in
    let whole : n / 2 ^ k * 2 ^ k + n % 2 ^ k ≡ n = div-add-mod' n (2 ^ k) in
    let here = ap (λ (x : ℕ). bit_at x j) (sym whole) ∙ bit_at_cat_low (n / 2 ^ k) k (n % 2 ^ k) j (omega arith) in
    omega (arith, ones_low j k n (omega arith))

few_ones : (q : ℕ) → q < 2 → count_ones q ≡ q
few_ones zero h = omega (arith, ones-le 0 0 (omega arith))
few_ones (suc zero) h = omega (arith, ones_step 1, ones-le 0 0 (omega arith))
few_ones (suc (suc q)) h = absurd (omega arith)

pub ones : (bits n : ℕ) → n < 2 ^ bits → count_ones n ≡ ones_of bits n
unfolding ones_of
ones zero n h = omega (arith, ones-le 0 n h)
ones (suc k) n h =
    let some = pow_pos k in
    let below : n % 2 ^ k < 2 ^ k = omega arith in
    let whole : n / 2 ^ k * 2 ^ k + n % 2 ^ k ≡ n = div-add-mod' n (2 ^ k) in
    let top : n / 2 ^ k < 2 = div_below n (2 ^ k) 2 some (omega (arith, pow-suc 2 k)) in
    let split = ap count_ones (sym whole) ∙ ones_cat k (n / 2 ^ k) (n % 2 ^ k) below in
    let bit : bit_at n k ≡ n / 2 ^ k = omega arith in
    omega (arith, few_ones (n / 2 ^ k) top, ones k (n % 2 ^ k) below, ones_low k k n (omega arith))

turned : (bits n : ℕ) → n < 2 ^ bits → count_ones n + count_ones (2 ^ bits - 1 - n) ≡ bits
turned zero n h = omega (arith, ones-le 0 n h, ones-le 0 (2 ^ 0 - 1 - n) (omega arith))
turned (suc k) n h =
    let power = pow-suc 2 k in
    let c = 2 ^ suc k - 1 - n in
    let half : c / 2 ≡ 2 ^ k - 1 - n / 2 = omega arith in
    let bit : c % 2 + n % 2 ≡ 1 = omega arith in
    let rest = ap count_ones half in
    omega (arith, ones_step n, ones_step c, turned k (n / 2) (omega arith))

pub all_bits : (bits : ℕ) (a : ℤ) → count_ones (pattern bits a) + count_ones (pattern bits (bits_not a)) ≡ bits
all_bits bits (pos n) = let some = pow_pos bits in turned bits (n % 2 ^ bits) (omega arith)
all_bits bits (negsuc n) = let some = pow_pos bits in omega (arith, turned bits (n % 2 ^ bits) (omega arith))
