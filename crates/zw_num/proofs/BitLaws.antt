-- Each bit of what the bit operators give.
use Rattle.std.proofs.Common.{◌≡◌, ℕ, zero, suc, ◌+◌, ◌-◌, ◌%◌, ◌^◌, ◌<◌, ℤ, pos, negsuc, bit_and, bit_xor, ap, sym, ◌∙◌, arith}
use Rattle.std.specs.Prelude.{min, max}
use Rattle.std.specs.Int.{bit_at}
use Rattle.std.specs.Int.Bits.{xor_add_and}
use Rattle.std.proofs.lemmas.Nat.{and_comm}
use Rattle.std.proofs.lemmas.Nat.Bits.{bit_at_and, bit_at_or, bit_at_xor, bit_at-lt, bit_at_above, same_from_bits}
use Rattle.std.proofs.Math.Nat.{pow-suc}
use Rattle.zw_num.specs.Arithmetic.{bit_of, bits_and, bits_or, bits_xor}

-- the bits of a that b doesn't have
and_again : (a b : ℕ) → bit_and a (bit_and a b) ≡ bit_and a b
and_again a b = same_from_bits (bit_and a (bit_and a b)) (bit_and a b) (λ (i : ℕ). bit_at_and a (bit_and a b) i ∙ omega (arith, bit_at_and a b i))

without : (a b i : ℕ) → bit_at (a - bit_and a b) i ≡ min (bit_at a i) (1 - bit_at b i)
without a b i =
    let is : a - bit_and a b ≡ bit_xor a (bit_and a b) = omega (arith, xor_add_and a (bit_and a b), and_again a b) in
    let low_a = bit_at-lt a i in
    let low_b = bit_at-lt b i in
    ap (λ (n : ℕ). bit_at n i) is ∙ bit_at_xor a (bit_and a b) i ∙ omega (arith, bit_at_and a b i)

without_turned : (a b i : ℕ) → bit_at (b - bit_and a b) i ≡ min (bit_at b i) (1 - bit_at a i)
without_turned a b i = ap (λ (n : ℕ). bit_at (b - n) i) (and_comm a b) ∙ without b a i

pub both : (a b : ℤ) (i : ℕ) → bit_of (bits_and a b) i ≡ min (bit_of a i) (bit_of b i)
both (pos a) (pos b) i = bit_at_and a b i
both (pos a) (negsuc b) i = without a b i
both (negsuc a) (pos b) i = omega (arith, without_turned a b i)
both (negsuc a) (negsuc b) i = omega (arith, bit_at_or a b i, bit_at-lt a i, bit_at-lt b i)

pub either : (a b : ℤ) (i : ℕ) → bit_of (bits_or a b) i ≡ max (bit_of a i) (bit_of b i)
either (pos a) (pos b) i = bit_at_or a b i
either (pos a) (negsuc b) i = omega (arith, without_turned a b i, bit_at-lt a i, bit_at-lt b i)
either (negsuc a) (pos b) i = omega (arith, without a b i, bit_at-lt a i, bit_at-lt b i)
either (negsuc a) (negsuc b) i = omega (arith, bit_at_and a b i, bit_at-lt a i, bit_at-lt b i)

pub just_one : (a b : ℤ) (i : ℕ) → bit_of (bits_xor a b) i ≡ (bit_of a i + bit_of b i) % 2
just_one (pos a) (pos b) i = bit_at_xor a b i
just_one (pos a) (negsuc b) i = omega (arith, bit_at_xor a b i, bit_at-lt a i, bit_at-lt b i)
just_one (negsuc a) (pos b) i = omega (arith, bit_at_xor a b i, bit_at-lt a i, bit_at-lt b i)
just_one (negsuc a) (negsuc b) i = omega (arith, bit_at_xor a b i, bit_at-lt a i, bit_at-lt b i)

-- a number from 0 on and one below it differ in a place above both
below_power : (n : ℕ) → n < 2 ^ n
below_power zero = omega arith
below_power (suc n) = omega (arith, below_power n, pow-suc 2 n)

apart : (a b : ℕ) → ((i : ℕ) → bit_at a i ≡ 1 - bit_at b i) → ⊥
apart a b same =
    let place = a + b in
    let high_a = bit_at_above a a (a + b) (below_power a) (omega arith) in
    let high_b = bit_at_above b b (a + b) (below_power b) (omega arith) in
    omega (arith, same (a + b))

pub one_number : (a b : ℤ) → ((i : ℕ) → bit_of a i ≡ bit_of b i) → a ≡ b
one_number (pos a) (pos b) same = ap pos (same_from_bits a b same)
one_number (pos a) (negsuc b) same = absurd (apart a b same)
one_number (negsuc a) (pos b) same = absurd (apart b a (λ (i : ℕ). sym (same i)))
one_number (negsuc a) (negsuc b) same = ap negsuc (same_from_bits a b (λ (i : ℕ). omega (arith, same i, bit_at-lt a i, bit_at-lt b i)))
