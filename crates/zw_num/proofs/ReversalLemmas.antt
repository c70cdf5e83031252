-- Digits in the other order, a digit at a time.
use Rattle.std.proofs.Common.{◌≡◌, ℕ, zero, suc, ◌+◌, ◌-◌, ◌*◌, ◌/◌, ◌%◌, ◌^◌, ◌<◌, ◌≤◌, refl, ap, subst, add-one, ◌∙◌, arith}
use Rattle.std.proofs.lemmas.Nat.{mul-add-lt, pow-add}
use Rattle.std.proofs.Math.Nat.{pow-zero, pow-suc, pow-le-pow_right, add-mul, mul_assoc, mul_comm}
use Rattle.zw_num.specs.Arithmetic.{reversed}

pub reversed_more : (base count n : ℕ) → reversed base (suc count) n ≡ (n % base) * base ^ count + reversed base count (n / base)
unfolding reversed
reversed_more base count n = refl

pub reversed_none : (base n : ℕ) → reversed base 0 n ≡ 0
unfolding reversed
reversed_none base n = refl

-- one digit more stands in front, and one less is still to come
front : (base left out rest r : ℕ) → out * base ^ suc left + reversed base (suc left) rest ≡ r → (out * base + rest % base) * base ^ left + reversed base left (rest / base) ≡ r
front base left out rest r e =
    let power = ap (λ (x : ℕ). out * x) (pow-suc base left ∙ mul_comm (base ^ left) base) in
    let split = add-mul (out * base) (rest % base) (base ^ left) in
    let product = mul_assoc out base (base ^ left) in
    omega (arith, reversed_more base left rest)

pub step : (base count i out rest r : ℕ) → i < count → out * base ^ (count - i) + reversed base (count - i) rest ≡ r →
    (out * base + rest % base) * base ^ (count - (i + 1)) + reversed base (count - (i + 1)) (rest / base) ≡ r
step base count i out rest r h e =
    let one : count - i ≡ suc (count - (i + 1)) = omega arith in
    front base (count - (i + 1)) out rest r (subst (λ (k : ℕ). out * base ^ k + reversed base k rest ≡ r) one e)

pub front_below : (base i out rest : ℕ) → 0 < base → out < base ^ i → out * base + rest % base < base ^ (i + 1)
front_below base i out rest h k =
    let digit : rest % base < base = omega arith in
    let power : base ^ (i + 1) ≡ base * base ^ i = ap (λ (x : ℕ). base ^ x) (add-one i) ∙ pow-suc base i ∙ mul_comm (base ^ i) base in
    omega (arith, mul-add-lt out base (rest % base) (base ^ i) k digit)

pub power_below : (base i count : ℕ) → 0 < base → i < count → base ^ (i + 1) ≤ base ^ count
power_below base i count h k = pow-le-pow_right {n = base} h (omega arith)

pub start_whole : (base count n : ℕ) → 0 * base ^ (count - 0) + reversed base (count - 0) n ≡ reversed base count n
start_whole base count n = let same : count - 0 ≡ count = omega arith in ap (λ (k : ℕ). 0 * base ^ k + reversed base k n) same ∙ omega arith

pub start_small : (base : ℕ) → 0 < base ^ 0
start_small base = omega (arith, pow-zero base)

last_whole : (base out rest left r : ℕ) → left ≡ 0 → out * base ^ left + reversed base left rest ≡ r → out ≡ r
last_whole base out rest left r none e =
    let there = subst (λ (k : ℕ). out * base ^ k + reversed base k rest ≡ r) none e in
    let one = ap (λ (x : ℕ). out * x) (pow-zero base) in
    omega (arith, reversed_none base rest)

pub end_whole : (base count i out rest r : ℕ) → count ≤ i → out * base ^ (count - i) + reversed base (count - i) rest ≡ r → out ≡ r
end_whole base count i out rest r h e = last_whole base out rest (count - i) r (omega arith) e

-- bytes are eight bits
pub bytes_are_bits : (k : ℕ) → 256 ^ k ≡ 2 ^ (8 * k)
bytes_are_bits zero = omega (arith, pow-zero 256)
bytes_are_bits (suc k) =
    let more : 8 * suc k ≡ 8 * k + 8 = omega arith in
    let power = ap (λ (n : ℕ). 2 ^ n) more ∙ pow-add 2 (8 * k) 8 in
    omega (arith, pow-suc 256 k, bytes_are_bits k)

pub bytes_fit : (bits : ℕ) → 2 ^ bits ≤ 2 ^ 64 → 256 ^ (bits / 8) ≤ 2 ^ 64
bytes_fit bits h =
    let fewer : 2 ^ (8 * (bits / 8)) ≤ 2 ^ bits = pow-le-pow_right {n = 2} (omega arith) (omega arith) in
    omega (arith, bytes_are_bits (bits / 8))
