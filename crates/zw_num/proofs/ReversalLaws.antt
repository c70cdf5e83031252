-- Reversed digits: each is in the opposite place, and to reverse them twice gives the number back.
use Rattle.std.proofs.Common.{◌≡◌, ℕ, zero, suc, ◌+◌, ◌-◌, ◌*◌, ◌/◌, ◌%◌, ◌^◌, ◌<◌, ◌≤◌, inl, inr, ap, sym, ◌∙◌, arith}
use Rattle.std.proofs.lemmas.Nat.{pow-add, mul-add-lt, div-mul-add, div_below, div-add-mod'}
use Rattle.std.proofs.lemmas.Bool.{cases_lt}
use Rattle.std.proofs.Math.Nat.{pow-zero, pow-suc, pow-le-pow_right, mod-eq_of_lt, add-mul, mul_assoc, mul_comm, div-one, mod-mod, div-div-eq-div-mul, mul-add-div_right, mul-add-mod_self_right}
use Rattle.zw_num.specs.Arithmetic.{reversed, digit}
use Rattle.zw_num.proofs.ReversalLemmas.{reversed_more, reversed_none}

pub below : (base count n : ℕ) → 0 < base → reversed base count n < base ^ count
below base zero n h = omega (arith, reversed_none base n, pow-zero base)
below base (suc count) n h =
    let low : n % base < base = omega arith in
    let rest = below base count (n / base) h in
    omega (arith, reversed_more base count n, pow-suc base count, mul_comm (base ^ count) base, mul-add-lt (n % base) (base ^ count) (reversed base count (n / base)) base low rest)

-- a number without its lowest digit, and that digit, where another stands in front
tail_of : (base j t m : ℕ) → 0 < base → (t * base ^ suc j + m) / base ≡ t * base ^ j + m / base
tail_of base j t m h = ap (λ (x : ℕ). (x + m) / base) (ap (λ (x : ℕ). t * x) (pow-suc base j) ∙ sym (mul_assoc t (base ^ j) base)) ∙ mul-add-div_right h (t * base ^ j) m

last_of : (base j t m : ℕ) → (t * base ^ suc j + m) % base ≡ m % base
last_of base j t m = ap (λ (x : ℕ). (x + m) % base) (ap (λ (x : ℕ). t * x) (pow-suc base j) ∙ sym (mul_assoc t (base ^ j) base)) ∙ mul-add-mod_self_right (t * base ^ j) base m

-- the digit in front comes to be the last
front_last : (base count t m : ℕ) → t < base → m < base ^ count → reversed base (suc count) (t * base ^ count + m) ≡ reversed base count m * base + t
front_last base zero t m h k =
    let none : m ≡ 0 = omega (arith, pow-zero base) in
    let one = pow-zero base in
    let number : t * base ^ 0 + m ≡ t = ap (λ (x : ℕ). t * x + m) one ∙ omega arith in
    let digit = mod-eq_of_lt h in
    ap (reversed base 1) number ∙ reversed_more base 0 t ∙ ap (λ (x : ℕ). (t % base) * x + reversed base 0 (t / base)) one
    ∙ omega (arith, reversed_none base (t / base), ap (λ (x : ℕ). x * base) (reversed_none base m))
front_last base (suc j) t m h k =
    let some : 0 < base = omega arith in
    let power = pow-suc base j in
    let fewer : m / base < base ^ j = div_below m base (base ^ j) some (omega (arith, power)) in
    let inner = ap (reversed base (suc j)) (tail_of base j t m some) ∙ front_last base j t (m / base) h fewer in
    let digit = ap (λ (x : ℕ). x * base ^ suc j) (last_of base j t m) in
    let whole = reversed_more base (suc j) (t * base ^ suc j + m) in
    let part = ap (λ (x : ℕ). x * base) (reversed_more base j m) ∙ add-mul ((m % base) * base ^ j) (reversed base j (m / base)) base in
    let product = ap (λ (x : ℕ). (m % base) * x) power ∙ sym (mul_assoc (m % base) (base ^ j) base) in
    omega (arith, whole, inner, digit, part, product)

pub again : (base count n : ℕ) → n < base ^ count → reversed base count (reversed base count n) ≡ n
again base zero n h = omega (arith, reversed_none base (reversed base 0 n), pow-zero base)
again zero (suc count) n h = absurd (omega (arith, pow-suc 0 count))
again (suc b) (suc count) n h =
    let base = suc b in
    let digit : n % base < base = omega arith in
    let fewer : n / base < base ^ count = div_below n base (base ^ count) (omega arith) (omega (arith, pow-suc base count)) in
    let rest = below base count (n / base) (omega arith) in
    ap (reversed base (suc count)) (reversed_more base count n) ∙ front_last base count (n % base) (reversed base count (n / base)) digit rest
    ∙ ap (λ (x : ℕ). x * base + n % base) (again base count (n / base) fewer) ∙ div-add-mod' n base

-- ---- digits

some_power : (base i : ℕ) → 0 < base → 0 < base ^ i
some_power base i h = let more : base ^ 0 ≤ base ^ i = pow-le-pow_right {n = base} h (omega arith) in omega (arith, pow-zero base)

-- a digit below the front
digit_below : (base a more i r : ℕ) → 0 < base → digit base (a * base ^ (suc more + i) + r) i ≡ digit base r i
digit_below base a more i r h =
    let power = ap (λ (x : ℕ). a * x) (pow-add base (suc more) i) ∙ sym (mul_assoc a (base ^ suc more) (base ^ i)) in
    let shifted = ap (λ (x : ℕ). (x + r) / base ^ i) power ∙ mul-add-div_right (some_power base i h) (a * base ^ suc more) r in
    let multiple = ap (λ (x : ℕ). a * x) (pow-suc base more) ∙ sym (mul_assoc a (base ^ more) base) in
    ap (λ (x : ℕ). x % base) shifted ∙ ap (λ (x : ℕ). (x + r / base ^ i) % base) multiple ∙ mul-add-mod_self_right (a * base ^ more) base (r / base ^ i)

digit_under : (base a count i r : ℕ) → 0 < base → i < count → digit base (a * base ^ count + r) i ≡ digit base r i
digit_under base a count i r h k =
    let parts : count ≡ suc (count - 1 - i) + i = omega arith in
    ap (λ (x : ℕ). digit base (a * base ^ x + r) i) parts ∙ digit_below base a (count - 1 - i) i r h

digit_in_front : (base a count r : ℕ) → r < base ^ count → digit base (a * base ^ count + r) count ≡ a % base
digit_in_front base a count r h = ap (λ (x : ℕ). x % base) (div-mul-add a (base ^ count) r h)

-- a digit of what is left without the lowest one
digit_after : (base n i : ℕ) → digit base (n / base) i ≡ digit base n (suc i)
digit_after base n i =
    let power = mul_comm base (base ^ i) ∙ sym (pow-suc base i) in
    ap (λ (x : ℕ). x % base) (div-div-eq-div-mul n base (base ^ i) ∙ ap (λ (x : ℕ). n / x) power)

lowest_digit : (base n : ℕ) → digit base n 0 ≡ n % base
lowest_digit base n = ap (λ (x : ℕ). x % base) (ap (λ (x : ℕ). n / x) (pow-zero base) ∙ div-one n)

pub opposite : (base count n i : ℕ) → 0 < base → i < count → digit base (reversed base count n) i ≡ digit base n (count - 1 - i)
opposite base zero n i h k = absurd (omega arith)
opposite base (suc count) n i h k =
    ap (λ (x : ℕ). digit base x i) (reversed_more base count n) ∙ elim (cases_lt i count) [
      | inl under ↦
          let place : suc (count - 1 - i) ≡ suc count - 1 - i = omega arith in
          digit_under base (n % base) count i (reversed base count (n / base)) h under ∙ opposite base count (n / base) i h under
          ∙ digit_after base n (count - 1 - i) ∙ ap (digit base n) place
      | inr over ↦
          let last : i ≡ count = omega arith in
          let none : 0 ≡ suc count - 1 - i = omega arith in
          ap (digit base ((n % base) * base ^ count + reversed base count (n / base))) last
          ∙ digit_in_front base (n % base) count (reversed base count (n / base)) (below base count (n / base) h)
          ∙ mod-mod n base ∙ sym (lowest_digit base n) ∙ ap (digit base n) none
    ]
