-- Digits in the other order by neighbours that change places: what is left is a reversal of half as many digits, in the square of the base.
use Rattle.std.proofs.Common.{◌≡◌, ℕ, zero, suc, ◌+◌, ◌-◌, ◌*◌, ◌/◌, ◌%◌, ◌^◌, ◌<◌, ◌≤◌, refl, sym, ap, ◌∙◌, arith}
use Rattle.std.specs.Prelude.{bit_and}
use Rattle.std.proofs.lemmas.Nat.{pow-add, mul-pow, pow_pos, mul-add-lt, div-mul-add, mod-mul-add, div-add-mod', mod_below, and_block, and_mask}
use Rattle.std.proofs.Math.Arith.{mod-mul}
use Rattle.std.proofs.Math.Pow.{mod-mod-pow}
use Rattle.std.specs.Int.Bits.{and_zero_r}
use Rattle.std.proofs.Math.Nat.{pow-zero, pow-suc, pow-le-pow_right, add-mul, mul_assoc, mul_comm, div-one, div-div-eq-div-mul, mod-eq_of_lt}
use Rattle.zw_num.proofs.ReversalLaws.{below}
use Rattle.zw_num.proofs.ReversalLemmas.{reversed_more, reversed_none}
use Rattle.zw_num.specs.Arithmetic.{reversed}

-- ---- neighbours that change places

-- n digits of x, every second one from the lowest on, each where it stands
unfoldable pub evens : ℕ → ℕ → ℕ → ℕ
evens base zero x = 0
evens base (suc n) x = evens base n (x / (base * base)) * (base * base) + x % base

-- the number in which the lowest n pairs of neighbouring digits have changed places
abbrev pub swapped : ℕ → ℕ → ℕ → ℕ
swapped base n x = evens base n x * base + evens base n (x / base)

evens_more : (base n x : ℕ) → evens base (suc n) x ≡ evens base n (x / (base * base)) * (base * base) + x % base
unfolding evens
evens_more base n x = refl

evens_none : (base x : ℕ) → evens base 0 x ≡ 0
unfolding evens
evens_none base x = refl

two_off : (base x : ℕ) → x / base / (base * base) ≡ x / (base * base) / base
two_off base x = div-div-eq-div-mul x base (base * base) ∙ ap (λ (k : ℕ). x / k) (mul_comm base (base * base)) ∙ sym (div-div-eq-div-mul x (base * base) base)

swapped_more : (base n x : ℕ) → swapped base (suc n) x ≡ swapped base n (x / (base * base)) * (base * base) + ((x % base) * base + x / base % base)
swapped_more base n x =
    let two = base * base in
    let e = evens base n (x / two) in
    let f = evens base n (x / two / base) in
    let high = ap (λ (k : ℕ). k * base) (evens_more base n x) ∙ add-mul (e * two) (x % base) base in
    let low = evens_more base n (x / base) ∙ ap (λ (k : ℕ). evens base n k * two + x / base % base) (two_off base x) in
    let turned = mul_assoc e two base ∙ ap (λ (k : ℕ). e * k) (mul_comm two base) ∙ sym (mul_assoc e base two) in
    omega (arith, high, low, turned, add-mul (e * base) f two)

pair_below : (base x : ℕ) → 0 < base → (x % base) * base + x / base % base < base * base
pair_below base x h = mul-add-lt (x % base) base (x / base % base) base (mod_below x base h) (mod_below (x / base) base h)

pub swapped_below : (base n x : ℕ) → 0 < base → swapped base n x < (base * base) ^ n
swapped_below base zero x h =
    let none = ap (λ (k : ℕ). k * base) (evens_none base x) in
    omega (arith, none, evens_none base (x / base), pow-zero (base * base))
swapped_below base (suc n) x h =
    let two = base * base in
    let power = pow-suc two n ∙ mul_comm (two ^ n) two in
    omega (arith, power, swapped_more base n x, mul-add-lt (swapped base n (x / two)) two ((x % base) * base + x / base % base) (two ^ n) (swapped_below base n (x / two) h) (pair_below base x h))

-- a reversal of twice as many digits
pub by_pairs : (base n x : ℕ) → 0 < base → reversed base (n + n) x ≡ reversed (base * base) n (swapped base n x)
by_pairs base zero x h = reversed_none base x ∙ sym (reversed_none (base * base) (swapped base 0 x))
by_pairs base (suc n) x h =
    let two = base * base in
    let m = n + n in
    let more : suc n + suc n ≡ suc (suc m) = omega arith in
    let a = x % base in
    let b = x / base % base in
    let y = swapped base n (x / two) in
    let z = swapped base (suc n) x in
    let rest = ap (λ (k : ℕ). reversed base m k) (div-div-eq-div-mul x base base) ∙ by_pairs base n (x / two) h in
    let left = ap (λ (k : ℕ). reversed base k x) more ∙ reversed_more base (suc m) x in
    let second = reversed_more base m (x / base) in
    let parts = swapped_more base n x in
    let low = ap (λ (k : ℕ). k % two) parts ∙ mod-mul-add y two (a * base + b) (pair_below base x h) in
    let high = ap (λ (k : ℕ). k / two) parts ∙ div-mul-add y two (a * base + b) (pair_below base x h) in
    let power = mul-pow base base n ∙ sym (pow-add base n n) in
    let front = ap (λ (k : ℕ). k * two ^ n) low ∙ ap (λ (k : ℕ). (a * base + b) * k) power ∙ add-mul (a * base) b (base ^ m) in
    let first = ap (λ (k : ℕ). a * k) (pow-suc base m ∙ mul_comm (base ^ m) base) ∙ sym (mul_assoc a base (base ^ m)) in
    let right = reversed_more two n z ∙ ap (λ (k : ℕ). (z % two) * two ^ n + reversed two n k) high in
    omega (arith, left, second, rest, front, first, right)

-- ---- fewer digits

-- digits behind the first i come after them
more_behind : (base i j x : ℕ) → reversed base (i + j) x ≡ reversed base i x * base ^ j + reversed base j (x / base ^ i)
more_behind base zero j x =
    let same : 0 + j ≡ j = omega arith in
    let all = ap (λ (k : ℕ). reversed base j (x / k)) (pow-zero base) ∙ ap (reversed base j) (div-one x) in
    let none = ap (λ (k : ℕ). k * base ^ j) (reversed_none base x) in
    ap (λ (k : ℕ). reversed base k x) same ∙ omega (arith, all, none)
more_behind base (suc i) j x =
    let more : suc i + j ≡ suc (i + j) = omega arith in
    let a = x % base in
    let left = ap (λ (k : ℕ). reversed base k x) more ∙ reversed_more base (i + j) x in
    let power = ap (λ (k : ℕ). a * k) (pow-add base i j) ∙ sym (mul_assoc a (base ^ i) (base ^ j)) in
    let inner = more_behind base i j (x / base) in
    let last = ap (reversed base j) (div-div-eq-div-mul x base (base ^ i) ∙ ap (λ (k : ℕ). x / k) (mul_comm base (base ^ i) ∙ sym (pow-suc base i))) in
    let right = ap (λ (k : ℕ). k * base ^ j) (reversed_more base i x) ∙ add-mul (a * base ^ i) (reversed base i (x / base)) (base ^ j) in
    omega (arith, left, power, inner, last, right)

-- only the digits that are reversed count
low_digits : (base i x : ℕ) → 0 < base → reversed base i x ≡ reversed base i (x % base ^ i)
low_digits base zero x h = reversed_none base x ∙ sym (reversed_none base (x % base ^ 0))
low_digits base (suc i) x h =
    let p = base ^ i in
    let some : 0 < p = let more : base ^ 0 ≤ base ^ i = pow-le-pow_right {n = base} h (omega arith) in omega (arith, more, pow-zero base) in
    let parts = ap (λ (k : ℕ). x % k) (pow-suc base i) ∙ mod-mul x some h in
    let lowest = ap (λ (k : ℕ). k % base) parts ∙ mod-mul-add (x / base % p) base (x % base) (mod_below x base h) in
    let rest = ap (λ (k : ℕ). k / base) parts ∙ div-mul-add (x / base % p) base (x % base) (mod_below x base h) in
    reversed_more base i x ∙ ap (λ (k : ℕ). (x % base) * p + k) (low_digits base i (x / base) h)
    ∙ ap (λ (k : ℕ). k * p + reversed base i (x / base % p)) (sym lowest) ∙ ap (λ (k : ℕ). (x % base ^ suc i % base) * p + reversed base i k) (sym rest)
    ∙ sym (reversed_more base i (x % base ^ suc i))

-- without the last j digits of a reversal those of fewer are left
pub dropped : (base i j x w d : ℕ) → 0 < base → base ^ i ≡ 2 ^ w → base ^ j ≡ 2 ^ d → reversed base (i + j) x / 2 ^ d ≡ reversed base i (x % 2 ^ w)
dropped base i j x w d h e f =
    ap (λ (k : ℕ). reversed base (i + j) x / k) (sym f) ∙ ap (λ (k : ℕ). k / base ^ j) (more_behind base i j x)
    ∙ div-mul-add (reversed base i x) (base ^ j) (reversed base j (x / base ^ i)) (below base j (x / base ^ i) h)
    ∙ low_digits base i x h ∙ ap (λ (k : ℕ). reversed base i (x % k)) e

-- one digit
pub one_digit : (base x : ℕ) → x < base → reversed base 1 x ≡ x
one_digit base x h =
    let first = ap (λ (k : ℕ). (x % base) * k) (pow-zero base) in
    omega (arith, reversed_more base 0 x, reversed_none base (x / base), first, mod-eq_of_lt h)

pub bytes_power : (n : ℕ) → 256 ^ n ≡ 2 ^ (8 * n)
bytes_power zero = pow-zero 256
bytes_power (suc n) =
    let more : 8 * suc n ≡ 8 * n + 8 = omega arith in
    pow-suc 256 n ∙ ap (λ (k : ℕ). k * 256) (bytes_power n) ∙ sym (ap (λ (k : ℕ). 2 ^ k) more ∙ pow-add 2 (8 * n) 8)

-- ---- masks

-- the bits of every second digit of k bits, of n digits
unfoldable pub mask_of : ℕ → ℕ → ℕ
mask_of k zero = 0
mask_of k (suc n) = mask_of k n * 2 ^ (k + k) + (2 ^ k - 1)

mask_more : (k n : ℕ) → mask_of k (suc n) ≡ mask_of k n * 2 ^ (k + k) + (2 ^ k - 1)
unfolding mask_of
mask_more k n = refl

mask_none : (k : ℕ) → mask_of k 0 ≡ 0
unfolding mask_of
mask_none k = refl

-- they are what the mask leaves
pub masked_digits : (k n x : ℕ) → bit_and x (mask_of k n) ≡ evens (2 ^ k) n x
masked_digits k zero x = ap (bit_and x) (mask_none k) ∙ and_zero_r x ∙ sym (evens_none (2 ^ k) x)
masked_digits k (suc n) x =
    let p = 2 ^ (k + k) in
    let some = pow_pos k in
    let all = pow_pos (k + k) in
    let square = pow-add 2 k k in
    let grows : 2 ^ k ≤ p = pow-le-pow_right {n = 2} (omega arith) (omega arith) in
    let less : 2 ^ k - 1 < p = omega (arith, some, grows) in
    ap (λ (y : ℕ). bit_and y (mask_of k (suc n))) (sym (div-add-mod' x p)) ∙ ap (bit_and (x / p * p + x % p)) (mask_more k n)
    ∙ and_block (k + k) (x / p) (mask_of k n) (x % p) (2 ^ k - 1) (mod_below x p all) less
    ∙ ap (λ (y : ℕ). y * p + bit_and (x % p) (2 ^ k - 1)) (masked_digits k n (x / p))
    ∙ ap (λ (y : ℕ). evens (2 ^ k) n (x / p) * p + y) (and_mask (x % p) k ∙ mod-mod-pow x k k)
    ∙ ap (λ (y : ℕ). evens (2 ^ k) n (x / y) * y + x % 2 ^ k) square ∙ sym (evens_more (2 ^ k) n x)

-- both halves of a swap in a word: none goes past its top
pub swap_sum : (k n x top : ℕ) → (2 ^ k * 2 ^ k) ^ n ≡ top → ((evens (2 ^ k) n x * 2 ^ k) % top + evens (2 ^ k) n (x / 2 ^ k)) % top ≡ swapped (2 ^ k) n x
swap_sum k n x top e =
    let below = swapped_below (2 ^ k) n x (pow_pos k) in
    let high = mod-eq_of_lt {n = evens (2 ^ k) n x * 2 ^ k} {m = top} (omega (arith, below, e)) in
    ap (λ (y : ℕ). (y + evens (2 ^ k) n (x / 2 ^ k)) % top) high ∙ mod-eq_of_lt (omega (arith, below, e))

-- ---- 32 bits and 64

-- the four bytes, and the 32 bits
abbrev pub turned_bytes : ℕ → ℕ
turned_bytes x = swapped (2 ^ 16) 1 (swapped (2 ^ 8) 2 x)

abbrev pub turned_bits : ℕ → ℕ
turned_bits x = turned_bytes (swapped (2 ^ 4) 4 (swapped (2 ^ 2) 8 (swapped (2 ^ 1) 16 x)))

pub bytes_turn : (x : ℕ) → reversed 256 4 x ≡ turned_bytes x
bytes_turn x =
    let y = swapped 256 2 x in
    by_pairs 256 2 x (omega arith) ∙ by_pairs 65536 1 y (omega arith) ∙ one_digit (65536 * 65536) (swapped 65536 1 y) (swapped_below 65536 1 y (omega arith))

pub bits_turn : (x : ℕ) → reversed 2 32 x ≡ turned_bits x
bits_turn x =
    let y = swapped 2 16 x in
    let z = swapped 4 8 y in
    by_pairs 2 16 x (omega arith) ∙ by_pairs 4 8 y (omega arith) ∙ by_pairs 16 4 z (omega arith) ∙ bytes_turn (swapped 16 4 z)
