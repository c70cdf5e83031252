-- The shortest spelling of a number is one of its spellings, and no spelling begins another.
use Rattle.std.proofs.Common.{◌≡◌, ℕ, zero, suc, ◌+◌, ◌-◌, ◌*◌, ◌/◌, ◌%◌, ◌^◌, ◌<◌, ◌≤◌, ℤ, pos, negsuc, ◌+ℤ◌, ◌*ℤ◌, List, [], ◌∷◌, ◌++◌, length, refl, sym, ap, subst, ◌∙◌, inl, inr, arith, FitsSigned, w32, w64, lit<, lit≤}
use Rattle.std.proofs.Math.Nat.{pow-le-pow_right}
use Rattle.std.proofs.lemmas.Nat.{shr_below, pow-add}
use Rattle.std.proofs.lemmas.Int.{ints}
use Rattle.std.proofs.lemmas.Bool.{lt-ltb, le-ltb, cases_lt}
use Rattle.zw_leb.specs.Leb.{IsUnsigned, IsSigned, unsigned_within, unsigned, signed_within, signed}

-- ---- powers

pub power_le : (i j : ℕ) → i ≤ j → 2 ^ i ≤ 2 ^ j
power_le i j h = pow-le-pow_right {n = 2} (omega arith) h

-- how many bits a number needs
bits_above : (k bits n : ℕ) → 2 ^ k ≤ n → n < 2 ^ bits → k < bits
bits_above k bits n low high =
    elim (cases_lt k bits) [
      | inl lt ↦ lt
      | inr le ↦ absurd (omega (arith, power_le bits k le))
    ]

quotient_fits : (bits n : ℕ) → 7 < bits → n < 2 ^ bits → n / 128 < 2 ^ (bits - 7)
quotient_fits bits n wide h =
    let split : bits ≡ bits - 7 + 7 = omega arith in
    shr_below n (bits - 7) 7 (subst (λ (k : ℕ). n < 2 ^ k) split h)

-- ---- the shortest spelling of an unsigned number

pub unsigned_front : (bits b high n : ℕ) (rest : List ℕ) → 128 ≤ b → b < 256 → 7 < bits → n + 128 ≡ 128 * high + b → IsUnsigned (bits - 7) rest high → IsUnsigned bits (b ∷ rest) n
unsigned_front bits b high n [] low below wide parts others = absurd others
unsigned_front bits b high n (c ∷ rest) low below wide parts others = (low, below, wide, (high, parts, others))

unsigned_within-spells : (more bits n : ℕ) → bits ≤ 7 * suc more → n < 2 ^ bits → IsUnsigned bits (unsigned_within more n) n
unsigned_within-spells zero bits n few h = (omega (arith, power_le bits 7 (omega arith)), h, refl)
unsigned_within-spells (suc more) bits n few h =
    elim (cases_lt n 128) [
      | inl last ↦ rw (lt-ltb n 128 last) (last, h, refl)
      | inr long ↦
          let wide : 7 < bits = bits_above 7 bits n long h in
          rw (le-ltb n 128 long) (unsigned_front bits (n % 128 + 128) (n / 128) n (unsigned_within more (n / 128)) (omega arith) (omega arith) wide (omega arith) (unsigned_within-spells more (bits - 7) (n / 128) (omega arith) (quotient_fits bits n wide h)))
    ]

pub unsigned_spells : (n : ℕ) → n < 2 ^ 32 → IsUnsigned 32 (unsigned n) n
unfolding unsigned
unsigned_spells n h = unsigned_within-spells 9 32 n (omega arith) h

-- ten bytes hold each number of 64 bits
length-unsigned_within : (more n : ℕ) → length (unsigned_within more n) ≤ suc more
length-unsigned_within zero n = omega arith
length-unsigned_within (suc more) n =
    elim (cases_lt n 128) [
      | inl last ↦ rw (lt-ltb n 128 last) (omega arith)
      | inr long ↦ rw (le-ltb n 128 long) (omega (arith, length-unsigned_within more (n / 128)))
    ]

pub length-unsigned : (n : ℕ) → length (unsigned n) ≤ 10
unfolding unsigned
length-unsigned n = length-unsigned_within 9 n

-- a spelling has some byte
some-unsigned_within : (more n : ℕ) → 1 ≤ length (unsigned_within more n)
some-unsigned_within zero n = omega arith
some-unsigned_within (suc more) n =
    elim (cases_lt n 128) [
      | inl last ↦ rw (lt-ltb n 128 last) (omega arith)
      | inr long ↦ rw (le-ltb n 128 long) (omega arith)
    ]

pub some-unsigned : (n : ℕ) → 1 ≤ length (unsigned n)
unfolding unsigned
some-unsigned n = some-unsigned_within 9 n

-- the same of signed numbers
some-signed_within : (more : ℕ) (z : ℤ) → 1 ≤ length (signed_within more z)
some-signed_within zero (pos n) = omega arith
some-signed_within zero (negsuc n) = omega arith
some-signed_within (suc more) (pos n) =
    elim (cases_lt n 64) [
      | inl last ↦ rw (lt-ltb n 64 last) (omega arith)
      | inr long ↦ rw (le-ltb n 64 long) (omega arith)
    ]
some-signed_within (suc more) (negsuc n) =
    elim (cases_lt n 64) [
      | inl last ↦ rw (lt-ltb n 64 last) (omega arith)
      | inr long ↦ rw (le-ltb n 64 long) (omega arith)
    ]

pub some-signed : (z : ℤ) → 1 ≤ length (signed z)
unfolding signed
some-signed z = some-signed_within 9 z

length-signed_within : (more : ℕ) (z : ℤ) → length (signed_within more z) ≤ suc more
length-signed_within zero (pos n) = omega arith
length-signed_within zero (negsuc n) = omega arith
length-signed_within (suc more) (pos n) =
    elim (cases_lt n 64) [
      | inl last ↦ rw (lt-ltb n 64 last) (omega arith)
      | inr long ↦ rw (le-ltb n 64 long) (omega (arith, length-signed_within more (pos (n / 128))))
    ]
length-signed_within (suc more) (negsuc n) =
    elim (cases_lt n 64) [
      | inl last ↦ rw (lt-ltb n 64 last) (omega arith)
      | inr long ↦ rw (le-ltb n 64 long) (omega (arith, length-signed_within more (negsuc (n / 128))))
    ]

pub length-signed : (z : ℤ) → length (signed z) ≤ 10
unfolding signed
length-signed z = length-signed_within 9 z

-- ---- the shortest spelling of a signed number

pub signed_front : (bits b : ℕ) (high z : ℤ) (rest : List ℕ) → 128 ≤ b → b < 256 → 7 < bits → z +ℤ pos 128 ≡ pos 128 *ℤ high +ℤ pos b → IsSigned (bits - 7) rest high → IsSigned bits (b ∷ rest) z
signed_front bits b high z [] low below wide parts others = absurd others
signed_front bits b high z (c ∷ rest) low below wide parts others = (low, below, wide, (high, parts, others))

half_fits : (bits n : ℕ) → 7 < bits → n < 2 ^ (bits - 1) → n / 128 < 2 ^ (bits - 7 - 1)
half_fits bits n wide h =
    let split : bits - 1 ≡ bits - 7 - 1 + 7 = omega arith in
    shr_below n (bits - 7 - 1) 7 (subst (λ (k : ℕ). n < 2 ^ k) split h)

below_half : (bits n : ℕ) → bits ≤ 7 → n < 2 ^ (bits - 1) → n < 64
below_half bits n few h = omega (arith, power_le (bits - 1) 6 (omega arith))

last_pos : (bits n : ℕ) → n < 64 → n < 2 ^ (bits - 1) → IsSigned bits (n ∷ []) (pos n)
last_pos bits n last h = inl (last, h, refl)

last_negsuc : (bits n : ℕ) → n < 64 → n < 2 ^ (bits - 1) → IsSigned bits ((127 - n) ∷ []) (negsuc n)
last_negsuc bits n last h = inr (omega arith, omega arith, omega arith, omega (arith, ints))

signed_within-spells_pos : (more bits n : ℕ) → bits ≤ 7 * suc more → n < 2 ^ (bits - 1) → IsSigned bits (signed_within more (pos n)) (pos n)
signed_within-spells_pos zero bits n few h = last_pos bits n (below_half bits n (omega arith) h) h
signed_within-spells_pos (suc more) bits n few h =
    elim (cases_lt n 64) [
      | inl last ↦ rw (lt-ltb n 64 last) (last_pos bits n last h)
      | inr long ↦
          let above : 6 < bits - 1 = bits_above 6 (bits - 1) n long h in
          let wide : 7 < bits = omega arith in
          let parts : n + 128 ≡ 128 * (n / 128) + (n % 128 + 128) = omega arith in
          rw (le-ltb n 64 long) (signed_front bits (n % 128 + 128) (pos (n / 128)) (pos n) (signed_within more (pos (n / 128))) (omega arith) (omega arith) wide (ap pos parts) (signed_within-spells_pos more (bits - 7) (n / 128) (omega arith) (half_fits bits n wide h)))
    ]

signed_within-spells_negsuc : (more bits n : ℕ) → bits ≤ 7 * suc more → n < 2 ^ (bits - 1) → IsSigned bits (signed_within more (negsuc n)) (negsuc n)
signed_within-spells_negsuc zero bits n few h = last_negsuc bits n (below_half bits n (omega arith) h) h
signed_within-spells_negsuc (suc more) bits n few h =
    elim (cases_lt n 64) [
      | inl last ↦ rw (lt-ltb n 64 last) (last_negsuc bits n last h)
      | inr long ↦
          let above : 6 < bits - 1 = bits_above 6 (bits - 1) n long h in
          let wide : 7 < bits = omega arith in
          let parts : negsuc n +ℤ pos 128 ≡ pos 128 *ℤ negsuc (n / 128) +ℤ pos (255 - n % 128) = omega (arith, ints) in
          rw (le-ltb n 64 long) (signed_front bits (255 - n % 128) (negsuc (n / 128)) (negsuc n) (signed_within more (negsuc (n / 128))) (omega arith) (omega arith) wide parts (signed_within-spells_negsuc more (bits - 7) (n / 128) (omega arith) (half_fits bits n wide h)))
    ]

pub signed_spells : (z : ℤ) → FitsSigned w32 z → IsSigned 32 (signed z) z
unfolding signed
signed_spells (pos n) fits = signed_within-spells_pos 9 32 n (omega arith) (omega (arith, ints))
signed_spells (negsuc n) fits = signed_within-spells_negsuc 9 32 n (omega arith) (omega (arith, ints))

pub signed_spells_64 : (z : ℤ) → FitsSigned w64 z → IsSigned 64 (signed z) z
unfolding signed
signed_spells_64 (pos n) fits = signed_within-spells_pos 9 64 n (omega arith) (omega (arith, ints))
signed_spells_64 (negsuc n) fits = signed_within-spells_negsuc 9 64 n (omega arith) (omega (arith, ints))

-- ---- no spelling begins another

heads_same : (b c : ℕ) (x y : List ℕ) → b ∷ x ≡ c ∷ y → b ≡ c
heads_same b c x y e = cc

tails_same : (b c : ℕ) (x y : List ℕ) → b ∷ x ≡ c ∷ y → x ≡ y
tails_same b c x y e = cc

pub one_unsigned : (bits : ℕ) (a b x y : List ℕ) (m n : ℕ) → IsUnsigned bits a m → IsUnsigned bits b n → a ++ x ≡ b ++ y → (a ≡ b) × (m ≡ n)
one_unsigned bits [] b x y m n p q e = absurd p
one_unsigned bits (a ∷ others_a) [] x y m n p q e = absurd q
one_unsigned bits (a ∷ []) (b ∷ []) x y m n p q e =
    let same = heads_same a b x y e in
    (ap (λ (head : ℕ). head ∷ []) same, omega arith)
one_unsigned bits (a ∷ []) (b ∷ b' ∷ others_b) x y m n p q e =
    let same = heads_same a b x ((b' ∷ others_b) ++ y) e in
    absurd (omega arith)
one_unsigned bits (a ∷ a' ∷ others_a) (b ∷ []) x y m n p q e =
    let same = heads_same a b ((a' ∷ others_a) ++ x) y e in
    absurd (omega arith)
one_unsigned bits (a ∷ a' ∷ others_a) (b ∷ b' ∷ others_b) x y m n p q e =
    let same = heads_same a b ((a' ∷ others_a) ++ x) ((b' ∷ others_b) ++ y) e in
    let others = one_unsigned (bits - 7) (a' ∷ others_a) (b' ∷ others_b) x y p.3.0 q.3.0 p.3.2 q.3.2 (tails_same a b _ _ e) in
    (ap (λ (head : ℕ). head ∷ a' ∷ others_a) same ∙ ap (λ (rest : List ℕ). b ∷ rest) others.0, omega (arith, p.3.1, q.3.1, others.1))

-- the number that one byte spells
last_signed : (bits b : ℕ) (y z : ℤ) → IsSigned bits (b ∷ []) y → IsSigned bits (b ∷ []) z → y ≡ z
last_signed bits b y z (inl p) (inl q) = p.2 ∙ sym q.2
last_signed bits b y z (inl p) (inr q) = absurd (omega arith)
last_signed bits b y z (inr p) (inl q) = absurd (omega arith)
last_signed bits b y z (inr p) (inr q) = omega (arith, ints, p.3, q.3)

last_below : (bits b : ℕ) (z : ℤ) → IsSigned bits (b ∷ []) z → b < 128
last_below bits b z (inl p) = omega arith
last_below bits b z (inr p) = p.1

pub one_signed : (bits : ℕ) (a b x y : List ℕ) (m n : ℤ) → IsSigned bits a m → IsSigned bits b n → a ++ x ≡ b ++ y → (a ≡ b) × (m ≡ n)
one_signed bits [] b x y m n p q e = absurd p
one_signed bits (a ∷ others_a) [] x y m n p q e = absurd q
one_signed bits (a ∷ []) (b ∷ []) x y m n p q e =
    let same = heads_same a b x y e in
    (ap (λ (head : ℕ). head ∷ []) same, last_signed bits a m n p (subst (λ (head : ℕ). IsSigned bits (head ∷ []) n) (sym same) q))
one_signed bits (a ∷ []) (b ∷ b' ∷ others_b) x y m n p q e =
    let same = heads_same a b x ((b' ∷ others_b) ++ y) e in
    absurd (omega (arith, last_below bits a m p))
one_signed bits (a ∷ a' ∷ others_a) (b ∷ []) x y m n p q e =
    let same = heads_same a b ((a' ∷ others_a) ++ x) y e in
    absurd (omega (arith, last_below bits b n q))
one_signed bits (a ∷ a' ∷ others_a) (b ∷ b' ∷ others_b) x y m n p q e =
    let same = heads_same a b ((a' ∷ others_a) ++ x) ((b' ∷ others_b) ++ y) e in
    let others = one_signed (bits - 7) (a' ∷ others_a) (b' ∷ others_b) x y p.3.0 q.3.0 p.3.2 q.3.2 (tails_same a b _ _ e) in
    (ap (λ (head : ℕ). head ∷ a' ∷ others_a) same ∙ ap (λ (rest : List ℕ). b ∷ rest) others.0, omega (arith, ints, p.3.1, q.3.1, others.1))

-- ---- how long a spelling is

-- seven bits a byte
unsigned_length : (bits : ℕ) (bytes : List ℕ) (n : ℕ) → 0 < bits → IsUnsigned bits bytes n → 7 * length bytes < bits + 7
unsigned_length bits [] n some p = absurd p
unsigned_length bits (b ∷ []) n some p = omega arith
unsigned_length bits (b ∷ c ∷ rest) n some p = omega (arith, unsigned_length (bits - 7) (c ∷ rest) p.3.0 (omega arith) p.3.2)

pub five_bytes : (bytes : List ℕ) (n : ℕ) → IsUnsigned 32 bytes n → length bytes ≤ 5
five_bytes bytes n p = omega (arith, unsigned_length 32 bytes n (lit< tt) p)

signed_length : (bits : ℕ) (bytes : List ℕ) (z : ℤ) → 0 < bits → IsSigned bits bytes z → 7 * length bytes < bits + 7
signed_length bits [] z some p = absurd p
signed_length bits (b ∷ []) z some p = omega arith
signed_length bits (b ∷ c ∷ rest) z some p = omega (arith, signed_length (bits - 7) (c ∷ rest) p.3.0 (omega arith) p.3.2)

pub five_bytes_signed : (bytes : List ℕ) (z : ℤ) → IsSigned 32 bytes z → length bytes ≤ 5
five_bytes_signed bytes z p = omega (arith, signed_length 32 bytes z (lit< tt) p)

pub ten_bytes_signed : (bytes : List ℕ) (z : ℤ) → IsSigned 64 bytes z → length bytes ≤ 10
ten_bytes_signed bytes z p = omega (arith, signed_length 64 bytes z (lit< tt) p)

pub unsigned_below : (bits : ℕ) (bytes : List ℕ) (n : ℕ) → IsUnsigned bits bytes n → n < 2 ^ bits
unsigned_below bits [] n p = absurd p
unsigned_below bits (b ∷ []) n p = omega arith
unsigned_below bits (b ∷ c ∷ rest) n p =
    let high = unsigned_below (bits - 7) (c ∷ rest) p.3.0 p.3.2 in
    let split : bits ≡ bits - 7 + 7 = omega arith in
    let power : 2 ^ bits ≡ 2 ^ (bits - 7) * 128 = ap (λ (k : ℕ). 2 ^ k) split ∙ pow-add 2 (bits - 7) 7 in
    omega (arith, high, power, p.3.1)

pub below_32_bits : (bytes : List ℕ) (n : ℕ) → IsUnsigned 32 bytes n → n < 2 ^ 32
below_32_bits bytes n p = unsigned_below 32 bytes n p

-- 42 in five bytes
pub long_forty_two : IsUnsigned 32 (0xAA ∷ 0x80 ∷ 0x80 ∷ 0x80 ∷ 0x00 ∷ []) 42
long_forty_two = (lit≤ tt, lit< tt, lit< tt, (0, refl, (lit≤ tt, lit< tt, lit< tt, (0, refl, (lit≤ tt, lit< tt, lit< tt, (0, refl, (lit≤ tt, lit< tt, lit< tt, (0, refl, (lit< tt, lit< tt, refl)))))))))

pub long_minus_two : IsSigned 32 (0xFE ∷ 0xFF ∷ 0x7F ∷ []) (negsuc 1)
long_minus_two = (lit≤ tt, lit< tt, lit< tt, (negsuc 0, refl, (lit≤ tt, lit< tt, lit< tt, (negsuc 0, refl, inr (lit≤ tt, lit< tt, lit≤ tt, refl)))))
