-- No spelling of a number is shorter than its shortest.
use Rattle.std.proofs.Common.{◌≡◌, ℕ, zero, suc, ◌+◌, ◌-◌, ◌*◌, ◌/◌, ◌^◌, ◌<◌, ◌≤◌, ℤ, pos, negsuc, ◌+ℤ◌, ◌*ℤ◌, List, [], ◌∷◌, length, ap, subst, inl, inr, arith, FitsSigned, w32, w64, ◌∙◌, lit≤}
use Rattle.std.proofs.lemmas.Nat.{pow-add}
use Rattle.std.proofs.Math.Nat.{pow-le-pow_right}
use Rattle.std.proofs.lemmas.Int.{ints}
use Rattle.std.proofs.lemmas.Bool.{lt-ltb, le-ltb, cases_lt}
use Rattle.zw_leb.specs.Leb.{IsUnsigned, IsSigned, unsigned_within, unsigned, signed_within, signed}

-- ---- unsigned numbers

-- a larger number has a spelling that is no shorter
unsigned_within-grows : (more a b : ℕ) → a ≤ b → length (unsigned_within more a) ≤ length (unsigned_within more b)
unsigned_within-grows zero a b h = omega arith
unsigned_within-grows (suc more) a b h =
    elim (cases_lt b 128) [
      | inl last ↦ rw (lt-ltb b 128 last, lt-ltb a 128 (omega arith)) (omega arith)
      | inr long ↦
          elim (cases_lt a 128) [
            | inl last_a ↦ rw (le-ltb b 128 long, lt-ltb a 128 last_a) (omega arith)
            | inr long_a ↦ rw (le-ltb b 128 long, le-ltb a 128 long_a) (omega (arith, unsigned_within-grows more (a / 128) (b / 128) (omega arith)))
          ]
    ]

pub unsigned_grows : (a b : ℕ) → a ≤ b → length (unsigned a) ≤ length (unsigned b)
unfolding unsigned
unsigned_grows a b h = unsigned_within-grows 9 a b h

unsigned_within-shortest : (more bits : ℕ) (bytes : List ℕ) (n : ℕ) → IsUnsigned bits bytes n → length (unsigned_within more n) ≤ length bytes
unsigned_within-shortest more bits [] n p = absurd p
unsigned_within-shortest zero bits (b ∷ rest) n p = omega arith
unsigned_within-shortest (suc more) bits (b ∷ []) n p =
    let last : n < 128 = omega arith in
    rw (lt-ltb n 128 last) (omega arith)
unsigned_within-shortest (suc more) bits (b ∷ c ∷ rest) n p =
    elim (cases_lt n 128) [
      | inl last ↦ rw (lt-ltb n 128 last) (omega arith)
      | inr long ↦
          let quotient : p.3.0 ≡ n / 128 = omega (arith, p.3.1) in
          let others : length (unsigned_within more (n / 128)) ≤ length (c ∷ rest) = unsigned_within-shortest more (bits - 7) (c ∷ rest) (n / 128) (subst (λ (high : ℕ). IsUnsigned (bits - 7) (c ∷ rest) high) quotient p.3.2) in
          rw (le-ltb n 128 long) (omega arith)
    ]

pub unsigned_shortest : (bits : ℕ) (bytes : List ℕ) (n : ℕ) → IsUnsigned bits bytes n → length (unsigned n) ≤ length bytes
unfolding unsigned
unsigned_shortest bits bytes n p = unsigned_within-shortest 9 bits bytes n p

-- a number has some byte
pub some_byte : (bits : ℕ) (bytes : List ℕ) (n : ℕ) → IsUnsigned bits bytes n → 1 ≤ length bytes
some_byte bits [] n p = absurd p
some_byte bits (b ∷ rest) n p = omega arith

-- ---- signed numbers

-- the high bits of a number, and the sign with them
abbrev high_bits : ℤ → ℤ
high_bits (pos n) = pos (n / 128)
high_bits (negsuc n) = negsuc (n / 128)

high_bits_are : (z high : ℤ) (b : ℕ) → 128 ≤ b → b < 256 → z +ℤ pos 128 ≡ pos 128 *ℤ high +ℤ pos b → high ≡ high_bits z
high_bits_are (pos n) high b low below parts = omega (arith, ints, parts)
high_bits_are (negsuc n) high b low below parts = omega (arith, ints, parts)

-- how far a number is from zero, or from -1
abbrev pub size : ℤ → ℕ
size (pos n) = n
size (negsuc n) = n

last_size : (bits b : ℕ) (z : ℤ) → IsSigned bits (b ∷ []) z → size z < 64
last_size bits b (pos n) (inl p) = omega (arith, ints, p.2)
last_size bits b (pos n) (inr p) = omega (arith, ints, p.3)
last_size bits b (negsuc n) (inl p) = omega (arith, ints, p.2)
last_size bits b (negsuc n) (inr p) = omega (arith, ints, p.3)

one_byte : (more : ℕ) (z : ℤ) → size z < 64 → length (signed_within more z) ≡ 1
one_byte zero (pos n) h = omega arith
one_byte zero (negsuc n) h = omega arith
one_byte (suc more) (pos n) h = rw (lt-ltb n 64 h) (omega arith)
one_byte (suc more) (negsuc n) h = rw (lt-ltb n 64 h) (omega arith)

byte_at_most : (more : ℕ) (z : ℤ) → length (signed_within (suc more) z) ≤ suc (length (signed_within more (high_bits z)))
byte_at_most more (pos n) =
    elim (cases_lt n 64) [
      | inl last ↦ rw (lt-ltb n 64 last) (omega arith)
      | inr long ↦ rw (le-ltb n 64 long) (omega arith)
    ]
byte_at_most more (negsuc n) =
    elim (cases_lt n 64) [
      | inl last ↦ rw (lt-ltb n 64 last) (omega arith)
      | inr long ↦ rw (le-ltb n 64 long) (omega arith)
    ]

length-signed_within_zero : (z : ℤ) → length (signed_within 0 z) ≡ 1
length-signed_within_zero (pos n) = omega arith
length-signed_within_zero (negsuc n) = omega arith

signed_within-shortest : (more bits : ℕ) (bytes : List ℕ) (z : ℤ) → IsSigned bits bytes z → length (signed_within more z) ≤ length bytes
signed_within-shortest more bits [] z p = absurd p
signed_within-shortest more bits (b ∷ []) z p = omega (arith, one_byte more z (last_size bits b z p))
signed_within-shortest zero bits (b ∷ c ∷ rest) z p = omega (arith, length-signed_within_zero z)
signed_within-shortest (suc more) bits (b ∷ c ∷ rest) z p =
    let same : p.3.0 ≡ high_bits z = high_bits_are z p.3.0 b p.0 p.1 p.3.1 in
    let others : length (signed_within more (high_bits z)) ≤ length (c ∷ rest) = signed_within-shortest more (bits - 7) (c ∷ rest) (high_bits z) (subst (λ (high : ℤ). IsSigned (bits - 7) (c ∷ rest) high) same p.3.2) in
    omega (arith, byte_at_most more z)

pub signed_shortest : (bits : ℕ) (bytes : List ℕ) (z : ℤ) → IsSigned bits bytes z → length (signed z) ≤ length bytes
unfolding signed
signed_shortest bits bytes z p = signed_within-shortest 9 bits bytes z p

-- a signed number is within its bits
size_by : (z : ℤ) (small large : ℕ) → large ≡ small * 128 → size (high_bits z) < small → size z < large
size_by (pos n) small large e h = omega arith
size_by (negsuc n) small large e h = omega arith

size-high_bits : (bits : ℕ) (z : ℤ) → 7 < bits → size (high_bits z) < 2 ^ (bits - 7 - 1) → size z < 2 ^ (bits - 1)
size-high_bits bits z wide h =
    let split : bits - 1 ≡ bits - 7 - 1 + 7 = omega arith in
    let power : 2 ^ (bits - 1) ≡ 2 ^ (bits - 7 - 1) * 128 = ap (λ (k : ℕ). 2 ^ k) split ∙ pow-add 2 (bits - 7 - 1) 7 in
    size_by z (2 ^ (bits - 7 - 1)) (2 ^ (bits - 1)) power h

last_within : (bits b : ℕ) (z : ℤ) → IsSigned bits (b ∷ []) z → size z < 2 ^ (bits - 1)
last_within bits b (pos n) (inl p) = omega (arith, ints, p.2)
last_within bits b (pos n) (inr p) = absurd (omega (arith, ints, p.3))
last_within bits b (negsuc n) (inl p) = absurd (omega (arith, ints, p.2))
last_within bits b (negsuc n) (inr p) = omega (arith, ints, p.3)

signed_size : (bits : ℕ) (bytes : List ℕ) (z : ℤ) → IsSigned bits bytes z → size z < 2 ^ (bits - 1)
signed_size bits [] z p = absurd p
signed_size bits (b ∷ []) z p = last_within bits b z p
signed_size bits (b ∷ c ∷ rest) z p =
    let same : p.3.0 ≡ high_bits z = high_bits_are z p.3.0 b p.0 p.1 p.3.1 in
    size-high_bits bits z p.2 (signed_size (bits - 7) (c ∷ rest) (high_bits z) (subst (λ (high : ℤ). IsSigned (bits - 7) (c ∷ rest) high) same p.3.2))

fits_from_size : (z : ℤ) → size z < 2 ^ 31 → FitsSigned w32 z
fits_from_size (pos n) h = record { sfits = omega arith }
fits_from_size (negsuc n) h = record { sfits = omega arith }

pub within_32_bits : (bytes : List ℕ) (z : ℤ) → IsSigned 32 bytes z → FitsSigned w32 z
within_32_bits bytes z p = fits_from_size z (signed_size 32 bytes z p)

fits_64_from_size : (z : ℤ) → size z < 2 ^ 63 → FitsSigned w64 z
fits_64_from_size (pos n) h = record { sfits = omega arith }
fits_64_from_size (negsuc n) h = record { sfits = omega arith }

pub within_64_bits : (bytes : List ℕ) (z : ℤ) → IsSigned 64 bytes z → FitsSigned w64 z
within_64_bits bytes z p = fits_64_from_size z (signed_size 64 bytes z p)

-- what seven bits and the sign are left of in a number of 64 bits
pub high_size : (bits : ℕ) (bytes : List ℕ) (z : ℤ) → bits ≤ 57 → IsSigned bits bytes z → size z < 2 ^ 56
high_size bits bytes z few p =
    let few_less : bits - 1 ≤ 56 = omega arith in
    omega (arith, signed_size bits bytes z p, pow-le-pow_right {n = 2} (lit≤ tt) few_less)
