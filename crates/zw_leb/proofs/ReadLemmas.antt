-- What is read at the front of bytes.
use Rattle.std.proofs.Common.{◌≡◌, ℕ, ◌+◌, ◌-◌, ◌*◌, ◌%◌, ◌^◌, ◌<◌, ◌≤◌, ℤ, pos, negsuc, ◌+ℤ◌, ◌-ℤ◌, ◌*ℤ◌, List, [], ◌∷◌, ◌++◌, length, take, drop, refl, sym, ap, subst, ◌∙◌, inl, inr, arith, FitsSigned, SFits, to_z, of_z, w32, w64, add-one}
use Rattle.std.proofs.lemmas.Int.{ints, to_z-of_z}
use Rattle.std.proofs.lemmas.List.{take-append-drop, length-take-le}
use Rattle.zw_leb.specs.Leb.{IsUnsigned, IsSigned, unsigned, signed}
use Rattle.zw_leb.specs.Reading.{BeginsUnsigned, BeginsSigned, NoUnsigned, NoSigned}
use Rattle.zw_leb.proofs.ShortestNumbers.{size, high_size, within_32_bits}
use Rattle.zw_leb.proofs.LebSpellings.{power_le, unsigned_front, signed_front, unsigned_below, one_unsigned, one_signed, unsigned_spells, signed_spells, signed_spells_64}

-- ---- what is spelled shortest is read back

length-front : (a : List ℕ) (bytes : List ℕ) (len : ℕ) → len ≤ length bytes → take len bytes ≡ a → len ≡ length a
length-front a bytes len within e = sym (length-take-le len bytes within) ∙ ap length e

pub reads_back : (n m len : ℕ) (rest : List ℕ) → n < 2 ^ 32 → BeginsUnsigned 32 (unsigned n ++ rest) m len → (m ≡ n) × (len ≡ length (unsigned n))
reads_back n m len rest h p =
    let one = one_unsigned 32 (take len (unsigned n ++ rest)) (unsigned n) (drop len (unsigned n ++ rest)) rest m n p.spelled (unsigned_spells n h) (take-append-drop _ _) in
    (one.1, length-front (unsigned n) (unsigned n ++ rest) len p.within one.0)

pub reads_back_32 : (z y : ℤ) (len : ℕ) (rest : List ℕ) → FitsSigned w32 z → BeginsSigned 32 (signed z ++ rest) y len → (y ≡ z) × (len ≡ length (signed z))
reads_back_32 z y len rest h p =
    let one = one_signed 32 (take len (signed z ++ rest)) (signed z) (drop len (signed z ++ rest)) rest y z p.spelled (signed_spells z h) (take-append-drop _ _) in
    (one.1, length-front (signed z) (signed z ++ rest) len p.within one.0)

pub reads_back_64 : (z y : ℤ) (len : ℕ) (rest : List ℕ) → FitsSigned w64 z → BeginsSigned 64 (signed z ++ rest) y len → (y ≡ z) × (len ≡ length (signed z))
reads_back_64 z y len rest h p =
    let one = one_signed 64 (take len (signed z ++ rest)) (signed z) (drop len (signed z ++ rest)) rest y z p.spelled (signed_spells_64 z h) (take-append-drop _ _) in
    (one.1, length-front (signed z) (signed z ++ rest) len p.within one.0)

-- ---- a front that spells an unsigned number begins with its first byte

unsigned_head : (bits b : ℕ) (s more front rest : List ℕ) (n : ℕ) → s ≡ b ∷ more → IsUnsigned bits front n → s ≡ front ++ rest → (others : List ℕ) × (front ≡ b ∷ others) × (more ≡ others ++ rest)
unsigned_head bits b s more [] rest n e p q = absurd p
unsigned_head bits b s more (c ∷ others) rest n e p q =
    let same : b ∷ more ≡ c ∷ (others ++ rest) = sym e ∙ q in
    (others, cc, cc)

pub no_unsigned_empty : (bits : ℕ) (s : List ℕ) → length s ≡ 0 → NoUnsigned bits s
no_unsigned_empty bits [] e [] rest n p q = p
no_unsigned_empty bits [] e (b ∷ front) rest n p q = absurd cc
no_unsigned_empty bits (b ∷ s) e front rest n p q = absurd (omega arith)

pub unsigned_one : (bits b : ℕ) (s more : List ℕ) → s ≡ b ∷ more → b < 128 → b < 2 ^ bits → BeginsUnsigned bits s b 1
unsigned_one bits b s more e last fits = rw e (record { spelled = (last, fits, refl); within = omega arith })

-- a byte that has bits past the number's own
past_spells : (bits b : ℕ) (others : List ℕ) (n : ℕ) → b < 128 → 2 ^ bits ≤ b → IsUnsigned bits (b ∷ others) n → ⊥
past_spells bits b [] n last past p = omega arith
past_spells bits b (c ∷ others) n last past p = omega arith

pub no_unsigned_past : (bits b : ℕ) (s more : List ℕ) → s ≡ b ∷ more → b < 128 → 2 ^ bits ≤ b → NoUnsigned bits s
no_unsigned_past bits b s more e last past front rest n p q =
    let head = unsigned_head bits b s more front rest n e p q in
    past_spells bits b head.0 n last past (subst (λ (bytes : List ℕ). IsUnsigned bits bytes n) head.1 p)

-- a byte that is not the last one, where no more may come
long_spells : (bits b : ℕ) (others : List ℕ) (n : ℕ) → 128 ≤ b → bits ≤ 7 → IsUnsigned bits (b ∷ others) n → ⊥
long_spells bits b [] n long few p = omega arith
long_spells bits b (c ∷ others) n long few p = omega arith

pub no_unsigned_room : (bits b : ℕ) (s more : List ℕ) → s ≡ b ∷ more → 128 ≤ b → bits ≤ 7 → NoUnsigned bits s
no_unsigned_room bits b s more e long few front rest n p q =
    let head = unsigned_head bits b s more front rest n e p q in
    long_spells bits b head.0 n long few (subst (λ (bytes : List ℕ). IsUnsigned bits bytes n) head.1 p)

others_spell : (bits b : ℕ) (others : List ℕ) (n : ℕ) → 128 ≤ b → IsUnsigned bits (b ∷ others) n → (high : ℕ) × IsUnsigned (bits - 7) others high
others_spell bits b [] n long p = absurd (omega arith)
others_spell bits b (c ∷ others) n long p = (p.3.0, p.3.2)

pub no_unsigned_further : (bits b : ℕ) (s more : List ℕ) → s ≡ b ∷ more → 128 ≤ b → NoUnsigned (bits - 7) more → NoUnsigned bits s
no_unsigned_further bits b s more e long none front rest n p q =
    let head = unsigned_head bits b s more front rest n e p q in
    let others = others_spell bits b head.0 n long (subst (λ (bytes : List ℕ). IsUnsigned bits bytes n) head.1 p) in
    none head.0 rest others.0 others.1 head.2

-- one byte more in front
pub unsigned_further : (bits b high len : ℕ) (s more : List ℕ) → s ≡ b ∷ more → 128 ≤ b → b < 256 → 7 < bits → BeginsUnsigned (bits - 7) more high len → BeginsUnsigned bits s (high * 128 + (b - 128)) (len + 1)
unsigned_further bits b high len s more e low below wide p =
    rw (e, add-one) (record { spelled = unsigned_front bits b high (high * 128 + (b - 128)) (take len more) low below wide (omega arith) p.spelled; within = omega (arith, p.within) })

-- ---- the same of signed numbers

signed_head : (bits b : ℕ) (s more front rest : List ℕ) (z : ℤ) → s ≡ b ∷ more → IsSigned bits front z → s ≡ front ++ rest → (others : List ℕ) × (front ≡ b ∷ others) × (more ≡ others ++ rest)
signed_head bits b s more [] rest z e p q = absurd p
signed_head bits b s more (c ∷ others) rest z e p q =
    let same : b ∷ more ≡ c ∷ (others ++ rest) = sym e ∙ q in
    (others, cc, cc)

pub no_signed_empty : (bits : ℕ) (s : List ℕ) → length s ≡ 0 → NoSigned bits s
no_signed_empty bits [] e [] rest z p q = p
no_signed_empty bits [] e (b ∷ front) rest z p q = absurd cc
no_signed_empty bits (b ∷ s) e front rest z p q = absurd (omega arith)

pub signed_one : (bits b : ℕ) (z : ℤ) (s more : List ℕ) → s ≡ b ∷ more → IsSigned bits (b ∷ []) z → BeginsSigned bits s z 1
signed_one bits b z s more e p = rw e (record { spelled = p; within = omega arith })

-- a byte below 128 is the last
last_alone : (bits b : ℕ) (others : List ℕ) (z : ℤ) → b < 128 → IsSigned bits (b ∷ others) z → IsSigned bits (b ∷ []) z
last_alone bits b [] z last p = p
last_alone bits b (c ∷ others) z last p = absurd (omega arith)

pub no_signed_last : (bits b : ℕ) (s more : List ℕ) → s ≡ b ∷ more → b < 128 → ((z : ℤ) → IsSigned bits (b ∷ []) z → ⊥) → NoSigned bits s
no_signed_last bits b s more e last none front rest z p q =
    let head = signed_head bits b s more front rest z e p q in
    none z (last_alone bits b head.0 z last (subst (λ (bytes : List ℕ). IsSigned bits bytes z) head.1 p))

signed_long : (bits b : ℕ) (others : List ℕ) (z : ℤ) → 128 ≤ b → IsSigned bits (b ∷ others) z → (7 < bits) × ((high : ℤ) × IsSigned (bits - 7) others high)
signed_long bits b [] z long (inl p) = absurd (omega arith)
signed_long bits b [] z long (inr p) = absurd (omega arith)
signed_long bits b (c ∷ others) z long p = (p.2, (p.3.0, p.3.2))

pub no_signed_room : (bits b : ℕ) (s more : List ℕ) → s ≡ b ∷ more → 128 ≤ b → bits ≤ 7 → NoSigned bits s
no_signed_room bits b s more e long few front rest z p q =
    let head = signed_head bits b s more front rest z e p q in
    let others = signed_long bits b head.0 z long (subst (λ (bytes : List ℕ). IsSigned bits bytes z) head.1 p) in
    omega (arith, others.0)

pub no_signed_further : (bits b : ℕ) (s more : List ℕ) → s ≡ b ∷ more → 128 ≤ b → NoSigned (bits - 7) more → NoSigned bits s
no_signed_further bits b s more e long none front rest z p q =
    let head = signed_head bits b s more front rest z e p q in
    let others = signed_long bits b head.0 z long (subst (λ (bytes : List ℕ). IsSigned bits bytes z) head.1 p) in
    none head.0 rest others.1.0 others.1.1 head.2

pub signed_further : (bits b : ℕ) (high z : ℤ) (len : ℕ) (s more : List ℕ) → s ≡ b ∷ more → 128 ≤ b → b < 256 → 7 < bits → z +ℤ pos 128 ≡ pos 128 *ℤ high +ℤ pos b → BeginsSigned (bits - 7) more high len → BeginsSigned bits s z (len + 1)
signed_further bits b high z len s more e low below wide parts p =
    rw (e, add-one) (record { spelled = signed_front bits b high z (take len more) low below wide parts p.spelled; within = omega (arith, p.within) })

-- ---- powers of two in a byte

pub small_power : (k : ℕ) → k < 7 → (1 * 2 ^ k) % 256 ≡ 2 ^ k
small_power k h = omega (arith, power_le k 6 (omega arith))

pub large_power : (k : ℕ) → 7 ≤ k → 128 ≤ 2 ^ k
large_power k h = omega (arith, power_le 7 k h)

-- the high part of a number of 32 bits
pub high_below : (bits high len : ℕ) (more : List ℕ) → bits ≤ 32 → BeginsUnsigned (bits - 7) more high len → high * 128 + 127 < 2 ^ 32
high_below bits high len more few p = omega (arith, unsigned_below (bits - 7) (take len more) high p.spelled, power_le (bits - 7) 25 (omega arith))

-- ---- a last byte with a sign

-- the numbers from 0 up that it has room for
pub small_half : (bits half : ℕ) → 0 < bits → bits < 7 → half ≡ (1 * 2 ^ (bits - 1)) % 256 → (half ≤ 64) × (half ≤ 2 ^ (bits - 1))
small_half bits half some few e =
    let power = small_power (bits - 1) (omega arith) in
    (omega (arith, power, power_le (bits - 1) 6 (omega arith)), omega (arith, power))

pub large_half : (bits half : ℕ) → 7 ≤ bits → half ≡ 64 → (half ≤ 64) × (half ≤ 2 ^ (bits - 1))
large_half bits half many e = (omega arith, omega (arith, power_le 6 (bits - 1) (omega arith)))

pub last_from_zero : (bits b half : ℕ) (z : ℤ) → half ≤ 64 → half ≤ 2 ^ (bits - 1) → b < half → z ≡ pos b → IsSigned bits (b ∷ []) (to_z w64 (of_z w64 z))
last_from_zero bits b half z low room below e =
    let fits : SFits w64 (pos b) = record { sfits = omega arith } in
    rw (e, to_z-of_z w64 (pos b) fits) (inl (omega arith, omega arith, refl))

pub last_below_zero : (bits b half : ℕ) (z : ℤ) → half ≤ 64 → half ≤ 2 ^ (bits - 1) → b < 128 → 128 ≤ b + half → z ≡ pos b → IsSigned bits (b ∷ []) (to_z w64 (of_z w64 (to_z w64 (of_z w64 z) -ℤ pos 128)))
last_below_zero bits b half z low room last above e =
    let fits : SFits w64 (pos b) = record { sfits = omega arith } in
    let less : pos b -ℤ pos 128 ≡ negsuc (127 - b) = omega (arith, ints) in
    let fits-less : SFits w64 (negsuc (127 - b)) = record { sfits = omega arith } in
    rw (e, to_z-of_z w64 (pos b) fits, less, to_z-of_z w64 (negsuc (127 - b)) fits-less) (inr (omega arith, omega arith, omega arith, omega (arith, ints)))

-- ---- a number from its high bits

times_128 : (z : ℤ) → size z < 2 ^ 56 → SFits w64 (z *ℤ pos 128)
times_128 (pos n) h = record { sfits = omega arith }
times_128 (negsuc n) h =
    let e : negsuc n *ℤ pos 128 ≡ negsuc (n * 128 + 127) = omega (arith, ints) in
    rw e (record { sfits = omega arith })

with_low_bits : (z : ℤ) (low : ℕ) → size z < 2 ^ 56 → low < 128 → SFits w64 (z *ℤ pos 128 +ℤ pos low)
with_low_bits (pos n) low h few = record { sfits = omega arith }
with_low_bits (negsuc n) low h few =
    let e : negsuc n *ℤ pos 128 +ℤ pos low ≡ negsuc (n * 128 + (127 - low)) = omega (arith, ints) in
    rw e (record { sfits = omega arith })

fits_64 : (z : ℤ) → size z < 2 ^ 56 → SFits w64 z
fits_64 (pos n) h = record { sfits = omega arith }
fits_64 (negsuc n) h = record { sfits = omega arith }

-- what the first byte leaves is a part of a number of 64 bits
pub high_times : (z : ℤ) (bits : ℕ) (more : List ℕ) (len : ℕ) → bits ≤ 64 → 7 < bits → BeginsSigned (bits - 7) more z len → SFits w64 (to_z w64 (of_z w64 z) *ℤ pos 128)
high_times z bits more len few wide p =
    let small = high_size (bits - 7) (take len more) z (omega arith) p.spelled in
    rw (to_z-of_z w64 z (fits_64 z small)) (times_128 z small)

pub high_plus : (z low : ℤ) (bits b : ℕ) (more : List ℕ) (len : ℕ) → bits ≤ 64 → 7 < bits → 128 ≤ b → b < 256 → BeginsSigned (bits - 7) more z len → low ≡ pos (b - 128)
    → to_z w64 (of_z w64 (to_z w64 (of_z w64 (to_z w64 (of_z w64 z) *ℤ pos 128)) +ℤ to_z w64 (of_z w64 low))) +ℤ pos 128 ≡ pos 128 *ℤ z +ℤ pos b
high_plus z low bits b more len few wide long below p e =
    let small = high_size (bits - 7) (take len more) z (omega arith) p.spelled in
    let low_fits : SFits w64 (pos (b - 128)) = record { sfits = omega arith } in
    rw (e, to_z-of_z w64 z (fits_64 z small), to_z-of_z w64 (z *ℤ pos 128) (times_128 z small), to_z-of_z w64 (pos (b - 128)) low_fits, to_z-of_z w64 (z *ℤ pos 128 +ℤ pos (b - 128)) (with_low_bits z (b - 128) small (omega arith)))
    (omega (arith, ints))

-- a number of 32 bits is the same in 64
same_in_64 : (z : ℤ) → SFits w32 z → to_z w64 (of_z w64 z) ≡ z
same_in_64 z fits =
    let wide : SFits w64 z = record { sfits = omega arith } in
    to_z-of_z w64 z wide

pub narrow : (z : ℤ) (bytes : List ℕ) (len : ℕ) → BeginsSigned 32 bytes z len → SFits w32 (to_z w64 (of_z w64 z))
narrow z bytes len p =
    let fits = within_32_bits (take len bytes) z p.spelled in
    rw (same_in_64 z fits) fits

pub narrowed : (z : ℤ) (bytes : List ℕ) (len : ℕ) → BeginsSigned 32 bytes z len → BeginsSigned 32 bytes (to_z w32 (of_z w32 (to_z w64 (of_z w64 z)))) len
narrowed z bytes len p =
    let fits = within_32_bits (take len bytes) z p.spelled in
    rw (same_in_64 z fits, to_z-of_z w32 z fits) p
