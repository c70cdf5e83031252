-- LEB128: the spellings of numbers in the bytes of a module (WebAssembly Core Specification 1.0, 5.2.2).
use Rattle.std.specs.Prelude.{◌≡◌, ◌⊎◌, ℕ, zero, suc, ◌+◌, ◌-◌, ◌*◌, ◌/◌, ◌%◌, ◌^◌, ◌<◌, ◌≤◌, ℤ, pos, negsuc, ◌+ℤ◌, ◌*ℤ◌, nat_lt, List, [], ◌∷◌, if◌then◌else◌}

-- Bytes spell an unsigned number of so many bits. A byte below 128 is the last. One from 128 on has the seven lowest
-- bits, and the bytes after it spell the others. So five bytes at most spell a number of 32 bits, and a number has
-- longer spellings beside its shortest.
abbrev pub IsUnsigned : ℕ → List ℕ → ℕ → Type 0
IsUnsigned bits [] n = ⊥
IsUnsigned bits (b ∷ []) n = (b < 128) × (b < 2 ^ bits) × (n ≡ b)
IsUnsigned bits (b ∷ c ∷ rest) n = (128 ≤ b) × (b < 256) × (7 < bits) × ((high : ℕ) × (n + 128 ≡ 128 * high + b) × IsUnsigned (bits - 7) (c ∷ rest) high)

-- Bytes spell a signed number of so many bits. The last byte has the sign in its seventh bit, and its bits past the
-- number's own are copies of that.
abbrev pub IsSigned : ℕ → List ℕ → ℤ → Type 0
IsSigned bits [] z = ⊥
IsSigned bits (b ∷ []) z = ((b < 64) × (b < 2 ^ (bits - 1)) × (z ≡ pos b)) ⊎ ((64 ≤ b) × (b < 128) × (128 ≤ b + 2 ^ (bits - 1)) × (z +ℤ pos 128 ≡ pos b))
IsSigned bits (b ∷ c ∷ rest) z = (128 ≤ b) × (b < 256) × (7 < bits) × ((high : ℤ) × (z +ℤ pos 128 ≡ pos 128 *ℤ high +ℤ pos b) × IsSigned (bits - 7) (c ∷ rest) high)

-- the shortest spelling of an unsigned number, with at most so many bytes more than one
abbrev pub unsigned_within : ℕ → ℕ → List ℕ
unsigned_within zero n = n ∷ []
unsigned_within (suc more) n = if nat_lt n 128 then n ∷ [] else (n % 128 + 128) ∷ unsigned_within more (n / 128)

-- the shortest spelling of a number below 2 ^ 64
unfoldable pub unsigned : ℕ → List ℕ
unsigned n = unsigned_within 9 n

-- the shortest spelling of a signed number; a negative number -1 - n has the bits that n has not
abbrev pub signed_within : ℕ → ℤ → List ℕ
signed_within zero (pos n) = n ∷ []
signed_within zero (negsuc n) = (127 - n) ∷ []
signed_within (suc more) (pos n) = if nat_lt n 64 then n ∷ [] else (n % 128 + 128) ∷ signed_within more (pos (n / 128))
signed_within (suc more) (negsuc n) = if nat_lt n 64 then (127 - n) ∷ [] else (255 - n % 128) ∷ signed_within more (negsuc (n / 128))

-- the shortest spelling of a number from -2 ^ 63 to 2 ^ 63 - 1
unfoldable pub signed : ℤ → List ℕ
signed z = signed_within 9 z
