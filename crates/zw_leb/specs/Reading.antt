-- Numbers at the front of bytes.
use Rattle.std.specs.Prelude.{◌≡◌, ℕ, ◌≤◌, ℤ, List, ◌++◌, length, take}
use Rattle.zw_leb.specs.Leb.{IsUnsigned, IsSigned}

-- so many bytes at the front spell this unsigned number
pub record BeginsUnsigned (bits : ℕ) (bytes : List ℕ) (n len : ℕ) : Type 0 where
  pub spelled : IsUnsigned bits (take len bytes) n
  pub within : len ≤ length bytes

-- so many bytes at the front spell this signed number
pub record BeginsSigned (bits : ℕ) (bytes : List ℕ) (z : ℤ) (len : ℕ) : Type 0 where
  pub spelled : IsSigned bits (take len bytes) z
  pub within : len ≤ length bytes

-- no front of the bytes spells an unsigned number
abbrev pub NoUnsigned : ℕ → List ℕ → Type 0
NoUnsigned bits bytes = (front rest : List ℕ) (n : ℕ) → IsUnsigned bits front n → bytes ≡ front ++ rest → ⊥

-- no front of the bytes spells a signed number
abbrev pub NoSigned : ℕ → List ℕ → Type 0
NoSigned bits bytes = (front rest : List ℕ) (z : ℤ) → IsSigned bits front z → bytes ≡ front ++ rest → ⊥
