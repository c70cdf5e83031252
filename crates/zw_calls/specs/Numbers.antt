-- Whole numbers that are taken modulo the width of a type. This project's own.
use Rattle.std.specs.Prelude.{ℕ, ◌-◌, ◌%◌, ℤ, pos, negsuc, ◌≤ℤ◌}

-- a number modulo another one
abbrev pub modulo : ℕ → ℤ → ℕ
modulo m (pos n) = n % m
modulo m (negsuc n) = m - 1 - n % m

-- from -2^31 to 2^32 - 1
abbrev pub IsNarrow : ℤ → Type 0
IsNarrow number = (negsuc 2147483647 ≤ℤ number) × (number ≤ℤ pos 4294967295)

-- from -2^63 to 2^64 - 1
abbrev pub IsWide : ℤ → Type 0
IsWide number = (negsuc 9223372036854775807 ≤ℤ number) × (number ≤ℤ pos 18446744073709551615)
