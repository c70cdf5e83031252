-- What comes in from outside: a number of so many bits, which the host may tell with a sign or without one, and which is taken
-- modulo the width of the type that is wanted. This project's own.
use Rattle.std.specs.Prelude.{◌≡◌, ℕ, suc, ◌-◌, ◌%◌, ◌^◌, ◌<◌, ℤ, pos, negsuc, Bool, true, false, nat_lt}

-- whether a whole number is one of so many bits, with a sign or without one: from -2^(bits - 1) to 2^bits - 1
abbrev pub is_word : (bits : ℕ) → ℤ → Bool
is_word bits (pos n) = nat_lt n (2 ^ bits)
is_word bits (negsuc n) = nat_lt n (2 ^ (bits - 1))

-- a whole number modulo 2^bits
abbrev pub modulo : (bits : ℕ) → ℤ → ℕ
modulo bits (pos n) = n % 2 ^ bits
modulo bits (negsuc n) = 2 ^ bits - suc (n % 2 ^ bits)

-- Which numbers come in, and as what.
pub record NumbersComeIn : Type 0 where
  -- what comes in has no bit above those of its type
  pub below : (bits : ℕ) (z : ℤ) → modulo bits z < 2 ^ bits
  -- a number that its type has comes in as itself
  pub kept : (bits n : ℕ) → n < 2 ^ bits → modulo bits (pos n) ≡ n
  -- 32 bits are handed over with a sign or without one, and nothing else
  pub greatest : is_word 32 (pos 4294967295) ≡ true
  pub too_great : is_word 32 (pos 4294967296) ≡ false
  pub least : is_word 32 (negsuc 2147483647) ≡ true
  pub too_small : is_word 32 (negsuc 2147483648) ≡ false
  pub long : is_word 64 (negsuc 2147483648) ≡ true
  -- 300 and -1 at 8 bits, and the same bits told with a sign and without one
  pub byte : modulo 8 (pos 300) ≡ 44
  pub negative_byte : modulo 8 (negsuc 0) ≡ 255
  pub negative : modulo 32 (negsuc 0) ≡ modulo 32 (pos 4294967295)
  -- the lowest bit
  pub even : modulo 1 (pos 6) ≡ 0
  pub odd : modulo 1 (negsuc 2) ≡ 1
