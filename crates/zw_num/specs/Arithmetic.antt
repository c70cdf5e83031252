-- Integer types, their values, and what the operators and builtins on whole numbers give (Zig Language Reference 0.13.0,
-- Integers, Operators and Builtin Functions). Numbers are whole and exact: what a type can hold is a range of them. The laws
-- of this crate (`laws` in `src/`) say of the definitions that they are what their comments say.
use Rattle.std.specs.Prelude.{◌≡◌, ℕ, zero, suc, ◌+◌, ◌-◌, ◌*◌, ◌/◌, ◌%◌, ◌^◌, ◌<◌, ◌≤◌, ℤ, pos, negsuc, neg_ℤ, ◌+ℤ◌, ◌-ℤ◌, ◌*ℤ◌, ◌≤ℤ◌, Bool, true, false, ◌&&◌, int_le, int_lt, int_div, nat_lt, nat_le, unsigned_abs, bit_and, bit_or, bit_xor, if◌then◌else◌, Option, Some, None, Result, Ok, Err, MatchResult}
use Rattle.std.specs.Int.{int_rem_euclid, int_div_euclid, int_min, int_max, bit_at}
use Rattle.zw_num.specs.declared.int_ty.IntTy.{IntTy}
use Rattle.zw_num.specs.declared.int_ty.IntTy.TheVariants.{Sized, Comptime}
use Rattle.zw_num.specs.declared.num_fault.NumFault.{NumFault}
use Rattle.zw_num.specs.declared.num_fault.NumFault.TheVariants.{Overflow, DivZero, Remainder, ShiftAmount, ShiftBits, Truncated, Negative}

-- ---- types

-- a sized type has at most 64 bits
abbrev pub IsType : IntTy → Type 0
IsType (Sized signed bits) = bits ≤ 64
IsType Comptime = Unit {0}

-- a type with bits to wrap around in
abbrev pub IsSized : IntTy → Type 0
IsSized (Sized signed bits) = Unit {0}
IsSized Comptime = ⊥

-- the bits of a sized type
abbrev pub width : IntTy → ℕ
width (Sized signed bits) = bits
width Comptime = 0

-- The least value of a type: 0, or -2 ^ (bits - 1) where it is signed. Without bits it is 0 in both cases, and so is the
-- greatest, which is why half of 2 ^ bits stands here.
abbrev pub least : IntTy → ℤ
least (Sized false bits) = pos 0
least (Sized true bits) = neg_ℤ (pos (2 ^ bits / 2))
least Comptime = neg_ℤ (pos (2 ^ 127))

-- the greatest value of a type: 2 ^ bits - 1, or 2 ^ (bits - 1) - 1 where it is signed
abbrev pub greatest : IntTy → ℤ
greatest (Sized false bits) = pos (2 ^ bits - 1)
greatest (Sized true bits) = pos ((2 ^ bits - 1) / 2)
greatest Comptime = pos (2 ^ 127 - 1)

-- a number is a value of a type
pub record IsIn (ty : IntTy) (z : ℤ) : Type 0 where
  pub at_least : least ty ≤ℤ z
  pub at_most : z ≤ℤ greatest ty

-- the same as a test
abbrev pub is_in : IntTy → ℤ → Bool
is_in ty z = int_le (least ty) z && int_le z (greatest ty)

-- ---- exact, wrapped and saturated results

-- A checked operator's answer, where the exact result is z: z where the type has it, and else an overflow.
abbrev pub exact : IntTy → ℤ → Result ℤ NumFault
exact ty z = if is_in ty z then Ok z else Err Overflow

-- the same by cases
abbrev pub IsExact : IntTy → ℤ → Result ℤ NumFault → Type 0
IsExact ty z result = MatchResult result (λ r. (r ≡ z) × IsIn ty z) (λ e. (e ≡ Overflow) × (¬ IsIn ty z))

-- two numbers differ by a multiple of 2 ^ bits
abbrev pub IsCongruent : ℕ → ℤ → ℤ → Type 0
IsCongruent bits z r = (k : ℤ) × (z ≡ r +ℤ k *ℤ pos (2 ^ bits))

-- The value of a sized type that differs from z by a multiple of 2 ^ bits: `wrapped_values` says that there is just one.
abbrev pub wrapped : IntTy → ℤ → ℤ
wrapped (Sized signed bits) z = int_rem_euclid (z -ℤ least (Sized signed bits)) (pos (2 ^ bits)) +ℤ least (Sized signed bits)
wrapped Comptime z = z

-- the value of a type that is nearest to z (`saturated_values`)
abbrev pub saturated : IntTy → ℤ → ℤ
saturated ty z = int_max (least ty) (int_min z (greatest ty))

-- A cast's answer: a negative number has none in an unsigned type, and another number none where the type doesn't have it.
abbrev pub cast_to : IntTy → ℤ → Result ℤ NumFault
cast_to (Sized false bits) (negsuc n) = Err Negative
cast_to (Sized false bits) (pos n) = if is_in (Sized false bits) (pos n) then Ok (pos n) else Err Truncated
cast_to (Sized true bits) z = if is_in (Sized true bits) z then Ok z else Err Truncated
cast_to Comptime z = if is_in Comptime z then Ok z else Err Truncated

-- ---- division

-- The quotient of a by b, which isn't 0, rounded toward zero, and rounded down. `quotients` says that each is the one number
-- with its division law.
abbrev pub truncated : ℤ → ℤ → ℤ
truncated a b = int_div a b

abbrev pub floored : ℤ → ℤ → ℤ
floored a (pos b) = int_div_euclid a (pos b)
floored a (negsuc b) = int_div_euclid (neg_ℤ a) (pos (suc b))

-- what a quotient q of a by b leaves
abbrev pub rest_of : ℤ → ℤ → ℤ → ℤ
rest_of a b q = a -ℤ b *ℤ q

-- x is 0, or on the side of 0 that z is on
abbrev pub SameSide : ℤ → ℤ → Type 0
SameSide x (pos n) = pos 0 ≤ℤ x
SameSide x (negsuc n) = x ≤ℤ pos 0

-- The division law of a quotient rounded toward zero: a is b times q and a rest that is nearer to 0 than b, and that isn't on
-- the other side of 0 than a.
pub record IsTruncated (a b q : ℤ) : Type 0 where
  pub near : unsigned_abs (rest_of a b q) < unsigned_abs b
  pub side : SameSide (rest_of a b q) a

-- the division law of a quotient rounded down: the same, with the rest on b's side of 0
pub record IsFloored (a b q : ℤ) : Type 0 where
  pub near : unsigned_abs (rest_of a b q) < unsigned_abs b
  pub side : SameSide (rest_of a b q) b

-- an answer of a division by b, which has none where b is 0
abbrev pub divided : ℤ → Result ℤ NumFault → Result ℤ NumFault
divided (pos zero) answer = Err DivZero
divided (pos (suc n)) answer = answer
divided (negsuc n) answer = answer

-- an answer that is due where nothing is left, or else a fault
abbrev pub without_rest : ℤ → NumFault → Result ℤ NumFault → Result ℤ NumFault
without_rest (pos zero) fault answer = answer
without_rest (pos (suc n)) fault answer = Err fault
without_rest (negsuc n) fault answer = Err fault

-- The answer of an exact division of a by b, which isn't 0: an overflow comes before a rest.
abbrev pub exact_quotient : IntTy → ℤ → ℤ → Result ℤ NumFault
exact_quotient ty a b =
    if is_in ty (truncated a b) then without_rest (rest_of a b (truncated a b)) Remainder (Ok (truncated a b)) else Err Overflow

-- ---- shifts

-- 2 to the power of an amount from 0 on
unfoldable pub power : ℤ → ℤ
power amount = pos (2 ^ unsigned_abs amount)

-- an amount that a shift takes: from 0 on, and below the width of a sized type
abbrev pub is_amount : IntTy → ℤ → Bool
is_amount (Sized signed bits) amount = int_le (pos 0) amount && int_lt amount (pos bits)
is_amount Comptime amount = int_le (pos 0) amount

-- a shift's answer, which has none where the amount is none
abbrev pub shifted : IntTy → ℤ → Result ℤ NumFault → Result ℤ NumFault
shifted ty amount answer = if is_amount ty amount then answer else Err ShiftAmount

-- `a << b`, where z is a times 2 ^ b: a sized type drops the bits above its own, and `comptime_int` is exact.
abbrev pub kept : IntTy → ℤ → Result ℤ NumFault
kept (Sized signed bits) z = Ok (wrapped (Sized signed bits) z)
kept Comptime z = exact Comptime z

-- `@shlExact`, where z is a times 2 ^ b: bits that count are lost where the sized type doesn't have z.
abbrev pub none_lost : IntTy → ℤ → Result ℤ NumFault
none_lost (Sized signed bits) z = if is_in (Sized signed bits) z then Ok z else Err ShiftBits
none_lost Comptime z = exact Comptime z

-- `@shrExact` of a by 2 ^ b: bits that count are lost where the power doesn't divide a.
abbrev pub none_dropped : ℤ → ℤ → Result ℤ NumFault
none_dropped a power = without_rest (rest_of a power (floored a power)) ShiftBits (Ok (floored a power))

-- ---- bits

-- Bit i of a number in two's complement, which goes on without end: of -(n + 1) it is 1 where bit i of n is 0.
abbrev pub bit_of : ℤ → ℕ → ℕ
bit_of (pos n) i = bit_at n i
bit_of (negsuc n) i = 1 - bit_at n i

-- The number whose bits are 1 where both have a 1, where one of the two or both have, where just one has, and where a number
-- has a 0. `bit_operators` says so of each bit, and that a number with such bits is the only one.
abbrev pub bits_and : ℤ → ℤ → ℤ
bits_and (pos a) (pos b) = pos (bit_and a b)
bits_and (pos a) (negsuc b) = pos (a - bit_and a b)
bits_and (negsuc a) (pos b) = pos (b - bit_and a b)
bits_and (negsuc a) (negsuc b) = negsuc (bit_or a b)

abbrev pub bits_or : ℤ → ℤ → ℤ
bits_or (pos a) (pos b) = pos (bit_or a b)
bits_or (pos a) (negsuc b) = negsuc (b - bit_and a b)
bits_or (negsuc a) (pos b) = negsuc (a - bit_and a b)
bits_or (negsuc a) (negsuc b) = negsuc (bit_and a b)

abbrev pub bits_xor : ℤ → ℤ → ℤ
bits_xor (pos a) (pos b) = pos (bit_xor a b)
bits_xor (pos a) (negsuc b) = negsuc (bit_xor a b)
bits_xor (negsuc a) (pos b) = negsuc (bit_xor a b)
bits_xor (negsuc a) (negsuc b) = pos (bit_xor a b)

abbrev pub bits_not : ℤ → ℤ
bits_not (pos n) = negsuc n
bits_not (negsuc n) = pos n

-- the bits of a number in a width, as the number from 0 on that has them
abbrev pub pattern : ℕ → ℤ → ℕ
pattern bits z = unsigned_abs (int_rem_euclid z (pos (2 ^ bits)))

-- The lowest digits of n in a base, so many of them, in the other order: the lowest becomes the highest. With base 2 they are
-- bits, with base 256 bytes. `reversals` says so of each digit.
unfoldable pub reversed : ℕ → ℕ → ℕ → ℕ
reversed base zero n = 0
reversed base (suc count) n = (n % base) * base ^ count + reversed base count (n / base)

-- digit i of n in a base
abbrev pub digit : ℕ → ℕ → ℕ → ℕ
digit base n i = n / base ^ i % base

-- of n below 2 ^ bits, the k highest bits of so many are 0, and the next one, where there is one, isn't
pub record HasLeadingZeros (bits n k : ℕ) : Type 0 where
  pub among : k ≤ bits
  pub zeros : n < 2 ^ (bits - k)
  pub one : k < bits → 2 ^ (bits - k - 1) ≤ n

-- of so many bits of n the k lowest are 0, and the next one, where there is one, isn't
pub record HasTrailingZeros (bits n k : ℕ) : Type 0 where
  pub among : k ≤ bits
  pub zeros : (i : ℕ) → i < k → bit_at n i ≡ 0
  pub one : k < bits → bit_at n k ≡ 1

-- how many of the lowest bits of n, so many of them, are 1
unfoldable pub ones_of : ℕ → ℕ → ℕ
ones_of zero n = 0
ones_of (suc bits) n = bit_at n bits + ones_of bits n

-- ---- the same on an unsigned type of so many bits, whose values are the numbers below 2 ^ bits

-- `a + b`: none where it overflows
abbrev pub sum_in : ℕ → ℕ → ℕ → Option ℕ
sum_in bits a b = if nat_lt (a + b) (2 ^ bits) then Some (a + b) else None

-- `a - b`: none where it overflows
abbrev pub difference_in : ℕ → ℕ → ℕ → Option ℕ
difference_in bits a b = if nat_le b a then Some (a - b) else None

-- `a +% b`
abbrev pub add_wrap_unsigned : ℕ → ℕ → ℕ → ℕ
add_wrap_unsigned bits a b = (a + b) % 2 ^ bits
