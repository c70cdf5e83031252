-- Numerics: what operators on numbers give (WebAssembly Core Specification 1.0, 4.3.2). A number of a width is its bits, read
-- without a sign, so that it is below 2^N where the width has N bits. Each operator stands once, for every width.
use Rattle.std.specs.Prelude.{ℕ, ◌+◌, ◌-◌, ◌*◌, ◌/◌, ◌%◌, ◌^◌, ℤ, pos, Bool, not, nat_eq, nat_lt, nat_le, bit_and, bit_or, bit_xor, count_ones, int_lt, int_le, int_div, int_rem, if◌then◌else◌}
use Rattle.std.specs.Int.{Width, w8, w16, w32, w64, w128, cast_signed, cast_unsigned, int_shr, leading_zeros, trailing_zeros, rotate_left, rotate_right}
use Rattle.zw_wasm.specs.declared.module.BinaryOperator.{BinaryOperator}
use Rattle.zw_wasm.specs.declared.module.BinaryOperator.TheVariants as binary
use Rattle.zw_wasm.specs.declared.module.Comparison.{Comparison}
use Rattle.zw_wasm.specs.declared.module.Comparison.TheVariants as comparison
use Rattle.zw_wasm.specs.declared.module.UnaryOperator.{UnaryOperator}
use Rattle.zw_wasm.specs.declared.module.UnaryOperator.TheVariants as unary

-- how many bits a width has
abbrev pub bit_width : Width → ℕ
bit_width w8 = 8
bit_width w16 = 16
bit_width w32 = 32
bit_width w64 = 64
bit_width w128 = 128

-- what an operator gives, or why it is undefined: its divisor is 0, or its result has no bits of that width
pub data Answer : Type 0 where
  Gives : (bits : ℕ) → Answer
  DividesByZero : Answer
  Overflows : Answer

-- a truth value as a number
abbrev pub bit_of : Bool → ℕ
bit_of b = if b then 1 else 0

-- ---- sums, differences and products, modulo 2^N

abbrev pub iadd : Width → ℕ → ℕ → ℕ
iadd w x y = (x + y) % 2 ^ bit_width w

abbrev pub isub : Width → ℕ → ℕ → ℕ
isub w x y = (x + (2 ^ bit_width w - y)) % 2 ^ bit_width w

abbrev pub imul : Width → ℕ → ℕ → ℕ
imul w x y = (x * y) % 2 ^ bit_width w

-- ---- quotients, rounded towards zero, and what they leave; with signs the remainder has that of the dividend

abbrev pub idiv_u : ℕ → ℕ → Answer
idiv_u x y = if nat_eq y 0 then DividesByZero else Gives (x / y)

abbrev pub irem_u : ℕ → ℕ → Answer
irem_u x y = if nat_eq y 0 then DividesByZero else Gives (x % y)

-- a signed quotient, where it is less than 2^(N-1)
abbrev pub quotient_in : Width → ℤ → Answer
quotient_in w z = if int_lt z (pos (2 ^ (bit_width w - 1))) then Gives (cast_unsigned w z) else Overflows

abbrev pub idiv_s : Width → ℕ → ℕ → Answer
idiv_s w x y = if nat_eq y 0 then DividesByZero else quotient_in w (int_div (cast_signed w x) (cast_signed w y))

abbrev pub irem_s : Width → ℕ → ℕ → Answer
irem_s w x y = if nat_eq y 0 then DividesByZero else Gives (cast_unsigned w (int_rem (cast_signed w x) (cast_signed w y)))

-- ---- shifts, by a number of bits modulo N

abbrev pub ishl : Width → ℕ → ℕ → ℕ
ishl w x y = (x * 2 ^ (y % bit_width w)) % 2 ^ bit_width w

abbrev pub ishr_u : Width → ℕ → ℕ → ℕ
ishr_u w x y = x / 2 ^ (y % bit_width w)

-- the highest bit is the sign, which moves in
abbrev pub ishr_s : Width → ℕ → ℕ → ℕ
ishr_s w x y = cast_unsigned w (int_shr (cast_signed w x) (y % bit_width w))

-- ---- from one width to another

-- the lowest bits
abbrev pub wrap : Width → ℕ → ℕ
wrap to x = x % 2 ^ bit_width to

-- the same number, with a sign
abbrev pub extend_s : Width → Width → ℕ → ℕ
extend_s from to x = cast_unsigned to (cast_signed from x)

-- ---- the operators by name

abbrev pub unary_of : UnaryOperator → Width → ℕ → ℕ
unary_of unary.Clz w x = leading_zeros w x
unary_of unary.Ctz w x = trailing_zeros w x
unary_of unary.Popcnt w x = count_ones x

abbrev pub binary_of : BinaryOperator → Width → ℕ → ℕ → Answer
binary_of binary.Add w x y = Gives (iadd w x y)
binary_of binary.Sub w x y = Gives (isub w x y)
binary_of binary.Mul w x y = Gives (imul w x y)
binary_of binary.DivS w x y = idiv_s w x y
binary_of binary.DivU w x y = idiv_u x y
binary_of binary.RemS w x y = irem_s w x y
binary_of binary.RemU w x y = irem_u x y
binary_of binary.And w x y = Gives (bit_and x y)
binary_of binary.Or w x y = Gives (bit_or x y)
binary_of binary.Xor w x y = Gives (bit_xor x y)
binary_of binary.Shl w x y = Gives (ishl w x y)
binary_of binary.ShrS w x y = Gives (ishr_s w x y)
binary_of binary.ShrU w x y = Gives (ishr_u w x y)
binary_of binary.Rotl w x y = Gives (rotate_left w x y)
binary_of binary.Rotr w x y = Gives (rotate_right w x y)

-- whether two numbers are so related
abbrev pub is_related : Comparison → Width → ℕ → ℕ → Bool
is_related comparison.Eq w x y = nat_eq x y
is_related comparison.Ne w x y = not (nat_eq x y)
is_related comparison.LtS w x y = int_lt (cast_signed w x) (cast_signed w y)
is_related comparison.LtU w x y = nat_lt x y
is_related comparison.GtS w x y = int_lt (cast_signed w y) (cast_signed w x)
is_related comparison.GtU w x y = nat_lt y x
is_related comparison.LeS w x y = int_le (cast_signed w x) (cast_signed w y)
is_related comparison.LeU w x y = nat_le x y
is_related comparison.GeS w x y = int_le (cast_signed w y) (cast_signed w x)
is_related comparison.GeU w x y = nat_le y x
