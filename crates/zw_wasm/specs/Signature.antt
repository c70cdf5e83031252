-- Signature: how a host reads the numbers of a module as values of declared types. A module's own types know only the
-- widths; what they stand for is told from outside. This project's own.
use Rattle.std.specs.Prelude.{ℕ, zero, suc, ◌+◌, ◌-◌, ◌^◌, ℤ, pos, negsuc, Bool, true, false, nat_lt, nat_le, List, [], ◌∷◌, length, Option, Some, None, slice_range, if◌then◌else◌}
use Rattle.std.specs.Option.{option_map}
use Rattle.zw_session.specs.Sessions.{Scalar, Number, Truth}
use Rattle.std.specs.Int.{cast_signed, w32, w64}
use Rattle.zw_wasm.specs.Structure.{Num, I32, I64, bits_of}

-- how a number is read: without a sign or with one, at a number of bits, or as a truth value
pub data Reading : Type 0 where
  Unsigned : (bits : ℕ) → Reading
  Signed : (bits : ℕ) → Reading
  Logical : Reading

-- what a host function is given: a value, or the bytes that a pointer and a length behind it show
pub data Shown : Type 0 where
  Value : (reading : Reading) → Shown
  Bytes : Shown

-- the declared types of an exported function
pub record Signature : Type 0 where
  pub params : List Reading
  pub result : Option Reading

-- the declared types of the functions that a module exports, by name, and of those that it imports, by number
pub record View : Type 0 where
  pub exported : List ℕ → Option Signature
  pub import_params : ℕ → List Shown

-- the number that a whole i32 or i64 is with a sign
abbrev pub signed_value : Num → ℤ
signed_value (I32 n) = cast_signed w32 n
signed_value (I64 n) = cast_signed w64 n

-- a truth value is 0 or 1, and any other number is none
abbrev pub truth_of : ℕ → Scalar
truth_of zero = Truth false
truth_of (suc zero) = Truth true
truth_of n = Number (pos n)

-- The value that a number stands for, which is read whole: bits above the declared type tell it from the values of that type.
abbrev pub scalar_of : Reading → Num → Scalar
scalar_of (Unsigned bits) v = Number (pos (bits_of v))
scalar_of (Signed bits) v = Number (signed_value v)
scalar_of Logical v = truth_of (bits_of v)

-- whether a value is in the range of a declared type
abbrev pub is_in_range : Reading → Scalar → Bool
is_in_range (Unsigned bits) (Number (pos n)) = nat_lt n (2 ^ bits)
is_in_range (Unsigned bits) (Number (negsuc n)) = false
is_in_range (Signed bits) (Number (pos n)) = nat_lt n (2 ^ (bits - 1))
is_in_range (Signed bits) (Number (negsuc n)) = nat_lt n (2 ^ (bits - 1))
is_in_range Logical (Truth b) = true
is_in_range (Unsigned bits) (Truth b) = false
is_in_range (Signed bits) (Truth b) = false
is_in_range Logical (Number z) = false

-- the values among the arguments of a host call
abbrev pub shown_scalars : List Shown → List Num → List Scalar
shown_scalars [] args = []
shown_scalars (Value r ∷ ps) [] = []
shown_scalars (Value r ∷ ps) (a ∷ args) = scalar_of r a ∷ shown_scalars ps args
shown_scalars (Bytes ∷ ps) [] = []
shown_scalars (Bytes ∷ ps) (a ∷ []) = []
shown_scalars (Bytes ∷ ps) (a ∷ b ∷ args) = shown_scalars ps args

-- the bytes of a memory from a place on, or none where they aren't all there
abbrev pub bytes_at : List ℕ → ℕ → ℕ → Option (List ℕ)
bytes_at memory at count = if nat_le (at + count) (length memory) then Some (slice_range memory at (at + count)) else None

abbrev pub before_others : Option (List ℕ) → Option (List (List ℕ)) → Option (List (List ℕ))
before_others None others = None
before_others (Some bytes) others = option_map (λ rest. bytes ∷ rest) others

-- the bytes that the arguments of a host call show, or none where some aren't in the memory
abbrev pub shown_ranges : List Shown → List Num → List ℕ → Option (List (List ℕ))
shown_ranges [] args memory = Some []
shown_ranges (Value r ∷ ps) [] memory = Some []
shown_ranges (Value r ∷ ps) (a ∷ args) memory = shown_ranges ps args memory
shown_ranges (Bytes ∷ ps) [] memory = Some []
shown_ranges (Bytes ∷ ps) (a ∷ []) memory = Some []
shown_ranges (Bytes ∷ ps) (a ∷ b ∷ args) memory =
    before_others (bytes_at memory (bits_of a) (bits_of b)) (shown_ranges ps args memory)
