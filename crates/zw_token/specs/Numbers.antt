-- Numbers of the four bases, and what they are worth (Zig Language Reference 0.13.0, Integer Literals and Float Literals).
use Rattle.std.specs.Prelude.{ℕ, ◌+◌, ◌-◌, ◌*◌, Bool, true, false, not, ◌&&◌, ◌||◌, ◌==◌, List, [], ◌∷◌, drop, if◌then◌else◌}
use Rattle.std.specs.List.{list_all, list_any, fold}
use Rattle.std.specs.Char.{is_ascii_digit, is_digit, digit_value}

abbrev pub is_empty : List ℕ → Bool
is_empty [] = true
is_empty (d ∷ digits) = false

-- a decimal number of digits alone: no leading zero unless it is `0`
abbrev pub is_decimal : List ℕ → Bool
is_decimal [] = false
is_decimal (d ∷ digits) = if d == 48 then is_empty digits else list_all is_ascii_digit (d ∷ digits)

-- the number that these decimal digits spell: of none it is 0, and each digit adds itself to ten times what those before it spell
abbrev pub decimal_value : List ℕ → ℕ
decimal_value digits = fold (λ before digit. 10 * before + (digit - 48)) 0 digits

-- the base that the first bytes of a number give: 16 by `0x`, 8 by `0o`, 2 by `0b`, else 10
abbrev pub base_of_mark : ℕ → ℕ
base_of_mark x = if x == 120 then 16 else (if x == 111 then 8 else (if x == 98 then 2 else 10))

abbrev pub base_of : List ℕ → ℕ
base_of [] = 10
base_of (z ∷ []) = 10
base_of (z ∷ x ∷ digits) = if z == 48 then base_of_mark x else 10

-- the digits of a number, without what gives its base
abbrev pub digits_of : List ℕ → List ℕ
digits_of numeral = if base_of numeral == 10 then numeral else drop 2 numeral

-- digits of this base with at most one `_` between two of them; `behind` says that a digit stands before the first byte
abbrev pub are_digits_behind : ℕ → Bool → List ℕ → Bool
are_digits_behind base behind [] = behind
are_digits_behind base behind (d ∷ digits) = if d == 95 then behind && are_digits_behind base false digits else is_digit d base && are_digits_behind base true digits

-- at least one digit of this base, and at most one `_` between two digits
abbrev pub are_digits : ℕ → List ℕ → Bool
are_digits base digits = are_digits_behind base false digits

-- a zero with something behind it
abbrev pub has_leading_zero : List ℕ → Bool
has_leading_zero [] = false
has_leading_zero (d ∷ digits) = d == 48 && not (is_empty digits)

-- a number of one of the four bases
unfoldable pub is_number : List ℕ → Bool
is_number numeral = are_digits (base_of numeral) (digits_of numeral) && not (base_of numeral == 10 && has_leading_zero numeral)

-- a letter that makes a float of a number of this base: `e` of a decimal one, `p` of a hexadecimal one
abbrev pub is_exponent : ℕ → ℕ → Bool
is_exponent base b = (base == 10 && (b == 101 || b == 69)) || (base == 16 && (b == 112 || b == 80))

unfoldable pub has_exponent : List ℕ → Bool
has_exponent numeral = list_any (is_exponent (base_of numeral)) numeral

-- the number that these digits of a base spell: of none it is 0, each digit adds itself to the base times what those before it
-- spell, and `_` counts for nothing
abbrev pub with_digit : ℕ → ℕ → ℕ → ℕ
with_digit base before digit = if digit == 95 then before else base * before + digit_value digit

abbrev pub digits_value : ℕ → List ℕ → ℕ
digits_value base digits = fold (with_digit base) 0 digits

-- the value of a number
abbrev pub number_of : List ℕ → ℕ
number_of numeral = digits_value (base_of numeral) (digits_of numeral)
