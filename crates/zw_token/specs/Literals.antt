-- The items of literals: how many bytes an item has, and what it stands for (Zig Language Reference 0.13.0, Escape Sequences
-- and String Literals and Unicode Code Point Literals).
use Rattle.std.specs.Prelude.{ℕ, zero, suc, ◌+◌, ◌-◌, Bool, false, ◌&&◌, ◌||◌, ◌==◌, nat_lt, nat_le, List, [], ◌∷◌, length, take, drop, slice_index, Option, Some, None, encode_utf8, if◌then◌else◌}
use Rattle.std.specs.Char.{is_ascii_hexdigit}
use Rattle.std.specs.List.{prefix_len, flat_map, sum_by}
use Rattle.std.specs.Option.{option_map_or}
use Rattle.std.specs.Str.{is_utf8, chars, continuation_len}
use Rattle.zw_token.specs.Numbers.{digits_value}

-- how many bytes the code point has that begins here; a byte that is no part of a code point counts for itself
unfoldable pub point_len : List ℕ → ℕ
point_len [] = 0
point_len (b ∷ bytes) =
    let n = 1 + continuation_len b in
    if nat_le n (length (b ∷ bytes)) && is_utf8 (take n (b ∷ bytes)) then n else 1

-- `n`, `r`, `t`, `\`, `'` or `"`: with `\` before it, it stands for one code point
abbrev pub is_simple_escape : ℕ → Bool
is_simple_escape e = e == 110 || e == 114 || e == 116 || e == 92 || e == 39 || e == 34

-- two hexadecimal digits stand here
abbrev pub starts_byte_digits : List ℕ → Bool
starts_byte_digits [] = false
starts_byte_digits (a ∷ []) = false
starts_byte_digits (a ∷ b ∷ rest) = is_ascii_hexdigit a && is_ascii_hexdigit b

-- how many hexadecimal digits stand here
abbrev pub hex_len : List ℕ → ℕ
hex_len rest = prefix_len is_ascii_hexdigit rest

-- the number is that of a code point: at most 10FFFF, and no surrogate
abbrev pub is_scalar : ℕ → Bool
is_scalar c = nat_lt c 0xD800 || (nat_le 0xE000 c && nat_le c 0x10FFFF)

-- `{`, one or more hexadecimal digits that number a code point, and `}` stand here
abbrev pub starts_point_digits : List ℕ → Bool
starts_point_digits [] = false
starts_point_digits (b ∷ rest) = b == 123 && nat_lt 0 (hex_len rest) && slice_index rest (hex_len rest) == 125 && is_scalar (digits_value 16 (take (hex_len rest) rest))

-- how many bytes the escape has whose `\` stands before these bytes
abbrev pub escape_len : List ℕ → Option ℕ
escape_len [] = None
escape_len (e ∷ rest) =
    if is_simple_escape e then Some 2
    else (if e == 120 && starts_byte_digits rest then Some 4
    else (if e == 117 && starts_point_digits rest then Some (hex_len (drop 1 rest) + 4) else None))

-- how many bytes the item has that begins here, in a literal that this quote ends: an escape, or a code point other than `\`, the
-- ends of lines and the quote
unfoldable pub item_len : ℕ → List ℕ → Option ℕ
item_len quote [] = None
item_len quote (b ∷ rest) =
    if b == 92 then escape_len rest
    else (if b == quote || b == 10 || b == 13 then None else Some (point_len (b ∷ rest)))

-- the number that an escape stands for, whose `\` stands before these bytes
abbrev pub simple_escape : ℕ → ℕ
simple_escape e = if e == 110 then 10 else (if e == 114 then 13 else (if e == 116 then 9 else e))

abbrev pub escape_number : List ℕ → ℕ
escape_number [] = 0
escape_number (e ∷ rest) =
    if e == 120 then digits_value 16 (take 2 rest)
    else (if e == 117 then digits_value 16 (take (hex_len (drop 1 rest)) (drop 1 rest)) else simple_escape e)

-- the number of the code point that begins here, and 0 for a byte that is no part of one
abbrev pub point_number : List ℕ → ℕ
point_number rest = if is_utf8 (take (point_len rest) rest) then slice_index (chars (take (point_len rest) rest)) 0 else 0

-- the number that the item stands for that begins here: an escape's, or the code point's own
abbrev pub item_number : List ℕ → ℕ
item_number rest = if slice_index rest 0 == 92 then escape_number (drop 1 rest) else point_number rest

-- the bytes that an escape stands for: the one byte of `\x`, else those of its code point in UTF-8
abbrev pub escape_bytes : List ℕ → List ℕ
escape_bytes rest = if slice_index rest 0 == 120 then escape_number rest ∷ [] else encode_utf8 (escape_number rest)

-- an item: how many bytes it has, and the bytes that it stands for
pub record Item : Type 0 where
  pub len : ℕ
  pub stands_for : List ℕ

-- the item of n bytes that begins here stands for what its escape does, or for itself
abbrev pub item_at : ℕ → List ℕ → Item
item_at n rest = record { len = n; stands_for = if slice_index rest 0 == 92 then escape_bytes (drop 1 rest) else take n rest }

-- the items that stand here, one behind the other; the first `within` bytes belong to an item that began before
abbrev pub items_within : ℕ → ℕ → List ℕ → List Item
items_within quote within [] = []
items_within quote (suc within) (b ∷ rest) = items_within quote within rest
items_within quote zero (b ∷ rest) = option_map_or (λ n. item_at n (b ∷ rest) ∷ items_within quote (n - 1) rest) (item_len quote (b ∷ rest)) []

abbrev pub items : ℕ → List ℕ → List Item
items quote rest = items_within quote 0 rest

-- how many bytes they have
abbrev pub items_len : ℕ → List ℕ → ℕ
items_len quote rest = sum_by (λ item. item.len) (items quote rest)

-- the bytes that they stand for
abbrev pub items_bytes : ℕ → List ℕ → List ℕ
items_bytes quote rest = flat_map (λ item. item.stands_for) (items quote rest)
