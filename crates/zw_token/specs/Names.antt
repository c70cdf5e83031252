-- The names that stand for types and values, and those of types that aren't in the profile.
use Rattle.std.specs.Prelude.{ℕ, Bool, false, ◌&&◌, ◌||◌, ◌==◌, List, [], ◌∷◌, map}
use Rattle.zw_token.specs.declared.names.TheConstants.{PRIMITIVE_NAMES}
use Rattle.zw_token.specs.Numbers.{is_decimal}
use Rattle.zw_token.specs.Tables.{IsIn, is_in, refused_names}

abbrev pub primitive_names : List (List ℕ)
primitive_names = map (λ text. text.now) PRIMITIVE_NAMES

-- `i` or `u` and a decimal number
abbrev pub is_sized_name : List ℕ → Bool
is_sized_name [] = false
is_sized_name (b ∷ digits) = (b == 105 || b == 117) && is_decimal digits

-- the name of a primitive type or value
abbrev pub is_primitive : List ℕ → Bool
is_primitive name = is_sized_name name || is_in primitive_names name

-- the name of a type that isn't in the profile
abbrev pub IsRefusedName : List ℕ → Type 0
IsRefusedName name = IsIn refused_names name
