-- The token that stands at the front of what is left of a text, or what is wrong there, by the form that its first bytes
-- begin. The longest token is taken (Zig Language Reference 0.13.0, Grammar).
use Rattle.std.specs.Prelude.{ℕ, ◌+◌, ◌-◌, Bool, ◌&&◌, ◌||◌, ◌==◌, nat_lt, nat_eq, List, [], ◌∷◌, length, take, drop, slice_index, Option, Some, None, Result, Ok, Err, if◌then◌else◌}
use Rattle.std.specs.List.{prefix_len, starts_with}
use Rattle.std.specs.Option.{option_map_or}
use Rattle.zw_token.specs.declared.token.TextError.{TextError}
use Rattle.zw_token.specs.declared.token.TextError.TheVariants.{BadToken, BadLiteral, NotInProfile}
use Rattle.zw_token.specs.declared.token.TokenKind.{TokenKind}
use Rattle.zw_token.specs.declared.token.TokenKind.TheVariants.{Name, Quoted, Builtin, Number, Character, Text, LineText, Keyword, Sign}
use Rattle.zw_token.specs.Bytes.{is_name_start, is_name_byte, starts_word, starts_number, starts_fraction, line_len}
use Rattle.zw_token.specs.Literals.{item_len, items_len}
use Rattle.zw_token.specs.Numbers.{is_number, has_exponent}
use Rattle.zw_token.specs.Tables.{keywords, refused_keywords, refused_names, signs, builtins, place_in, is_in, longest_len}

-- a token's kind and how many bytes it has, or what is wrong
abbrev pub Front : Type 0
Front = Result (TokenKind × ℕ) TextError

abbrev pub accepted : TokenKind → ℕ → Front
accepted kind n = Ok (kind, n)

abbrev pub refused : TextError → Front
refused error = Err error

-- the letters, digits and `_` that stand here
abbrev pub word_len : List ℕ → ℕ
word_len rest = prefix_len is_name_byte rest

-- a word's kind: that of its place among the keywords, else a name
abbrev pub word_kind : List ℕ → TokenKind
word_kind word = option_map_or Keyword (place_in keywords word) Name

-- the refused keywords, and the names of types that aren't in the profile
abbrev pub is_refused_word : List ℕ → Bool
is_refused_word word = is_in refused_keywords word || is_in refused_names word

abbrev pub word_front : List ℕ → Front
word_front rest =
    let word = take (word_len rest) rest in
    if is_refused_word word then refused NotInProfile else accepted (word_kind word) (word_len rest)

-- a float has an exponent, or a fraction directly behind it
abbrev pub number_front : List ℕ → Front
number_front rest =
    let numeral = take (word_len rest) rest in
    if has_exponent numeral || starts_fraction (drop (word_len rest) rest) then refused NotInProfile
    else (if is_number numeral then accepted Number (word_len rest) else refused BadLiteral)

-- behind `"`: items, and the quote that ends them
abbrev pub text_front : List ℕ → Front
text_front rest = if slice_index rest (items_len 34 rest) == 34 then accepted Text (items_len 34 rest + 2) else refused BadLiteral

-- behind `@"`: the same, and at least one item
abbrev pub quoted_front : List ℕ → Front
quoted_front rest = if nat_lt 0 (items_len 34 rest) && slice_index rest (items_len 34 rest) == 34 then accepted Quoted (items_len 34 rest + 3) else refused BadLiteral

-- behind `@`: a name of the table of builtins
abbrev pub builtin_front : List ℕ → Front
builtin_front rest = if is_in builtins (take (word_len rest) rest) then accepted Builtin (word_len rest + 1) else refused NotInProfile

-- behind `@`
abbrev pub at_front : List ℕ → Front
at_front [] = refused BadToken
at_front (b ∷ rest) = if b == 34 then quoted_front rest else (if is_name_start b then builtin_front (b ∷ rest) else refused BadToken)

-- behind `'`: one item, and `'`
abbrev pub character_of_item : Option ℕ → List ℕ → Front
character_of_item None rest = refused BadLiteral
character_of_item (Some n) rest = if slice_index rest n == 39 then accepted Character (n + 2) else refused BadLiteral

abbrev pub character_front : List ℕ → Front
character_front rest = character_of_item (item_len 39 rest) rest

-- how many bytes a line text has: up to the end of its line, without a carriage return directly before the line feed
abbrev pub line_text_len : List ℕ → ℕ
line_text_len rest = if nat_lt (line_len rest) (length rest) && slice_index rest (line_len rest - 1) == 13 then line_len rest - 1 else line_len rest

-- the longest sign that stands here
abbrev pub sign_of_place : Option ℕ → ℕ → Front
sign_of_place None n = refused BadToken
sign_of_place (Some k) n = accepted (Sign k) n

abbrev pub sign_front : List ℕ → Front
sign_front rest = sign_of_place (place_in signs (take (longest_len signs rest) rest)) (longest_len signs rest)

-- a line text begins with `\\`; what else begins with none of the marks is a sign
abbrev pub line_or_sign_front : List ℕ → Front
line_or_sign_front rest = if starts_with nat_eq rest (92 ∷ 92 ∷ []) then accepted LineText (line_text_len rest) else sign_front rest

-- what begins with neither a letter, a digit nor `_`
abbrev pub mark_front : List ℕ → Front
mark_front [] = refused BadToken
mark_front (b ∷ rest) =
    if b == 34 then text_front rest
    else (if b == 39 then character_front rest
    else (if b == 64 then at_front rest
    else line_or_sign_front (b ∷ rest)))

unfoldable pub front : List ℕ → Front
front rest = if starts_word rest then word_front rest else (if starts_number rest then number_front rest else mark_front rest)
