-- The kinds of bytes that tokens are made of, the bytes that no text may have, and what stands between tokens.
use Rattle.std.specs.Prelude.{ℕ, Bool, ◌&&◌, ◌||◌, ◌==◌, not, nat_lt, nat_eq, List, [], ◌∷◌, false, if◌then◌else◌}
use Rattle.std.specs.Char.{is_ascii_alphabetic, is_ascii_digit}
use Rattle.std.specs.List.{starts_with, position_or_len}

-- blank, tab, line feed or carriage return
unfoldable pub is_white : ℕ → Bool
is_white b = b == 32 || b == 9 || b == 10 || b == 13

-- what a name begins with: a letter or `_`
unfoldable pub is_name_start : ℕ → Bool
is_name_start b = is_ascii_alphabetic b || b == 95

-- what a name goes on with: a letter, `_` or a digit
unfoldable pub is_name_byte : ℕ → Bool
is_name_byte b = is_name_start b || is_ascii_digit b

-- a name or a keyword begins here
abbrev pub starts_word : List ℕ → Bool
starts_word [] = false
starts_word (b ∷ bs) = is_name_start b

-- a number begins here
abbrev pub starts_number : List ℕ → Bool
starts_number [] = false
starts_number (b ∷ bs) = is_ascii_digit b

-- `.` and a digit stand here
abbrev pub starts_fraction : List ℕ → Bool
starts_fraction [] = false
starts_fraction (b ∷ []) = false
starts_fraction (b ∷ c ∷ bs) = b == 46 && is_ascii_digit c

-- a control that no text may have: below 32, and neither tab, line feed nor carriage return; or delete
unfoldable pub is_bad_control : ℕ → Bool
is_bad_control b = (nat_lt b 32 && not (b == 9 || b == 10 || b == 13)) || b == 127

-- one of the code points U+0085, U+2028 and U+2029 stands here: ends of lines for others, and not for the language
abbrev pub starts_separator : List ℕ → Bool
starts_separator rest = starts_with nat_eq rest (0xC2 ∷ 0x85 ∷ []) || starts_with nat_eq rest (0xE2 ∷ 0x80 ∷ 0xA8 ∷ []) || starts_with nat_eq rest (0xE2 ∷ 0x80 ∷ 0xA9 ∷ [])

-- a control or a separator that no text may have stands here
unfoldable pub starts_bad : List ℕ → Bool
starts_bad [] = false
starts_bad (b ∷ bs) = is_bad_control b || starts_separator (b ∷ bs)

-- a line feed
abbrev pub is_line_feed : ℕ → Bool
is_line_feed b = b == 10

-- how many bytes stand here up to the end of the line, which is the next line feed or the end of the text
abbrev pub line_len : List ℕ → ℕ
line_len rest = position_or_len is_line_feed rest

-- white space or a comment begins here; a comment goes to the end of its line
abbrev pub starts_comment : List ℕ → Bool
starts_comment rest = starts_with nat_eq rest (47 ∷ 47 ∷ [])

abbrev pub starts_blank : List ℕ → Bool
starts_blank [] = false
starts_blank (b ∷ bs) = is_white b || starts_comment (b ∷ bs)

-- how many bytes of blank begin here: one byte of white space, or a comment
abbrev pub blank_len : List ℕ → ℕ
blank_len [] = 0
blank_len (b ∷ bs) = if is_white b then 1 else line_len (b ∷ bs)
