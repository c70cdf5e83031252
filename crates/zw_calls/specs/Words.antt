-- The kinds of words in a list of calls. This project's own.
use Rattle.std.specs.Prelude.{ℕ, Bool, true, false, not, nat_lt, nat_eq, List, codes, length, if◌then◌else◌}
use Rattle.std.specs.Char.{is_ascii_digit}
use Rattle.std.specs.List.{list_all, starts_with}
use Rattle.std.specs.Str.{bytes_eq}
use Rattle.zw_base.specs.Numbers.{after_minus}

-- one decimal digit or more
abbrev pub is_numeral : List ℕ → Bool
is_numeral text = if nat_lt 0 (length text) then list_all is_ascii_digit text else false

-- an argument of a call: `true`, `false`, or an optional `-` and one decimal digit or more
abbrev pub is_argument : List ℕ → Bool
is_argument word =
    if bytes_eq word (codes "true") then true else (if bytes_eq word (codes "false") then true else is_numeral (after_minus word))

-- the name of a call: any other word that isn't empty and doesn't begin with `--`
abbrev pub is_name : List ℕ → Bool
is_name word =
    if nat_lt 0 (length word) then (if starts_with nat_eq word (codes "--") then false else not (is_argument word)) else false

-- the word before the number of steps
abbrev pub is_steps : List ℕ → Bool
is_steps word = bytes_eq word (codes "--steps")
