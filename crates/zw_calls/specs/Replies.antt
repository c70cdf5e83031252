-- Replies: the numbers that the lines of the input give. This project's own.
use Rattle.std.specs.Prelude.{◌≡◌, ℕ, ◌<◌, ◌≤◌, Bool, false, not, nat_lt, List, [], ◌∷◌, length, Option, Some, None, Result, Ok, Err, if◌then◌else◌, int_lt, pos, negsuc}
use Rattle.std.specs.List.{position_from}
use Rattle.std.specs.Str.Lines.{lines}
use Rattle.zw_base.specs.Numbers.{after_minus, number_spelt}
use Rattle.zw_calls.specs.Numbers.{modulo}
use Rattle.zw_calls.specs.Words.{is_numeral}
use Rattle.zw_calls.specs.declared.replies.ReplyErr.{ReplyErr}
use Rattle.zw_calls.specs.declared.replies.ReplyErr.TheVariants.{BadLine, TooLong, Oom}

-- an optional `-` and one decimal digit or more, with a value from -2^63 to 2^64 - 1
abbrev pub is_reply : List ℕ → Bool
is_reply line =
    if is_numeral (after_minus line)
    then (if int_lt (number_spelt line) (negsuc 9223372036854775807) then false else not (int_lt (pos 18446744073709551615) (number_spelt line)))
    else false

-- the reply that a line gives, modulo 2^64
abbrev pub reply_of : List ℕ → ℕ
reply_of line = modulo 18446744073709551616 (number_spelt line)

-- a line that isn't empty and gives no reply
abbrev pub is_bad : List ℕ → Bool
is_bad line = if nat_lt 0 (length line) then not (is_reply line) else false

-- the replies of lines: empty ones are passed over
abbrev pub replies_of : List (List ℕ) → List ℕ
replies_of [] = []
replies_of (line ∷ lines) = if nat_lt 0 (length line) then reply_of line ∷ replies_of lines else replies_of lines

-- the number of the first bad line, where they are counted from 1 and empty ones too
abbrev pub first_bad : List (List ℕ) → Option ℕ
first_bad lines = position_from is_bad 1 lines

-- the replies that the input's bytes give, or why they give none: more than 16,777,216 bytes are too long
abbrev pub AreReplies : List ℕ → Result (List ℕ) ReplyErr → Type 0
AreReplies bytes (Ok replies) = (length bytes ≤ 16777216) × (first_bad (lines bytes) ≡ None) × (replies ≡ replies_of (lines bytes))
AreReplies bytes (Err (BadLine line)) = (length bytes ≤ 16777216) × (first_bad (lines bytes) ≡ Some line)
AreReplies bytes (Err TooLong) = 16777216 < length bytes
AreReplies bytes (Err Oom) = Unit {0}
