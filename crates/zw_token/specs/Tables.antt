-- What stands in a table of words or signs.
use Rattle.std.specs.Prelude.{◌≡◌, ℕ, suc, ◌-◌, ◌<◌, ◌≤◌, ◌&&◌, ◌||◌, Bool, true, List, [], ◌∷◌, length, take, map, max, Option, Some, slice_get, nat_eq, nat_lt, nat_le, slice_index, slice_index_or, is_some, position, if◌then◌else◌}
use Rattle.std.specs.Borrow.{Bor}
use Rattle.std.specs.List.{fold, starts_with}
use Rattle.std.specs.Str.{bytes_eq}
use Rattle.zw_token.specs.declared.tables.TheConstants.{KEYWORDS, REFUSED_KEYWORDS, REFUSED_NAMES, SIGNS, SIGN_GROUPS, BUILTINS}

-- the bytes of each text of a table
abbrev pub texts : List (Bor (List ℕ)) → List (List ℕ)
texts table = map (λ text. text.now) table

-- the keywords, of which some are refused
abbrev pub keywords : List (List ℕ)
keywords = map (λ text. text.now) KEYWORDS

-- the keywords of the language that are refused
abbrev pub refused_keywords : List (List ℕ)
refused_keywords = map (λ text. text.now) REFUSED_KEYWORDS

-- the names of types that aren't in the profile
abbrev pub refused_names : List (List ℕ)
refused_names = map (λ text. text.now) REFUSED_NAMES

-- operators and punctuation
abbrev pub signs : List (List ℕ)
signs = map (λ text. text.now) SIGNS

-- from which place of the signs on and up to which those stand that begin with this byte
abbrev pub sign_group : ℕ → ℕ × ℕ
sign_group first = if nat_lt first 33 || nat_lt 126 first then (0, 0) else slice_index_or SIGN_GROUPS (first - 33) (0, 0)

-- the names of builtin functions, without their `@`
abbrev pub builtins : List (List ℕ)
builtins = map (λ text. text.now) BUILTINS

-- from which place of a table on and up to which the texts stand that begin with this byte: `starts` has the place where those of
-- each byte from `A` to `z` begin, and behind them the place where the last ones end
abbrev pub letter_group : List ℕ → ℕ → ℕ × ℕ
letter_group starts first = if nat_lt first 65 || nat_lt 122 first then (0, 0) else (slice_index starts (first - 65), slice_index starts (first - 64))

-- each text of the table, whose first has the place k, stands where those are that begin with the same byte
abbrev pub are_grouped : List ℕ → ℕ → List (List ℕ) → Bool
are_grouped starts k [] = true
are_grouped starts k (text ∷ table) = nat_le (letter_group starts (slice_index text 0)).0 k && nat_lt k (letter_group starts (slice_index text 0)).1 && are_grouped starts (suc k) table

-- these bytes stand in the table
abbrev pub IsIn : List (List ℕ) → List ℕ → Type 0
IsIn table bytes = (k : ℕ) × (slice_get table k ≡ Some bytes)

-- the place of these bytes in the table
abbrev pub place_in : List (List ℕ) → List ℕ → Option ℕ
place_in table bytes = position (λ text. bytes_eq text bytes) table

abbrev pub is_in : List (List ℕ) → List ℕ → Bool
is_in table bytes = is_some (place_in table bytes)

-- no text of the table of more than n bytes is a front of these bytes
abbrev pub NoLongerFront : List (List ℕ) → List ℕ → ℕ → Type 0
NoLongerFront table rest n = (m : ℕ) → n < m → m ≤ length rest → ¬ IsIn table (take m rest)

-- how many bytes the longest text of the table has that stands here; 0 where none does
abbrev pub longest_len : List (List ℕ) → List ℕ → ℕ
longest_len table rest = fold (λ longest text. if starts_with nat_eq rest text then max longest (length text) else longest) 0 table
