-- What the bytes of a character, a text, a line text or a quoted name stand for.
use Rattle.std.specs.Prelude.{ℕ, Bool, not, ◌==◌, List, [], ◌∷◌, drop, if◌then◌else◌}
use Rattle.std.specs.List.{list_all}
use Rattle.zw_token.specs.Literals.{items_bytes, item_number}

-- the number that a character stands for: that of the item behind its first quote
abbrev pub character_of : List ℕ → ℕ
character_of literal = item_number (drop 1 literal)

-- the bytes that a literal stands for: the items behind `"` of a text, behind `@"` of a quoted name, and all the bytes behind the
-- `\\` of a line text
abbrev pub text_of : List ℕ → List ℕ
text_of [] = []
text_of (b ∷ rest) = if b == 34 then items_bytes 34 rest else (if b == 64 then items_bytes 34 (drop 1 rest) else drop 1 rest)

-- no `\` is among these bytes
abbrev pub has_no_escape : List ℕ → Bool
has_no_escape bytes = list_all (λ b. not (b == 92)) bytes
