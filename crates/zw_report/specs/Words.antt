-- Words: what each line is, whatever it tells: words of visible ASCII with one blank before each but the first, and LF at the end alone.
use Rattle.std.specs.Prelude.{◌≡◌, ℕ, true, List, ◌∷◌, ◌++◌, codes}
use Rattle.std.specs.List.{flat_map, list_all}
use Rattle.zw_report.specs.Lines.{is_plain, word}

-- the line of these words
abbrev pub line_of : List ℕ → List (List ℕ) → List ℕ
line_of first others = first ++ flat_map word others ++ codes "\n"

abbrev pub ArePlain : List (List ℕ) → Type 0
ArePlain words = list_all is_plain words ≡ true

abbrev pub IsLine : List ℕ → Type 0
IsLine bytes = (first : List ℕ) × (others : List (List ℕ)) × ArePlain (first ∷ others) × (bytes ≡ line_of first others)
