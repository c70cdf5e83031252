-- Which alternative of a rule a terminal chooses, by its place in the rule, and these places for all rules and terminals.
use Rattle.std.specs.Prelude.{ℕ, zero, suc, ◌+◌, min, List, [], ◌∷◌, ◌++◌, if◌then◌else◌}
use Rattle.zw_grammar.specs.Plain.{PlainAlternative, PlainRule}
use Rattle.zw_grammar.specs.Reading.{is_first}

-- how many alternatives stand before the first that the terminal chooses, with so many before these; 255 stands for more too
abbrev pub place_from : ℕ → List PlainAlternative → ℕ → ℕ
place_from before [] terminal = before
place_from before (alternative ∷ others) terminal =
    if is_first alternative.first terminal then before else place_from (min (before + 1) 255) others terminal

-- the places for the terminals below this one
abbrev pub places_below : ℕ → List PlainAlternative → List ℕ
places_below zero alternatives = []
places_below (suc terminal) alternatives = places_below terminal alternatives ++ (place_from 0 alternatives terminal ∷ [])

-- the places of all rules, for 128 terminals each
abbrev pub all_places : List PlainRule → List ℕ
all_places [] = []
all_places (rule ∷ others) = places_below 128 rule.alternatives ++ all_places others
