-- Reading by a grammar: from the left to the right, always what is to be read first, and an alternative that is taken is never
-- taken back.
use Rattle.std.specs.Prelude.{◌≡◌, ℕ, suc, ◌==◌, Bool, true, List, [], ◌∷◌, ◌++◌, Option, Some, None, slice_get, option_and_then, if◌then◌else◌}
use Rattle.std.specs.Option.{option_map}
use Rattle.std.specs.List.{list_any}
use Rattle.zw_grammar.specs.Plain.{PlainAlternative, PlainRule}
use Rattle.zw_grammar.specs.declared.grammar.Symbol.{Symbol}
use Rattle.zw_grammar.specs.declared.grammar.Symbol.TheVariants.{Take, Read, Build}
use Rattle.zw_grammar.specs.Building.{Building, marked}

-- one of these terminals, or any where there are none
abbrev pub is_first : List ℕ → ℕ → Bool
is_first [] terminal = true
is_first (first ∷ others) terminal = list_any (λ other. other == terminal) (first ∷ others)

-- what the first of these alternatives reads that the terminal chooses
abbrev pub first_choice : List PlainAlternative → ℕ → Option (List Symbol)
first_choice [] terminal = None
first_choice (alternative ∷ others) terminal =
    if is_first alternative.first terminal then Some alternative.symbols else first_choice others terminal

-- what the rule with this number reads before the terminal
abbrev pub choice : List PlainRule → ℕ → ℕ → Option (List Symbol)
choice rules number terminal = option_and_then (λ rule. first_choice rule.alternatives terminal) (slice_get rules number)

-- how far a text is read: what is still to be read, the number of the next terminal, and what is built
pub record Reading : Type 0 where
  pub stack : List Symbol
  pub next : ℕ
  pub building : Building

-- what is next is read
abbrev pub step : List PlainRule → List ℕ → List Symbol → ℕ → Building → Option Reading
step rules text [] next b = None
step rules text (Take terminal ∷ rest) next b =
    option_and_then (λ other. if other == terminal then Some (record { stack = rest; next = suc next; building = b }) else None) (slice_get text next)
step rules text (Read number ∷ rest) next b =
    option_map (λ symbols. record { stack = symbols ++ rest; next = next; building = b }) (option_and_then (choice rules number) (slice_get text next))
step rules text (Build mark ∷ rest) next b = Some (record { stack = rest; next = next; building = marked text next mark b })

abbrev pub after : List PlainRule → List ℕ → Reading → Option Reading
after rules text r = step rules text r.stack r.next r.building

-- from one reading the text leads to another, in any number of steps
pub data Leads (rules : List PlainRule) (text : List ℕ) : Reading → Reading → Type 0 where
  here : (r : Reading) → Leads rules text r r
  on : (r m s : Reading) → after rules text r ≡ Some m → Leads rules text m s → Leads rules text r s
