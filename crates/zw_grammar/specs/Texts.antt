-- What is said of whole texts, as lists of terminals.
use Rattle.std.specs.Prelude.{◌≡◌, ℕ, suc, ◌<◌, ◌⊎◌, List, [], ◌++◌, length, take, Some}
use Rattle.zw_grammar.specs.Plain.{PlainRule}
use Rattle.zw_grammar.specs.declared.grammar.Symbol.{Symbol}
use Rattle.zw_grammar.specs.Building.{Building, nothing}
use Rattle.zw_grammar.specs.Reading.{Reading, Leads}

-- these symbols are to be read from this terminal on
abbrev pub begins : List Symbol → ℕ → Reading
begins start from = record { stack = start; next = from; building = nothing }

-- the symbols are read from one terminal up to another, and this is built
pub record Reads (rules : List PlainRule) (start : List Symbol) (text : List ℕ) (from to : ℕ) (b : Building) : Type 0 where
  pub leads : Leads rules text (begins start from) (record { stack = []; next = to; building = b })
  pub before : to < length text

-- some text that begins so has what the symbols read, however deep its rules nest
abbrev pub GoesOn : List PlainRule → List Symbol → List ℕ → ℕ → Type 0
GoesOn rules start text from = (more : List ℕ) × (to : ℕ) × (b : Building) × Reads rules start (text ++ more) from to b

-- this terminal is the first from the left after which no text goes on
pub record IsWrong (rules : List PlainRule) (start : List Symbol) (text : List ℕ) (from place : ℕ) : Type 0 where
  pub within : place < length text
  pub goes : GoesOn rules start (take place text) from
  pub ends : GoesOn rules start (take (suc place) text) from → ⊥

-- this terminal begins the first rule that is nested too deep, and no wrong one stands there or before it: it is taken, or all is
-- read before it
pub record IsNested (rules : List PlainRule) (start : List Symbol) (text : List ℕ) (from place : ℕ) : Type 0 where
  pub reading : Reading
  pub leads : Leads rules text (begins start from) reading
  pub passed : reading.building.passed ≡ Some place
  pub taken : (place < reading.next) ⊎ (reading.stack ≡ [])
