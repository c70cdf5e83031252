-- How the reading of a text ends.
use Rattle.std.specs.Prelude.{◌≡◌, ℕ, ◌-◌, List, length, Some, None, slice_get}
use Rattle.zw_grammar.specs.Plain.{PlainRule}
use Rattle.zw_grammar.specs.declared.builder.Builder.{Builder}
use Rattle.zw_grammar.specs.declared.builder.Built.{Built}
use Rattle.zw_grammar.specs.declared.grammar.Symbol.{Symbol}
use Rattle.zw_grammar.specs.declared.machine.End.{End}
use Rattle.zw_grammar.specs.declared.machine.End.TheVariants.{Read, Wrong, Nested}
use Rattle.zw_grammar.specs.Building.{Building}
use Rattle.zw_grammar.specs.Completions.{CanComplete}
use Rattle.zw_grammar.specs.Nodes.{HoldsBehind}
use Rattle.zw_grammar.specs.Texts.{Reads, IsWrong, IsNested}

-- a text ends with a terminal that no rule takes, and before which each rule can be completed
pub record IsText (rules : List PlainRule) (start : List Symbol) (text : List ℕ) : Type 0 where
  pub end : ℕ
  pub last : slice_get text (length text - 1) ≡ Some end
  pub complete : CanComplete rules start end

-- the symbols are read up to this terminal with no rule nested too deep, and the builder holds what is built, behind these older nodes
pub record IsRead (rules : List PlainRule) (start : List Symbol) (text : List ℕ) (from to : ℕ) (older : List Built) (builder : Builder) : Type 0 where
  pub building : Building
  pub reads : Reads rules start text from to building
  pub flat : building.passed ≡ None
  pub holds : HoldsBehind older builder building

-- this terminal is wrong, and no rule before it is nested too deep
pub record StopsAt (rules : List PlainRule) (start : List Symbol) (text : List ℕ) (from place : ℕ) : Type 0 where
  pub wrong : IsWrong rules start text from place
  pub flat : (other : ℕ) → IsNested rules start text from other → ⊥

abbrev pub Ends : List PlainRule → List Symbol → List ℕ → ℕ → List Built → Builder → End → Type 0
Ends rules start text from older builder (Read to) = IsRead rules start text from to older builder
Ends rules start text from older builder (Wrong place) = StopsAt rules start text from place
Ends rules start text from older builder (Nested place) = IsNested rules start text from place
