-- What becomes of one terminal.
use Rattle.std.specs.Prelude.{◌≡◌, ℕ, suc, List, [], reverse, Option, Some, None, if◌then◌else◌, nat_le}
use Rattle.zw_grammar.specs.Plain.{PlainRule}
use Rattle.zw_grammar.specs.declared.builder.Builder.{Builder}
use Rattle.zw_grammar.specs.declared.builder.Built.{Built}
use Rattle.zw_grammar.specs.declared.grammar.Symbol.{Symbol}
use Rattle.zw_grammar.specs.declared.machine.Turn.{Turn}
use Rattle.zw_grammar.specs.declared.machine.Turn.TheVariants.{Taken, Refused, Behind}
use Rattle.zw_grammar.specs.declared.machine.End.{End}
use Rattle.zw_grammar.specs.declared.machine.End.TheVariants as ends
use Rattle.zw_grammar.specs.Building.{Building}
use Rattle.zw_grammar.specs.Reading.{Reading, Leads, after}
use Rattle.zw_grammar.specs.Nodes.{HoldsBehind}

-- the reading of a stack whose top is its last symbol
abbrev pub reading : List Symbol → ℕ → Building → Reading
reading stack next b = record { stack = reverse stack; next = next; building = b }

-- the text leads from a reading to a stack and a builder, behind these older nodes
pub record Comes (rules : List PlainRule) (text : List ℕ) (from : Reading) (stack : List Symbol) (next : ℕ) (older : List Built) (builder : Builder) : Type 0 where
  pub building : Building
  pub leads : Leads rules text from (reading stack next building)
  pub holds : HoldsBehind older builder building

-- the text leads from a reading to the taking of this terminal, and that to a stack and a builder
pub record Takes (rules : List PlainRule) (text : List ℕ) (from : Reading) (stack : List Symbol) (next : ℕ) (older : List Built) (builder : Builder) : Type 0 where
  pub before : Reading
  pub leads : Leads rules text from before
  pub next_is : before.next ≡ next
  pub taken : after rules text before ≡ Some (reading stack (suc next) before.building)
  pub holds : HoldsBehind older builder before.building

-- the text leads from a reading to one that can't go on before this terminal, with something left to read
pub record Sticks (rules : List PlainRule) (text : List ℕ) (from : Reading) (next : ℕ) (older : List Built) (builder : Builder) : Type 0 where
  pub at : Reading
  pub leads : Leads rules text from at
  pub stuck : after rules text at ≡ None
  pub unread : at.stack ≡ [] → ⊥
  pub next_is : at.next ≡ next
  pub holds : HoldsBehind older builder at.building

-- what became of the terminal with this number
abbrev pub Turns : List PlainRule → List ℕ → Reading → ℕ → Turn → List Symbol → List Built → Builder → Type 0
Turns rules text from next Taken stack older builder = Takes rules text from stack next older builder
Turns rules text from next Refused stack older builder = Sticks rules text from next older builder
Turns rules text from next Behind stack older builder = Comes rules text from [] next older builder

-- how the reading ends, by where the first rule begins that is nested too deep
abbrev pub end_of : Turn → Option ℕ → ℕ → Option End
end_of Taken None at = None
end_of Behind None at = Some (ends.Read at)
end_of Refused None at = Some (ends.Wrong at)
end_of Taken (Some place) at = Some (ends.Nested place)
end_of Behind (Some place) at = Some (ends.Nested place)
end_of Refused (Some place) at = if nat_le at place then Some (ends.Wrong at) else Some (ends.Nested place)
