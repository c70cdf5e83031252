-- Parts of texts over their tokens: what some symbols read from one token on, and the first token after which no text has it.
use Rattle.std.specs.Prelude.{◌≡◌, ℕ, suc, ◌<◌, List, ◌++◌, length, take, None}
use Rattle.zw_grammar.specs.declared.builder.Builder.{Builder}
use Rattle.zw_grammar.specs.declared.builder.Built.{Built}
use Rattle.zw_grammar.specs.declared.grammar.Symbol.{Symbol}
use Rattle.zw_grammar.specs.declared.machine.End.{End}
use Rattle.zw_grammar.specs.declared.machine.End.TheVariants.{Read, Wrong, Nested}
use Rattle.zw_grammar.specs.Building.{Building}
use Rattle.zw_grammar.specs.Nodes.{HoldsBehind}
use Rattle.zw_grammar.specs.Texts.{Reads, IsNested}
use Rattle.zw_parse_expr.specs.Lexemes.{Lexeme, terminals_of, EndsOnce}
use Rattle.zw_parse_expr.specs.Rules.{rules}

-- of the tokens of a text the symbols read those from one up to another, however deep rules nest, and this is built
pub record IsPart (start : List Symbol) (list : List Lexeme) (from to : ℕ) (b : Building) : Type 0 where
  pub ends : EndsOnce list
  pub reads : Reads rules start (terminals_of list) from to b

-- this token is the first from the left after which no text goes on that has such a part
pub record IsWrongPart (start : List Symbol) (list : List Lexeme) (from place : ℕ) : Type 0 where
  pub within : place < length list
  pub goes : (more : List Lexeme) × (to : ℕ) × (b : Building) × IsPart start (take place list ++ more) from to b
  pub stops : (more : List Lexeme) (to : ℕ) (b : Building) → IsPart start (take (suc place) list ++ more) from to b → ⊥

-- the part is read with no rule nested too deep, and the builder holds what is built, behind the nodes that it had
pub record IsReadPart (start : List Symbol) (list : List Lexeme) (from : ℕ) (older : List Built) (builder : Builder) (to : ℕ) : Type 0 where
  pub building : Building
  pub part : IsPart start list from to building
  pub flat : building.passed ≡ None
  pub holds : HoldsBehind older builder building

-- this token is wrong, and no rule before it is nested too deep
pub record StopsPart (start : List Symbol) (list : List Lexeme) (from place : ℕ) : Type 0 where
  pub wrong : IsWrongPart start list from place
  pub flat : (other : ℕ) → IsNested rules start (terminals_of list) from other → ⊥

-- how the reading of a part ends, into a builder that had these nodes
abbrev pub PartEnds : List Symbol → List Lexeme → ℕ → List Built → Builder → End → Type 0
PartEnds start list from older builder (Read to) = IsReadPart start list from older builder to
PartEnds start list from older builder (Wrong place) = StopsPart start list from place
PartEnds start list from older builder (Nested place) = IsNested rules start (terminals_of list) from place
