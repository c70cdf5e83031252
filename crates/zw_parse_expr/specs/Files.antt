-- Files: the members of a struct up to the end of the text, and the first token after which no file goes on.
use Rattle.std.specs.Prelude.{◌≡◌, ℕ, suc, ◌-◌, ◌<◌, List, [], ◌∷◌, ◌++◌, length, take, None}
use Rattle.zw_grammar.specs.declared.builder.Builder.{Builder}
use Rattle.zw_grammar.specs.declared.grammar.Symbol.{Symbol}
use Rattle.zw_grammar.specs.declared.grammar.Symbol.TheVariants as symbols
use Rattle.zw_grammar.specs.declared.machine.End.{End}
use Rattle.zw_grammar.specs.declared.machine.End.TheVariants.{Read, Wrong, Nested}
use Rattle.zw_grammar.specs.Building.{Building}
use Rattle.zw_grammar.specs.Nodes.{Holds}
use Rattle.zw_grammar.specs.Texts.{Reads, IsNested}
use Rattle.zw_parse_expr.specs.declared.rule.TheConstants.{STRUCT_MEMBERS}
use Rattle.zw_parse_expr.specs.Lexemes.{Lexeme, terminals_of, EndsOnce}
use Rattle.zw_parse_expr.specs.Rules.{rules}

-- what a file is read by
abbrev pub file_start : List Symbol
file_start = symbols.Read STRUCT_MEMBERS ∷ []

-- the tokens are a file, however deep its rules nest, and this is built of them
pub record IsFile (list : List Lexeme) (b : Building) : Type 0 where
  pub ends : EndsOnce list
  pub reads : Reads rules file_start (terminals_of list) 0 (length list - 1) b

-- this token is the first from the left after which no file goes on
pub record IsWrongFile (list : List Lexeme) (place : ℕ) : Type 0 where
  pub within : place < length list
  pub goes : (more : List Lexeme) × (b : Building) × IsFile (take place list ++ more) b
  pub stops : (more : List Lexeme) (b : Building) → IsFile (take (suc place) list ++ more) b → ⊥

-- this token begins the first rule of a file that is nested too deep, and what is read before it is right
abbrev pub IsNestedFile : List Lexeme → ℕ → Type 0
IsNestedFile list place = IsNested rules file_start (terminals_of list) 0 place

-- the tokens are a file with no rule nested too deep, and the builder holds what is built
pub record IsReadFile (list : List Lexeme) (builder : Builder) (to : ℕ) : Type 0 where
  pub building : Building
  pub file : IsFile list building
  pub flat : building.passed ≡ None
  pub holds : Holds builder building
  pub at_end : to ≡ length list - 1

-- this token is wrong, and no rule before it is nested too deep
pub record StopsFile (list : List Lexeme) (place : ℕ) : Type 0 where
  pub wrong : IsWrongFile list place
  pub flat : (other : ℕ) → IsNestedFile list other → ⊥

-- how the reading of a file ends
abbrev pub FileEnds : List Lexeme → Builder → End → Type 0
FileEnds list builder (Read to) = IsReadFile list builder to
FileEnds list builder (Wrong place) = StopsFile list place
FileEnds list builder (Nested place) = IsNestedFile list place
